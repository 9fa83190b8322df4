-- Each charge that is spent has as many dones as it has bounds, and is less than what its transitions cost and the one that was to come.
use Rattle.std.proofs.Common.{◌≡◌, ◌+◌, ◌*◌, ◌≤◌, ℕ, refl, subst, arith, List, [], length}
use Rattle.fram_board.specs.Board.{BoardValue, powered}
use Rattle.fram_board.specs.Steps.{IsPowerState}
use Rattle.fram_board.specs.Run.{Measure, Cycles, Instructions, Moment, Charges, RunOutcome, run_outcome, BoardCharge, ChargeRun, Run, Over, Next, Last}
use Rattle.machine_effects.specs.World.{World}
use Rattle.machine_effects.specs.Going.{going}
use Rattle.machine_effects.specs.Inputs.{SeeWords}
use Rattle.machine_effects.specs.Machine.{MachineBoard}
use Rattle.crash_rules.specs.Model.{Model, bound}
use Rattle.crash_rules.specs.History.{History, observe, behind_boot, first_history}
use Rattle.crash_rules.specs.Runs.{Program, Spends}
use Rattle.crash_rules.specs.Laws.{Origin, PowersUpBehind, TaskCosts, CoversTasks, IsSpentOn}
use Rattle.crash_rules.proofs.Interface.{tasks_pay, instructions_pay, progress_law}
use Rattle.run_charges.specs.View.{looks_in}
use Rattle.run_charges.specs.Charges.{ArePowerStates, observed, program_steps}
use Rattle.run_charges.specs.Fronts.{acceptances, events_met}
use Rattle.run_charges.proofs.Interface.{PlacedProgram, run_front, first_start, other_starts, charge_instructs, sees, is_powered, is_powered_from}
use Rattle.run_charges.proofs.Interface.{powered_there}
use Rattle.run_charges.proofs.Interface.{spent_moments, spent_seen, spent_reached, status_behind, events_arise, all_made, SpendsItsPart, is_spent, p, q}
use Rattle.model_runs.specs.Runs.{arisen_between, PaysFor, Progresses, AllSpent, SpentOne, StoppedIn}
use Rattle.model_runs.specs.Bears.{BearsModel}
use Rattle.model_runs.specs.Laws.{MakesProgress}
use Rattle.model_runs.proofs.Fronts.{stood, runs_so, AtFront, at_front, powers_up}

module _ {St : Type 0} (m : Model St) (c : Program) (readings : List ℕ) (origin : Origin St) (x : World) (b : BoardValue)
    (bears : BearsModel m c readings origin x b) (costs : TaskCosts) (covers : CoversTasks m origin costs) where
  abbrev first : History
  first = first_history m.marks x

  abbrev on : PlacedProgram
  on = stood m c readings origin x b bears

  abbrev IsReached : BoardValue → History → Type 0
  IsReached = AtFront m c readings origin x b bears

  -- a charge that is spent
  module _ (t : BoardValue) (h : History) (at : IsReached t h) (d : BoardCharge) (ok : IsPowerState d.start) (ms : List Moment) (end : BoardValue)
      (one : ChargeRun d.measure d.amount (powered t d.start) (run_outcome ms Charges end)) where
    -- the machine with which it begins
    abbrev begun : MachineBoard
    begun = p on t h at.ready d ok ms end one

    abbrev left : MachineBoard
    left = q on t h at.ready d ok ms end one

    abbrev steps : ℕ
    steps = program_steps ms

    abbrev behind : History
    behind = observed m.marks ms (behind_boot h)

    abbrev arisen : ℕ
    arisen = arisen_between t end

    abbrev see : SeeWords (looks_in ms)
    see =
        sees on t h at.ready d.start ok ms (charge_instructs d.measure d.amount (powered t d.start) (run_outcome ms Charges end) one)
        (spent_moments on t h at.ready d ok ms end one)

    abbrev up : PowersUpBehind m c readings origin begun
    up =
        powers_up m c readings origin x b bears at.charges at.end h at.charged begun
        (is_powered on t h at.ready d.start ok (looks_in ms) see)
        (powered_there on b first t h at begun (is_powered_from on t h at.ready d.start ok (looks_in ms) see))

    part : d.measure ≡ Cycles → SpendsItsPart on t h at.ready d ok ms end one
    part e = is_spent on t h at.ready d ok ms end one e

    met : events_met ms end ≤ arisen
    met = events_arise on t h at.ready d ok ms end one

    -- by the histories that its moments tell
    told : (P : History → Type 0) → P (observe m.marks (going c.step steps begun).effects (behind_boot h)) → P behind
    told P z = subst P (spent_seen on t h at.ready d ok ms end one) z

    abbrev beside : ℕ
    beside = m.delay begun.inputs + 100 * arisen

    abbrev SpentOn : ℕ → ℕ → History → Type 0
    SpentOn delay amount k = IsSpentOn costs delay amount h.completed k.completed

    -- what was spent on events too
    more_spent : (own amount : ℕ) → amount ≤ own + 100 * arisen → SpentOn (m.delay begun.inputs) own behind → SpentOn beside amount behind
    more_spent own amount rest s = let less = s.less in record { dones = s.dones; completed = s.completed; less = omega (arith, less, rest) }

    -- however it is counted
    tasks_by : (w : Measure) → d.measure ≡ w → SpentOn beside d.amount behind
    tasks_by Cycles e =
        let own = part e in
        let rest = own.rest in
        more_spent own.own d.amount (omega (arith, rest, met))
        (told (SpentOn (m.delay begun.inputs) own.own) (tasks_pay m c bears.model bears.program readings origin begun up costs covers own.own
        (record { steps = steps; end = left; spends = own.spends })))
    tasks_by Instructions e =
        let all = instructions_pay m c bears.model bears.program readings origin begun up costs covers steps left
        (status_behind on t h at.ready d ok ms end one) in
        let made = all_made on t h at.ready d ok ms end one e in
        more_spent steps d.amount (omega (arith, made, met)) (told (SpentOn (m.delay begun.inputs) steps) all)

    -- pays for its dones
    pays : PaysFor (bound m) costs (m.delay begun.inputs) d arisen h behind
    pays =
        record {
          bounds = λ e count enough.
              let own = part e in
              let rest = own.rest in
              told (λ z. count + length h.completed ≤ length z.completed)
              (progress_law m c bears.model bears.program readings origin begun up count own.own (omega (arith, enough, rest, met))
              (record { steps = steps; end = left; spends = own.spends }));
          tasks = tasks_by d.measure refl;
        }

  -- charge by charge
  progresses : (ds : List BoardCharge) (t : BoardValue) (h : History) (o : RunOutcome) → ArePowerStates ds → Run ds t o → IsReached t h
      → Progresses m.marks (bound m) costs m.delay ds t h o
  progresses ds t h o ok (Over _) at = AllSpent t h
  progresses ds t h o ok (Next d es _ ms end rest one more) at =
      let start = first_start d es ok in
      let next = spent_reached on t h at.ready d start ms end one b (first_history m.marks x) at in
      SpentOne d es t h ms end rest one (pays t h at d start ms end one)
      (progresses es end (observed m.marks ms (behind_boot h)) rest (other_starts d es ok) more next)
  progresses ds t h o ok (Last d es _ ms stop end one) at = StoppedIn d es t h ms stop end one

-- each charge that is spent has as many dones as it has bounds
pub makes_progress : {St : Type 0} (m : Model St) (c : Program) → MakesProgress m c
makes_progress m c readings origin x cs b r run bears costs covers =
    progresses m c readings origin x b bears costs covers cs b (first_history m.marks x) r run.starts run.run
    (at_front m c readings origin x b bears [] (run_front cs b r [] r.moments (runs_so m c readings origin x b bears cs r run) refl))
