-- The charge in which a run stops.
use Rattle.std.proofs.Common.{◌≡◌, ℕ, ◌+◌, ◌-◌, refl, sym, ap, ◌∙◌, subst, List, [], ◌∷◌, ◌++◌, append-nil, map, ◌==◌, if◌then◌else◌, Option, Some, None, Err}
use Rattle.msp_cycles.specs.Cycles.{cycles_of}
use Rattle.msp_step.specs.declared.machine.Stop.{Stop}
use Rattle.fram_board.specs.declared.board.NextStep.{NextStep}
use Rattle.fram_board.specs.Board.{BoardValue, powered, executed, performed, at_boundary, IsNextStep, HasNoStep}
use Rattle.fram_board.specs.Steps.{IsPowerState}
use Rattle.fram_board.specs.Effects.{Effect, Store, Take, Outside, effects_of}
use Rattle.fram_board.specs.Run.{Measure, price, Moment, moment_of, Stopped, RunOutcome, run_outcome, BoardCharge, Run, Over, Next, Last, power_up_of}
use Rattle.fram_board.specs.Run.{ChargeRun, Spent, NoInstruction, TooDear, Refused, Executed}
use Rattle.machine_effects.specs.World.{EachStore}
use Rattle.machine_effects.specs.Going.{Stops, At, Halted, stretch, after_effects, continued, going}
use Rattle.machine_effects.specs.Machine.{MachineBoard, MachineOutcome, MachineStretch}
use Rattle.machine_effects.specs.Inputs.{Look, SeeWords, look_effects}
use Rattle.machine_effects.specs.View.{looks_at}
use Rattle.machine_effects.specs.Runs.{last_board}
use Rattle.machine_effects.proofs.Interface.{takes, left_of}
use Rattle.crash_rules.specs.Model.{IsElsewhere, Marks, words_stored, answers_at, answers_in}
use Rattle.crash_rules.specs.History.{History, observe, behind_boot}
use Rattle.crash_rules.specs.Runs.{IsPoweredFrom}
use Rattle.crash_rules.proofs.Interface.{takes_store_none, observe-append, observe_quiet, with_effects, goes_on}
use Rattle.run_charges.specs.View.{looks_in, all_outside_effects}
use Rattle.run_charges.specs.Moments.{AreMoments}
use Rattle.run_charges.specs.Charges.{ArePowerStates, AreInstructionMoments, observed, program_steps, program_cycles}
use Rattle.run_charges.proofs.Moments.{first_start, other_starts, charge_instructs, nothing_seen}
use Rattle.run_charges.proofs.Running.{PlacedProgram, Machine, relooked, Running, looks_of, sees_of, none_to_make, refused_on, runs_on, charge_moments}
use Rattle.run_charges.proofs.Reaching.{Reach, instructions_reach, looks_see}
use Rattle.run_charges.proofs.Programs.{observed-append, instructions_observed, begun, is_powered, is_powered_from, first_machine, running, Reached}
use Rattle.run_charges.proofs.Programs.{powered_there}
use Rattle.run_charges.proofs.Spent.{spent_reached}

-- steps behind steps
going_on : (step : MachineBoard → MachineOutcome) (n : ℕ) (s : MachineBoard) (k : ℕ) (t : MachineBoard) (es : List Effect) (c : ℕ)
    → going step n s ≡ stretch es c (At t) → going step (n + k) s ≡ after_effects es c (going step k t)
going_on step n s k t es c e =
    goes_on step n s t (ap (λ (r : MachineStretch). r.status) e) k ∙ ap (λ (r : MachineStretch). after_effects r.effects r.cycles (going step k t)) e

takes_elsewhere : (gate : ℕ) (ws : List ℕ) → EachStore (IsElsewhere gate) (map (λ w. Take w) ws)
takes_elsewhere gate [] = tt
takes_elsewhere gate (w ∷ ws) = (tt, takes_elsewhere gate ws)

-- a look, and readings taken
abbrev looks_and_takes : List Look → List ℕ → List Effect
looks_and_takes looks ws = look_effects looks ++ takes ws

seen_elsewhere : (gate : ℕ) (looks : List Look) (ws : List ℕ) → EachStore (IsElsewhere gate) (looks_and_takes looks ws)
seen_elsewhere gate [] ws = takes_elsewhere gate ws
seen_elsewhere gate (look ∷ more) ws = (tt, takes_elsewhere gate ws)

-- they store nothing
seen_stores_none : (answer : Option ℕ) (looks : List Look) (ws : List ℕ) → answers_at answer (looks_and_takes looks ws) ≡ []
seen_stores_none None looks ws = refl
seen_stores_none (Some a) [] ws = takes_store_none a ws
seen_stores_none (Some a) (look ∷ more) ws = takes_store_none a ws

stored_no_more : (a : ℕ) (es fs : List Effect) → words_stored a fs ≡ [] → words_stored a (es ++ fs) ≡ words_stored a es
stored_no_more a [] fs e = e
stored_no_more a (Store b w ∷ es) fs e = ap (λ l. if b == a then w ∷ l else l) (stored_no_more a es fs e)
stored_no_more a (Take w ∷ es) fs e = stored_no_more a es fs e
stored_no_more a (Outside o ∷ es) fs e = stored_no_more a es fs e

answered_no_more : (answer : Option ℕ) (es fs : List Effect) → answers_at answer fs ≡ [] → answers_at answer (es ++ fs) ≡ answers_at answer es
answered_no_more None es fs e = refl
answered_no_more (Some a) es fs e = stored_no_more a es fs e

-- readings that are taken behind the last instruction, and what it saw, are no events, and no answers
pub record SameDones (marks : Marks) (h k : History) : Type 0 where
  pub completed : k.completed ≡ h.completed
  pub since : k.since ≡ h.since
  pub answers : answers_in marks k.effects ≡ answers_in marks h.effects

taken_more : (marks : Marks) (es : List Effect) (looks : List Look) (ws : List ℕ) (h : History)
    → SameDones marks (observe marks es h) (observe marks (es ++ looks_and_takes looks ws) h)
taken_more marks es looks ws h =
    let fs : List Effect = looks_and_takes looks ws in
    let all : observe marks (es ++ fs) h ≡ with_effects fs (observe marks es h) =
    observe-append marks es fs h ∙ observe_quiet marks fs (observe marks es h) (seen_elsewhere marks.gate looks ws) in
    record {
      completed = ap (λ k. k.completed) all;
      since = ap (λ k. k.since) all;
      answers = ap (λ k. answers_in marks k.effects) all
          ∙ answered_no_more marks.answer (observe marks es h).effects fs (seen_stores_none marks.answer looks ws);
    }

module _ (on : PlacedProgram) where
  abbrev step : MachineBoard → MachineOutcome
  step = on.program.step

  -- at the step behind these moments the program halts, behind what this one saw and the readings that it took
  record HaltsBehind (b : BoardValue) (ms : List Moment) (e : Stop) : Type 0 where
    pub last_seen : List Look
    pub last_taken : List ℕ
    pub price : ℕ
    pub sees : SeeWords last_seen
    pub stops : (x : Machine on (last_board b ms) last_seen) → step x.u ≡ Stops (looks_and_takes last_seen last_taken) price e

  -- behind one step more
  halts_more : (b : BoardValue) (m : Moment) (ms : List Moment) (e : Stop) → HaltsBehind m.after ms e → HaltsBehind b (m ∷ ms) e
  halts_more b m ms e h =
      record { last_seen = h.last_seen; last_taken = h.last_taken; price = h.price; sees = h.sees; stops = h.stops }

  nothing_halts : (b : BoardValue) → Running on b → (e : Stop) → HasNoStep b e → HaltsBehind b [] e
  nothing_halts b run e h = record {
    last_seen = [];
    last_taken = [];
    price = 0;
    sees = nothing_seen;
    stops = λ x. none_to_make on b run.whole run.words [] e h x;
  }

  refused_halts : (b : BoardValue) → Running on b → (n : NextStep) (e : Stop) → IsNextStep b n → (performed b n).answer ≡ Err e → HaltsBehind b [] e
  refused_halts b run n e next a =
      let looks = looks_of b n in
      let sees : SeeWords (looks ++ []) = sees_of on b run.words n [] nothing_seen in
      let f = refused_on on b run.whole run.words [] n e next a (run.machine (looks ++ []) sees) in
      let l = left_of b f.i e f.answer in
      record {
        last_seen = looks;
        last_taken = l.words;
        price = cycles_of f.i;
        sees = subst SeeWords (append-nil looks) sees;
        stops = λ x.
            let g = refused_on on b run.whole run.words [] n e next a (relooked on b looks (looks ++ []) (sym (append-nil looks)) x) in
            let same : g.i ≡ f.i = cc (sym g.is ∙ f.is) in
            g.stops
            ∙ ap (λ i. Stops (look_effects (looks_at b i) ++ effects_of b (executed b i)) (cycles_of i) e) same
            ∙ ap (λ es. Stops (look_effects (looks_at b f.i) ++ es) (cycles_of f.i) e) l.effects
            ∙ ap (λ k. Stops (look_effects k ++ takes l.words) (cycles_of f.i) e) (sym f.looks);
      }

  charge_halts : (m : Measure) (left : ℕ) (b : BoardValue) (r : RunOutcome) → Running on b → ChargeRun m left b r → (e : Stop) → r.ending ≡ Stopped e
      → HaltsBehind b r.moments e
  charge_halts m left b r run (Spent _ _ none) e ends = absurd cc
  charge_halts m left b r run (NoInstruction _ _ x pos h) e ends =
      let same : x ≡ e = cc in subst (λ y. HaltsBehind b [] y) same (nothing_halts b run x h)
  charge_halts m left b r run (TooDear _ _ n pos c dear) e ends = absurd cc
  charge_halts m left b r run (Refused _ _ n x pos c paid a) e ends =
      let same : x ≡ e = cc in subst (λ y. HaltsBehind b [] y) same (refused_halts b run n x c a)
  charge_halts m left b r run (Executed _ _ n done rest pos c paid a h) e ends =
      halts_more b (moment_of b n done) rest.moments e
      (charge_halts m (left - price m n) (at_boundary (performed b n).board) rest (runs_on on b run n done c a) h e ends)

  -- the program halts in a charge, to which charges lead from a board and its history
  pub record HaltsIn (b : BoardValue) (first : History) (e : Stop) : Type 0 where
    pub there : BoardValue
    pub before : History
    pub at : Reached on b first there before
    pub start : MachineBoard
    pub is_powered : on.program.IsPoweredUp start
    pub from : IsPoweredFrom at.end start
    pub steps : ℕ
    pub price : ℕ
    pub halts : (going step steps start).status ≡ Halted price e

  -- moments behind which a run stops, from a history on
  pub record StopsBehind (b : BoardValue) (first known : History) (ms : List Moment) (e : Stop) : Type 0 where
    pub halts : HaltsIn b first e
    pub same : SameDones on.marks (observed on.marks ms known)
        (observe on.marks (going step halts.steps halts.start).effects (behind_boot halts.before))

  -- the charge in which it does
  module _ (b : BoardValue) (first : History) (t : BoardValue) (h : History) (at : Reached on b first t h) (d : BoardCharge) (ok : IsPowerState d.start)
      (ms : List Moment) (e : Stop) (end : BoardValue) (one : ChargeRun d.measure d.amount (powered t d.start) (run_outcome ms (Stopped e) end)) where
    abbrev stopped : RunOutcome
    stopped = run_outcome ms (Stopped e) end

    abbrev up : BoardValue
    up = powered t d.start

    runs : Running on up
    runs = running on t h at.ready d.start ok

    halted : HaltsBehind up ms e
    halted = charge_halts d.measure d.amount up stopped runs one e refl

    moments : AreMoments up ms
    moments = charge_moments on d.measure d.amount up stopped runs one

    are : AreInstructionMoments ms
    are = charge_instructs d.measure d.amount up stopped one

    -- it takes the looks of its moments, and of the instruction at which it halts
    abbrev looks : List Look
    looks = looks_in ms ++ halted.last_seen

    sees : SeeWords looks
    sees = looks_see up ms runs.whole runs.words moments halted.last_seen halted.sees

    abbrev start : MachineBoard
    start = begun on t h at.ready d.start ok looks sees

    abbrev first_there : Machine on up looks
    first_there = first_machine on t h at.ready d.start ok looks sees looks refl

    reached : Reach on up ms halted.last_seen first_there
    reached = instructions_reach on up ms runs.whole runs.words moments are halted.last_seen first_there

    abbrev steps : ℕ
    steps = program_steps ms

    -- one step further it halts
    halts_there : going step (steps + 1) start
        ≡ stretch (all_outside_effects ms ++ looks_and_takes halted.last_seen halted.last_taken) (program_cycles ms + 0) (Halted halted.price e)
    halts_there =
        going_on step steps start 1 reached.end.u (all_outside_effects ms) (program_cycles ms) reached.run
        ∙ ap (λ o. after_effects (all_outside_effects ms) (program_cycles ms) (continued o (going step 0))) (halted.stops reached.end)

    same : SameDones on.marks (observed on.marks ms (behind_boot h)) (observe on.marks (going step (steps + 1) start).effects (behind_boot h))
    same =
        let k = behind_boot h in
        let P : History → Type 0 = λ j. SameDones on.marks j (observe on.marks (going step (steps + 1) start).effects k) in
        let Q : List Effect → Type 0 = λ es. SameDones on.marks (observe on.marks (all_outside_effects ms) k) (observe on.marks es k) in
        subst P (sym (instructions_observed on.marks ms k are))
        (subst Q (ap (λ q. q.effects) (sym halts_there)) (taken_more on.marks (all_outside_effects ms) halted.last_seen halted.last_taken k))

    stops_behind : StopsBehind b first h (power_up_of t d.start ∷ ms) e
    stops_behind = record {
      halts = record {
        there = t;
        before = h;
        at = at;
        start = start;
        is_powered = is_powered on t h at.ready d.start ok looks sees;
        from = powered_there on b first t h at start (is_powered_from on t h at.ready d.start ok looks sees);
        steps = steps + 1;
        price = halted.price;
        halts = ap (λ q. q.status) halts_there;
      };
      same = same;
    }

  -- where a run stops the program halts, from a board on to which charges lead
  pub run_halts : (b : BoardValue) (first : History) (cs : List BoardCharge) (t : BoardValue) (h : History) (r : RunOutcome) → ArePowerStates cs → Run cs t r
      → Reached on b first t h → (e : Stop) → r.ending ≡ Stopped e → StopsBehind b first h r.moments e
  run_halts b first cs t h r ok (Over _) at e ends = absurd cc
  run_halts b first cs t h r ok (Next d ds _ ms end rest one more) at e ends =
      let start = first_start d ds ok in
      let next = spent_reached on t h at.ready d start ms end one b first at in
      let k = observed on.marks ms (behind_boot h) in
      let l = run_halts b first ds end k rest (other_starts d ds ok) more next e ends in
      let s = l.halts in
      let P : History → Type 0 = λ j. SameDones on.marks j (observe on.marks (going step s.steps s.start).effects (behind_boot s.before)) in
      record { halts = s; same = subst P (sym (observed-append on.marks ms rest.moments (behind_boot h))) l.same }
  run_halts b first cs t h r ok (Last d ds _ ms x end one) at e ends =
      let P : Stop → Type 0 = λ y. StopsBehind b first h (power_up_of t d.start ∷ ms) y in
      let stop : x ≡ e = cc ends in
      subst P stop (stops_behind b first t h at d (first_start d ds ok) ms x end one)
