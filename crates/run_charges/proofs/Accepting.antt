-- A program that takes no events runs alone: no moment is a handler's, and no acceptance is due on any board of its runs.
use Rattle.std.proofs.Common.{◌≡◌, ◌-◌, ℕ, true, false, refl, sym, ap, ◌∙◌, subst, List, [], ◌∷◌, ◌++◌}
use Rattle.std.proofs.lemmas.Bool.{and_right, and_parts}
use Rattle.msp_step.specs.Registers.{registers_of}
use Rattle.msp_step.specs.Step.{is_interruptible}
use Rattle.fram_board.specs.declared.board.NextStep.{NextStep}
use Rattle.fram_board.specs.declared.board.NextStep.TheVariants as next_step
use Rattle.fram_board.specs.Events.{is_full}
use Rattle.fram_board.specs.Board.{BoardValue, powered, performed, at_boundary, is_accepting, IsNextStep}
use Rattle.fram_board.specs.Run.{Measure, price, kind_of, Moment, Charges, Stopped, RunOutcome, run_outcome, BoardCharge, Run, Over, Next, Last}
use Rattle.fram_board.specs.Run.{ChargeRun, Spent, NoInstruction, TooDear, Refused, Executed}
use Rattle.machine_effects.specs.Inputs.{Look}
use Rattle.machine_effects.specs.Machine.{MachineBoard}
use Rattle.machine_effects.specs.Runs.{last_board}
use Rattle.event_handler.specs.Boundaries.{IsInterrupted}
use Rattle.program_view.specs.View.{is_handlers_step}
use Rattle.program_view.specs.Stands.{Shows, StandsAs, AtCode, InHandler}
use Rattle.crash_rules.specs.History.{History, behind_boot}
use Rattle.run_charges.specs.View.{NoneServes}
use Rattle.run_charges.specs.Moments.{IsFront}
use Rattle.run_charges.specs.Charges.{ArePowerStates, observed}
use Rattle.run_charges.specs.Fronts.{ChargeFront, board_behind, board_behind_all, AreChargesFrom}
use Rattle.run_charges.proofs.Charges.{front_charges}
use Rattle.run_charges.proofs.Moments.{step_is_programs, first_start, other_starts, nothing_seen}
use Rattle.run_charges.proofs.Running.{PlacedProgram, Machine, Running, is_code, runs_on}
use Rattle.run_charges.proofs.Programs.{last_behind, Ready, ready_on, running, reach, ready_behind}
use Rattle.run_charges.proofs.Spent.{spent_ready}

-- a board whose CPU accepts no interrupt
abbrev pub IsClosed : BoardValue → Type 0
IsClosed b = is_interruptible (registers_of b.cpu) ≡ false

none-append : (ms ns : List Moment) → NoneServes ms → NoneServes ns → NoneServes (ms ++ ns)
none-append [] ns h k = k
none-append (m ∷ ms) ns h k = (h.0, none-append ms ns h.1 k)

module _ (on : PlacedProgram) (off : on.events ≡ false) where
  -- no handler began on a board that shows a machine which accepts none
  never_began : (u : MachineBoard) (from : BoardValue) → is_interruptible u.registers ≡ false → Shows from u → IsInterrupted from → ⊥
  never_began u from closed shows interrupted =
      let opened = (and_parts (is_full from.line.port) (is_interruptible (registers_of from.cpu)) interrupted.accepting).1 in
      let no : true ≡ false = sym (ap is_interruptible shows.registers ∙ opened) ∙ closed in absurd cc

  stands_closed : (b : BoardValue) (more : List Look) → Machine on b more → IsClosed b
  stands_closed b more x = by x.stands
    where
      by : StandsAs b x.u → IsClosed b
      by (AtCode shows) = ap is_interruptible (sym shows.registers) ∙ x.quiet off
      by (InHandler from at shows interrupted inside) = absurd (never_began x.u from (x.quiet off) shows interrupted)

  -- no step is a handler's
  step_is_own : (b : BoardValue) → Running on b → (n : NextStep) → IsNextStep b n → is_handlers_step (kind_of n) b ≡ false
  step_is_own b run next_step.Acceptance next =
      let closed = stands_closed b [] (run.machine [] nothing_seen) in
      let opened = (and_parts (is_full b.line.port) (is_interruptible (registers_of b.cpu)) next).1 in
      let no : true ≡ false = sym opened ∙ closed in absurd cc
  step_is_own b run (next_step.Instruction i) next = by x.stands
    where
      x : Machine on b []
      x = run.machine [] nothing_seen

      by : StandsAs b x.u → is_handlers_step (kind_of (next_step.Instruction i)) b ≡ false
      by (AtCode shows) = step_is_programs i b (is_code on b x.u shows x.holds (x.leaves 1) run.whole i next.1).below
      by (InHandler from at shows interrupted inside) = absurd (never_began x.u from (x.quiet off) shows interrupted)

  charge_alone : (m : Measure) (left : ℕ) (b : BoardValue) (r : RunOutcome) → Running on b → ChargeRun m left b r → NoneServes r.moments
  charge_alone m left b r run (Spent _ _ none) = tt
  charge_alone m left b r run (NoInstruction _ _ e pos h) = tt
  charge_alone m left b r run (TooDear _ _ n pos c dear) = tt
  charge_alone m left b r run (Refused _ _ n e pos c paid a) = tt
  charge_alone m left b r run (Executed _ _ n done rest pos c paid a h) =
      (step_is_own b run n c, charge_alone m (left - price m n) (at_boundary (performed b n).board) rest (runs_on on b run n done c a) h)

  -- nor of a whole run
  pub run_alone : (cs : List BoardCharge) (b : BoardValue) (h : History) (r : RunOutcome) → Ready on b h → ArePowerStates cs → Run cs b r
      → NoneServes r.moments
  run_alone cs b h r ready ok (Over _) = tt
  run_alone cs b h r ready ok (Next c ds _ ms end rest one more) =
      let start = first_start c ds ok in
      let own = charge_alone c.measure c.amount (powered b c.start) (run_outcome ms Charges end) (running on b h ready c.start start) one in
      let next = spent_ready on b h ready c start ms end one in
      (refl, none-append ms rest.moments own (run_alone ds end (observed on.marks ms (behind_boot h)) rest next (other_starts c ds ok) more))
  run_alone cs b h r ready ok (Last c ds _ ms stop end one) =
      let start = first_start c ds ok in
      (refl, charge_alone c.measure c.amount (powered b c.start) (run_outcome ms (Stopped stop) end) (running on b h ready c.start start) one)

  closed_behind : (b : BoardValue) (h : History) (fs : List ChargeFront) → Ready on b h → IsClosed b → AreChargesFrom b fs → IsClosed (board_behind_all b fs)
  closed_behind b h [] ready closed all = closed
  closed_behind b h (f ∷ fs) ready closed all =
      let c = all.0 in
      let ms = f.instructions in
      let here = ready_on on b f.before h c.follows ready in
      let k = observed on.marks ms (behind_boot h) in
      closed_behind (board_behind f) k fs (ready_behind on f.before h here f.start c.start ms c.instructions c.moments)
      (stands_closed (board_behind f) [] (reach on f.before h here f.start c.start ms c.instructions c.moments).end) all.1

  -- behind each front no acceptance is due, where it isn't at first
  pub none_due : (b : BoardValue) (h : History) → Ready on b h → IsClosed b → (ms : List Moment) → IsFront b ms → is_accepting (last_board b ms) ≡ false
  none_due b h ready closed ms front =
      let all = front_charges b ms front in
      let there : last_board b ms ≡ board_behind_all b all.charges = ap (last_board b) all.moments ∙ last_behind b all.charges in
      let t = last_board b ms in
      let last : IsClosed t = subst IsClosed (sym there) (closed_behind b h all.charges ready closed all.follow) in
      and_right (is_full t.line.port) (is_interruptible (registers_of t.cpu)) last
