use Rattle.std.proofs.Common.{◌≡◌, ◌≤◌, ◌+◌, ℕ}
use Rattle.board_run.specs.Stepwise.{state_of, known_of, IsGoing, HasRoom}
use Rattle.board_run.proofs.StepByStep.{PoweredUp, tries_left}
use Rattle.board_run.proofs.stepwise.StepwiseRun.advance.Given as goal

abbrev pub invariant-loop-self : goal.invariant-loop-self
invariant-loop-self g l = record {
  same : l.report.sink.ghost_name ≡ l.fn.report.sink.ghost_name;
  count : g.S.Sink.faults l.fn.report.sink.now ≤ g.S.Sink.faults l.report.sink.now;
  going : IsGoing l.self;
  room : (n : ℕ) → HasRoom l.fn.self (n + 1) → HasRoom l.self (n + 1);
  on : PoweredUp (state_of l.fn.self) (known_of l.fn.self) (g.S.Sink.contents l.fn.report.sink.now) (state_of l.self) (known_of l.self)
      (g.S.Sink.contents l.report.sink.now) l.powers_up;
}

abbrev pub decreases-loop-self : goal.decreases-loop-self
decreases-loop-self g l = tries_left (state_of l.self)
