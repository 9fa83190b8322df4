use Rattle.codegen.proofs.Names.{◌≡◌, drop, max, steps_of, LocalsBelow, locals_of}
use Rattle.codegen.proofs.locals.+named.Given as goal

abbrev pub invariant-steps_locals-loop-step : goal.invariant-steps_locals-loop-step
invariant-steps_locals-loop-step l =
    let left = steps_of (drop l.step-index l.steps) in
    record {
      counted : max l.most (locals_of left) ≡ locals_of (steps_of l.steps);
      locals : LocalsBelow 1016 left;
    }
