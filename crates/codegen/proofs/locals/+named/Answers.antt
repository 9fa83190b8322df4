use Rattle.codegen.proofs.Names.{ap, subst, arith, LocalsBelow, locals_of}
use Rattle.codegen.proofs.Emitted.{left_front}
use Rattle.codegen.proofs.locals.+named.Goals as goal

pub steps_locals-loop-step-preserved : goal.steps_locals-loop-step-preserved
steps_locals-loop-step-preserved t c =
    let x = c.step-item.result in
    let e = left_front c.args.steps.now c.loop-step.step-index x c.loop-step-test.true c.step-item.is in
    let known = c.loop-step.invariant in
    record {
      counted = omega (arith, ap locals_of e, known.counted, c.step_locals.ensures, c.greater-most.ensures);
      locals = (subst (LocalsBelow 1016) e known.locals).1;
    }
