use Rattle.std.proofs.Common.{◌∙◌, ap, sym}
use Rattle.std.proofs.lemmas.List.{get_or_default}
use Rattle.task_check.specs.LookedUp.{parameter_variables}
use Rattle.task_check.proofs.Parts.{parameter_step, parameters_push}
use Rattle.task_check.proofs.build.parameters.Goals as goal

pub loop-i-preserved : goal.loop-i-preserved
loop-i-preserved c = (
  parameter_step c.loop-i.found.items _ c.in_ok-name.name c.args.all.now c.loop-i.i _ c.loop-i-test.true
      (get_or_default c.args.all.now c.loop-i.i _ _ c.loop-i-test.true) c.in_ok-push.ensures.items
      c.in_ok-name.ensures.place c.loop-i.invariant.0,
  c.loop-i.invariant.1 ∙ ap (parameter_variables c.loop-i.found.items) c.in_ok-name.ensures.variables
      ∙ sym (parameters_push c.loop-i.found.items _ c.in_ok-name.left.variables.now)
      ∙ ap (λ v. parameter_variables v c.in_ok-name.left.variables.now) (sym c.in_ok-push.ensures.items),
  c.loop-i.invariant.2 ∙ c.in_ok-name.ensures.calls,
)
