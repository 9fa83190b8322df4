use Rattle.std.proofs.Common.{◌∙◌, sym}
use Rattle.fram_state.proofs.Numbers.{task_passed, task_found}
use Rattle.fram_state.proofs.kept.task_named.Goals as goal

pub returns-then-is_named-clause-value : goal.returns-then-is_named-clause-value
returns-then-is_named-clause-value c =
    sym (task_found c.args.text.now c.args.tasks.now c.loop-i.i c.index-tasks-i.result c.args.name.now c.loop-i-test.true c.index-tasks-i.is
    (sym c.is_named.ensures ∙ c.if-is_named.true)) ∙ c.loop-i.invariant

pub loop-i-preserved : goal.loop-i-preserved
loop-i-preserved c =
    sym (task_passed c.args.text.now c.args.tasks.now c.loop-i.i c.index-tasks-i.result c.args.name.now c.loop-i-test.true c.index-tasks-i.is
    (sym c.is_named.ensures ∙ c.if-is_named.false)) ∙ c.loop-i.invariant
