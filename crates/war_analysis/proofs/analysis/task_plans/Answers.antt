use Rattle.std.proofs.Common.{length, map, sym, subst, arith}
use Rattle.task_ast.specs.View.{task_of}
use Rattle.war_analysis.proofs.Steps.{PlansBelow, calls_in, no_plans, next_plan, all_plans}
use Rattle.war_analysis.proofs.analysis.task_plans.Goals as goal

pub loop-task-init : goal.loop-task-init
loop-task-init c = λ fs known calls. subst (λ xs. PlansBelow fs c.args.shared.now (map task_of c.args.tasks.now) 0 xs) (sym c.new-plans.ensures.items)
    (no_plans fs c.args.shared.now (map task_of c.args.tasks.now))

pub loop-task-preserved : goal.loop-task-preserved
loop-task-preserved c = λ fs known calls.
    let here = calls_in (length fs) c.args.tasks.now c.loop-task.task-index c.task-item.result c.deref.result.now c.loop-task-test.true c.task-item.is
    c.deref.ensures.value calls in
    next_plan fs c.args.shared.now c.args.tasks.now c.loop-task.task-index c.task-item.result c.deref.result.now c.in_ok-task_plan.field-0
    c.loop-task.plans.items c.push.new.self.items
    c.loop-task-test.true c.task-item.is c.deref.ensures.value (c.in_ok-task_plan.ensures fs known here) c.in_ok-push.ensures.items
    (c.loop-task.invariant fs known calls)

pub returns : goal.returns
returns c = λ fs known calls.
    all_plans fs c.args.shared.now c.args.tasks.now c.loop-task.task-index c.loop-task.plans.items (omega arith) (c.loop-task.invariant fs known calls)
