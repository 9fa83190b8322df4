use Rattle.std.proofs.Common.{map}
use Rattle.std.proofs.lemmas.Iterator.Adapters.{YieldsList-from_vec}
use Rattle.std.proofs.lemmas.Iterator.Consumers.{YieldsList-end}
use Rattle.task_ast.specs.View.{task_of}
use Rattle.task_check.specs.LookedUp.{task_back, task_variables, task_calls, task_targets, block_variables, block_calls, block_targets}
use Rattle.task_check.proofs.Parts.{read_on, push_taken, tasks_variables_push, tasks_calls_push, tasks_targets_push, all_read}
use Rattle.task_check.proofs.build.tasks.Goals as goal

pub loop-of-preserved : goal.loop-of-preserved
loop-of-preserved c = (
  read_on task_of task_back task_of c.loop-of.found.items _ c.in_ok-of.of c.loop-of.yielded _ c.in_ok-push.ensures.items
      c.loop-of.invariant.0 c.in_ok-of.ensures.place,
  push_taken task_of (λ k. block_variables k.body) task_variables tasks_variables_push c.loop-of.found.items _ c.in_ok-of.of _ _ _
      c.in_ok-push.ensures.items c.loop-of.invariant.1 c.in_ok-of.ensures.variables,
  push_taken task_of (λ k. block_calls k.body) task_calls tasks_calls_push c.loop-of.found.items _ c.in_ok-of.of _ _ _ c.in_ok-push.ensures.items
      c.loop-of.invariant.2 c.in_ok-of.ensures.calls,
  push_taken task_of (λ k. block_targets k.body) task_targets tasks_targets_push c.loop-of.found.items _ c.in_ok-of.of _ _ _
      c.in_ok-push.ensures.items c.loop-of.invariant.3 c.in_ok-of.ensures.targets,
)

pub returns-clause-place : goal.returns-clause-place
returns-clause-place c =
    let seen = YieldsList-end (YieldsList-from_vec c.args.all.items (cc) (cc))
    c.loop-of.yielded _ c.loop-of.yielded_by _ c.next.new.self c.in-None.is c.next.ensures.steps in
    all_read task_of _ c.loop-of.yielded c.args.all.items seen.0 c.loop-of.invariant.0
