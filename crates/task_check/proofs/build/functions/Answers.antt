use Rattle.std.proofs.Common.{map}
use Rattle.std.proofs.lemmas.Iterator.Adapters.{YieldsList-from_vec}
use Rattle.std.proofs.lemmas.Iterator.Consumers.{YieldsList-end}
use Rattle.task_ast.specs.View.{function_of}
use Rattle.task_check.specs.LookedUp.{function_back, function_variables, function_calls, function_targets, inner_variables, block_calls, block_targets}
use Rattle.task_check.proofs.Parts.{read_on, push_taken, functions_variables_push, functions_calls_push, functions_targets_push, all_read}
use Rattle.task_check.proofs.build.functions.Goals as goal

pub loop-of-preserved : goal.loop-of-preserved
loop-of-preserved c = (
  read_on function_of function_back function_of c.loop-of.found.items _ c.in_ok-of.of c.loop-of.yielded _ c.in_ok-push.ensures.items
      c.loop-of.invariant.0 c.in_ok-of.ensures.place,
  push_taken function_of inner_variables function_variables functions_variables_push c.loop-of.found.items _ c.in_ok-of.of _ _ _
      c.in_ok-push.ensures.items c.loop-of.invariant.1 c.in_ok-of.ensures.variables,
  push_taken function_of (λ k. block_calls k.body) function_calls functions_calls_push c.loop-of.found.items _ c.in_ok-of.of _ _ _ c.in_ok-push.ensures.items
      c.loop-of.invariant.2 c.in_ok-of.ensures.calls,
  push_taken function_of (λ k. block_targets k.body) function_targets functions_targets_push c.loop-of.found.items _ c.in_ok-of.of _ _ _
      c.in_ok-push.ensures.items c.loop-of.invariant.3 c.in_ok-of.ensures.targets,
)

pub returns-clause-place : goal.returns-clause-place
returns-clause-place c =
    let seen = YieldsList-end (YieldsList-from_vec c.args.all.items (cc) (cc))
    c.loop-of.yielded _ c.loop-of.yielded_by _ c.next.new.self c.in-None.is c.next.ensures.steps in
    all_read function_of _ c.loop-of.yielded c.args.all.items seen.0 c.loop-of.invariant.0
