use Rattle.std.proofs.Common.{◌∙◌, ap, sym, map}
use Rattle.std.proofs.lemmas.Iterator.Adapters.{YieldsList-from_vec}
use Rattle.std.proofs.lemmas.Iterator.Consumers.{YieldsList-end}
use Rattle.task_ast.specs.Tree as node
use Rattle.task_ast.specs.View.{statement_of, tested_of}
use Rattle.task_check.specs.LookedUp as spec
use Rattle.task_check.specs.Parts as parts
use Rattle.task_check.proofs.Parts.{read_on, block_back_list, block_variables_list, block_calls_list, block_targets_list, push_variables, push_calls}
use Rattle.task_check.proofs.Parts.{push_targets, push_arm_variables, push_arm_calls, push_arm_targets, all_read}
use Rattle.task_check.proofs.build.+build.Goals as goal

pub block-returns-clause-place : goal.block-returns-clause-place
block-returns-clause-place t c =
    let seen = YieldsList-end (YieldsList-from_vec c.args.body.items (cc) (cc))
    c.loop-s.yielded _ c.loop-s.yielded_by _ c.next.new.self c.in-None.is c.next.ensures.steps in
    block_back_list _ ∙ ap node.block_of (all_read statement_of _ c.loop-s.yielded c.args.body.items seen.0 c.loop-s.invariant.0)

pub block-loop-s-preserved : goal.block-loop-s-preserved
block-loop-s-preserved t c = (
  read_on statement_of spec.statement_back statement_of c.loop-s.found.items _ c.in_ok-s.s c.loop-s.yielded _ c.in_ok-push.ensures.items
      c.loop-s.invariant.0 c.in_ok-s.ensures.place,
  push_variables c.loop-s.found.items _ c.in_ok-s.s _ _ _ c.in_ok-push.ensures.items c.loop-s.invariant.1 c.in_ok-s.ensures.variables,
  push_calls c.loop-s.found.items _ c.in_ok-s.s _ _ _ c.in_ok-push.ensures.items c.loop-s.invariant.2 c.in_ok-s.ensures.calls,
  push_targets c.loop-s.found.items _ c.in_ok-s.s _ _ _ c.in_ok-push.ensures.items c.loop-s.invariant.3 c.in_ok-s.ensures.targets,
)

pub arms-loop-test-preserved : goal.arms-loop-test-preserved
arms-loop-test-preserved t c = (
  read_on tested_of parts.tested_back tested_of c.loop-test.found.items _ c.in_ok-test.test c.loop-test.yielded _ c.in_ok-push.ensures.items
      c.loop-test.invariant.0 c.in_ok-test.ensures.place,
  push_arm_variables c.loop-test.found.items _ c.in_ok-test.test _ _ _ c.in_ok-push.ensures.items c.loop-test.invariant.1 c.in_ok-test.ensures.variables,
  push_arm_calls c.loop-test.found.items _ c.in_ok-test.test _ _ _ c.in_ok-push.ensures.items c.loop-test.invariant.2 c.in_ok-test.ensures.calls,
  push_arm_targets c.loop-test.found.items _ c.in_ok-test.test _ _ _ c.in_ok-push.ensures.items c.loop-test.invariant.3 c.in_ok-test.ensures.targets,
)

pub arms-returns-clause-place : goal.arms-returns-clause-place
arms-returns-clause-place t c =
    let seen = YieldsList-end (YieldsList-from_vec c.args.tests.items (cc) (cc))
    c.loop-test.yielded _ c.loop-test.yielded_by _ c.next.new.self c.in-None.is c.next.ensures.steps in
    all_read tested_of _ c.loop-test.yielded c.args.tests.items seen.0 c.loop-test.invariant.0

pub block-returns-clause-variables : goal.block-returns-clause-variables
block-returns-clause-variables t c =
    c.loop-s.invariant.1 ∙ sym (block_variables_list (map statement_of c.loop-s.found.items) c.loop-s.rest.used.variables.now)

pub block-returns-clause-calls : goal.block-returns-clause-calls
block-returns-clause-calls t c =
    c.loop-s.invariant.2 ∙ sym (block_calls_list (map statement_of c.loop-s.found.items) c.loop-s.rest.used.calls.now)

pub block-returns-clause-targets : goal.block-returns-clause-targets
block-returns-clause-targets t c =
    c.loop-s.invariant.3 ∙ sym (block_targets_list (map statement_of c.loop-s.found.items) c.loop-s.rest.targets.now)
