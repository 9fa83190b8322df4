use Rattle.std.proofs.Common.{[], rules, None, Some, arith, subst, IfOk, map, refl, ◌-◌}
use Rattle.std.specs.Option.{option_map}
use Rattle.task_ast.specs.Tree as tree
use Rattle.task_ast.specs.Tree.{choice_of}
use Rattle.task_ast.specs.View.{expression_of, statement_of, tested_of, block_view}
use Rattle.task_ast.specs.Paths.{write}
use Rattle.task_ast.specs.declared.Stmt.{the_lemmas}
use Rattle.path_sums.specs.Sums.{turns_sum, block_sum}
use Rattle.path_checks.specs.Assignments.{assignment, assignment_one, assignment_seq}
use Rattle.path_checks.specs.Walks.{Does}
use Rattle.path_checks.proofs.Walks.{does_nothing, does_both, does_gone, then_ok, declared_ok, statement_ok, statement_as}
use Rattle.path_checks.proofs.Turns.{no_turn, one_turn, two_turns, settled_turn}
use Rattle.path_checks.proofs.Choices.{choice_ok, one_way, all_ways}
use Rattle.path_checks.proofs.Parts.{block_step, block_done}
use Rattle.path_checks.proofs.unassigned.+walk.Goals as goal
use Rattle.path_checks.proofs.unassigned.+walk.Goals.{walk_turns-then-turns-eq1-via-then-turns-eq1, walk_turns-then-turns-eq1-via-else-turns-eq1+then-lost_none}

pub walk_arms-loop-arm-preserved : goal.walk_arms-loop-arm-preserved
walk_arms-loop-arm-preserved t c =
    one_way c.args.walk.now c.loop-arm.walk c.end_way.new.walk c.loop-arm.ends c.in_ok-ends.ends c.start_of-start.result c.args.arms.now
    c.loop-arm.arm-index c.arm-item.result (omega arith, c.arm-item.is) (record {
      at = record { mark = c.start_of-start.ensures.mark; comes = c.start_of-start.ensures.comes };
      passed = c.read.new.walk;
      walked = c.walk_block.new.walk;
      read = c.read.ensures.does;
      falls = c.read.ensures.falls_through;
      assigned = c.read.ensures.assigned;
      turned = c.read.ensures.turned;
      block = subst (λ xs. Does c.read.new.walk c.walk_block.new.walk (λ x p. block_sum [] (assignment x p) (block_view xs))) c.deref.ensures.value
          c.in_ok-walk_block.ensures;
      end = c.in_ok-ends.ensures;
    }) c.loop-arm.invariant

pub walk_arms-returns : goal.walk_arms-returns
walk_arms-returns t c =
    all_ways c.args.walk.now c.loop-arm.walk c.loop-arm.ends c.args.arms.now c.loop-arm.arm-index c.loop-arm-test.false c.loop-arm.invariant

pub walk_block-loop-statement-preserved : goal.walk_block-loop-statement-preserved
walk_block-loop-statement-preserved t c = λ end d. c.loop-statement.invariant end
    (block_step c.args.body.now c.loop-statement.statement-index c.statement-item.result c.loop-statement.walk c.walk_statement.new.walk end
    (omega arith) c.statement-item.is c.in_ok-walk_statement.ensures d)

pub walk_block-returns : goal.walk_block-returns
walk_block-returns t c = c.loop-statement.invariant c.loop-statement.walk
    (block_done c.args.body.now c.loop-statement.statement-index c.loop-statement.walk c.loop-statement-test.false)

pub walk_statement-returns-in-Declare : goal.walk_statement-returns-in-Declare
walk_statement-returns-in-Declare t c =
    declared_ok c.declare.result c.args.walk.now c.declare.new.walk (statement_of c.args.statement.now) c.in-Declare.field-0 c.in-Declare.name
    (option_map expression_of c.in-Declare.value) (search (rules, the_lemmas)) c.declare.ensures

pub walk_statement-returns-in-Store : goal.walk_statement-returns-in-Store
walk_statement-returns-in-Store t c =
    let index = expression_of c.in-Store.index in
    let value = expression_of c.in-Store.value in
    statement_ok c.assign-in-Store.result c.args.walk.now c.assign-in-Store.new.walk (statement_of c.args.statement.now)
    (tree.store c.in-Store.name index value) (search (rules, the_lemmas))
    (then_ok c.assign-in-Store.result c.args.walk.now c.read.new.walk c.assign-in-Store.new.walk _ _ c.read.ensures.does c.assign-in-Store.ensures)

pub walk_statement-returns-in_ok-ends-in-If-default-None : goal.walk_statement-returns-in_ok-ends-in-If-default-None
walk_statement-returns-in_ok-ends-in-If-default-None t c =
    let arms = c.deref.result.now in
    statement_ok c.join_ways.result c.args.walk.now c.join_ways.new.walk (statement_of c.args.statement.now)
    (tree.choose (choice_of (map tested_of arms) None)) (search (rules, the_lemmas))
    (choice_ok c.join_ways.result c.args.walk.now c.walk_arms.new.walk c.walk_arms.new.walk c.join_ways.new.walk c.in_ok-ends-in-If-default-None.ends
    c.start_of-start.result.mark _ _ (c.in_ok-ends-in-If-default-None.ensures None, does_nothing c.walk_arms.new.walk) c.start_of-start.ensures.mark
    c.join_ways.ensures)

pub walk_statement-returns-in_ok-walk_block-in-If-default-Some : goal.walk_statement-returns-in_ok-walk_block-in-If-default-Some
walk_statement-returns-in_ok-walk_block-in-If-default-Some t c =
    let arms = c.deref-in-If-default-Some.result.now in
    let last = block_view c.deref-in-If-default-Some-2.result.now in
    statement_ok c.join_ways-in-If-default-Some.result c.args.walk.now c.join_ways-in-If-default-Some.new.walk (statement_of c.args.statement.now)
    (tree.choose (choice_of (map tested_of arms) (Some last))) (search (rules, the_lemmas))
    (choice_ok c.join_ways-in-If-default-Some.result c.args.walk.now c.walk_arms-in-If-default-Some.new.walk c.walk_block.new.walk
    c.join_ways-in-If-default-Some.new.walk c.in_ok-ends-in-If-default-Some.ends c.start_of-start-in-If-default-Some.result.mark _ _
    (c.in_ok-ends-in-If-default-Some.ensures (Some last), c.in_ok-walk_block-in-If-default-Some.ensures)
    c.start_of-start-in-If-default-Some.ensures.mark c.join_ways-in-If-default-Some.ensures)

pub walk_statement-returns-in_ok-set-in-For : goal.walk_statement-returns-in_ok-set-in-For
walk_statement-returns-in_ok-set-in-For t c =
    let f = c.in-For in
    let body = block_view c.deref-in-For.result.now in
    let turns : IfOk c.walk_turns.result (λ _. Does c.set.new.walk c.walk_turns.new.walk (λ x p. turns_sum (assignment x p) (f.below - f.from)
    (assignment_seq (block_sum [] (assignment x p) body) (assignment_one x p (write f.variable))))) =
    subst (λ n. IfOk c.walk_turns.result (λ _. Does c.set.new.walk c.walk_turns.new.walk (λ x p. turns_sum (assignment x p) n
    (assignment_seq (block_sum [] (assignment x p) body) (assignment_one x p (write f.variable)))))) c.saturating_sub.ensures c.walk_turns.ensures in
    statement_ok c.walk_turns.result c.args.walk.now c.walk_turns.new.walk (statement_of c.args.statement.now)
    (tree.loop f.variable f.from f.tested f.below f.stepped body) (search (rules, the_lemmas))
    (then_ok c.walk_turns.result c.args.walk.now c.set.new.walk c.walk_turns.new.walk _ _ c.in_ok-set-in-For.ensures turns)

pub walk_statement-returns-in-Emit : goal.walk_statement-returns-in-Emit
walk_statement-returns-in-Emit t c =
    statement_as c.args.walk.now c.read-in-Emit.new.walk (statement_of c.args.statement.now) (tree.emit (expression_of c.in-Emit.value))
    (search (rules, the_lemmas)) c.read-in-Emit.ensures.does

pub walk_statement-returns-in-TransitionTo : goal.walk_statement-returns-in-TransitionTo
walk_statement-returns-in-TransitionTo t c =
    statement_as c.args.walk.now _ (statement_of c.args.statement.now) (tree.transition c.in-TransitionTo.field-0 c.in-TransitionTo.field-1)
    (search (rules, the_lemmas))
    (does_gone c.args.walk.now _ refl refl refl refl)

pub walk_statement-returns-in-Return : goal.walk_statement-returns-in-Return
walk_statement-returns-in-Return t c =
    statement_as c.args.walk.now _ (statement_of c.args.statement.now) (tree.give c.in-Return.field-0 (expression_of c.in-Return.value))
    (search (rules, the_lemmas)) (does_both c.read-in-Return.ensures.does (does_gone c.read-in-Return.new.walk _ refl refl refl refl))

pub walk_statement-returns-in-Assign : goal.walk_statement-returns-in-Assign
walk_statement-returns-in-Assign t c =
    statement_ok c.assign.result c.args.walk.now c.assign.new.walk (statement_of c.args.statement.now)
    (tree.assign c.in-Assign.name (expression_of c.in-Assign.value)) (search (rules, the_lemmas)) c.assign.ensures

pub walk_turn-returns : goal.walk_turn-returns
walk_turn-returns t c =
    then_ok c.set.result c.args.walk.now c.walk_block.new.walk c.set.new.walk _ _ c.in_ok-walk_block.ensures c.set.ensures

pub walk_turns-returns-then-turns-eq0 : goal.walk_turns-returns-then-turns-eq0
walk_turns-returns-then-turns-eq0 t c = no_turn c.args.walk.now c.args.turns _ c.if-turns-eq0.true

pub walk_turns-returns-then-turns-eq1 : goal.walk_turns-returns-then-turns-eq1
walk_turns-returns-then-turns-eq1 t c = elim c.then-turns-eq1.branch [
  | walk_turns-then-turns-eq1-via-then-turns-eq1 w ↦
      one_turn c.args.walk.now c.walk_turn.new.walk c.args.turns _ w.if-turns-eq1.true c.in_ok-walk_turn.ensures
  | walk_turns-then-turns-eq1-via-else-turns-eq1+then-lost_none w ↦
      settled_turn c.args.walk.now c.walk_turn.new.walk c.args.turns c.start_of-start.result.mark (block_view c.args.body.now) c.args.name.now
      w.lost_none.result c.if-turns-eq0.false c.in_ok-walk_turn.ensures c.start_of-start.ensures.mark w.lost_none.ensures w.if-lost_none.true
]

pub walk_turns-returns : goal.walk_turns-returns
walk_turns-returns t c = two_turns c.walk_turn-2.result c.args.walk.now c.walk_turn.new.walk c.walk_turn-2.new.walk c.args.turns _ c.if-turns-eq0.false
    c.if-turns-eq1.false c.in_ok-walk_turn.ensures c.walk_turn-2.ensures
