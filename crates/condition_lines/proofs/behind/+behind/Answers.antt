use Rattle.std.proofs.Common.{map, rules}
use Rattle.task_ast.specs.declared.Stmt.{the_lemmas}
use Rattle.task_ast.specs.View.{block_view, statement_of, tested_of}
use Rattle.condition_lines.proofs.Passed.{if_passed}
use Rattle.condition_lines.proofs.behind.+behind.Goals as goal

pub behind_statement-returns-in-If-default-Some : goal.behind_statement-returns-in-If-default-Some
behind_statement-returns-in-If-default-Some t c =
    let arms = map tested_of c.deref-in-If-default-Some.result.now in
    let last = block_view c.deref-in-If-default-Some-2.result.now in
    if_passed c.args.lines.now c.behind_one-in-If-default-Some.result.now c.behind_arms-in-If-default-Some.result.now c.behind_block.result.now
    (statement_of c.args.statement.now) arms last (search (rules, the_lemmas)) c.behind_one-in-If-default-Some.ensures
    c.behind_arms-in-If-default-Some.ensures c.behind_block.ensures
