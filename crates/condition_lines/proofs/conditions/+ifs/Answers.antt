use Rattle.std.proofs.Common.{◌∙◌, ◌++◌, None, ap, map, rules, arith}
use Rattle.task_ast.specs.declared.Stmt.{the_lemmas}
use Rattle.task_ast.specs.View.{block_view, choice_view, statement_of, tested_of}
use Rattle.condition_lines.specs.Conditions.{block_ifs, choice_ifs, lists_of}
use Rattle.condition_lines.proofs.Listed.{arms_few, if_listed, last_listed, statement_few}
use Rattle.condition_lines.proofs.conditions.+ifs.Goals as goal

pub push_statement-push_arms-requires-in-If-default-Some : goal.push_statement-push_arms-requires-in-If-default-Some
push_statement-push_arms-requires-in-If-default-Some t c =
    let arms = map tested_of c.deref-in-If-default-Some.result.now in
    let last = block_view c.in-If-default-Some.last.items in
    let few = arms_few (statement_of c.args.statement.now) arms last (search (rules, the_lemmas)) in
    (search (rules, the_lemmas), omega (arith, few, c.requires))

pub push_statement-push_block-requires : goal.push_statement-push_block-requires
push_statement-push_block-requires t c =
    let arms = map tested_of c.deref-in-If-default-Some.result.now in
    let last = block_view c.deref-in-If-default-Some-2.result.now in
    let all = statement_few c.args.number.now c.push_arms-in-If-default-Some.new.number (statement_of c.args.statement.now) arms last
    (search (rules, the_lemmas)) c.in_ok-own-in-If-default-Some.ensures.number in
    (search (rules, the_lemmas), omega (arith, all, c.requires))

pub push_statement-returns-in_ok-own-in-If-default-None-clause-ifs : goal.push_statement-returns-in_ok-own-in-If-default-None-clause-ifs
push_statement-returns-in_ok-own-in-If-default-None-clause-ifs t c =
    let k = c.args.number.now in
    let made = c.in_ok-own-in-If-default-None.ensures in
    if_listed c.args.ifs.now.items _ _ _ k _ (statement_of c.args.statement.now) c.deref.result.now
    (omega (arith, c.len-place.ensures, c.args.ifs.now.ok.0)) (search (rules, the_lemmas)) made.own
    (made.ifs ∙ ap (λ is. lists_of is ++ choice_ifs k (choice_view c.deref.result.now None)) c.in_ok-push-in-If-default-None.ensures.items)

pub push_statement-returns-in_ok-push_block-in-If-default-Some-clause-ifs : goal.push_statement-returns-in_ok-push_block-in-If-default-Some-clause-ifs
push_statement-returns-in_ok-push_block-in-If-default-Some-clause-ifs t c =
    let k = c.args.number.now in
    let n = c.push_arms-in-If-default-Some.new.number in
    let arms = map tested_of c.deref-in-If-default-Some.result.now in
    let last = block_view c.deref-in-If-default-Some-2.result.now in
    let made = c.in_ok-own-in-If-default-Some.ensures in
    let blocks = made.ifs ∙ ap (λ is. lists_of is ++ choice_ifs k (choice_view c.deref-in-If-default-Some.result.now None))
    c.in_ok-push-in-If-default-Some.ensures.items in
    last_listed c.args.ifs.now.items _ _ _ k n _ (statement_of c.args.statement.now) arms last
    (omega (arith, c.len-place-in-If-default-Some.ensures, c.args.ifs.now.ok.0)) (search (rules, the_lemmas)) made.own made.number
    (c.in_ok-push_block-in-If-default-Some.ensures.ifs ∙ ap (λ ls. ls ++ block_ifs n last) blocks)

pub push_statement-returns-in_ok-push_block-in-If-default-Some-clause-number :
    goal.push_statement-returns-in_ok-push_block-in-If-default-Some-clause-number
push_statement-returns-in_ok-push_block-in-If-default-Some-clause-number t c =
    let arms = map tested_of c.deref-in-If-default-Some.result.now in
    let last = block_view c.deref-in-If-default-Some-2.result.now in
    c.in_ok-push_block-in-If-default-Some.ensures.number
    ∙ statement_few c.args.number.now c.push_arms-in-If-default-Some.new.number (statement_of c.args.statement.now) arms last (search (rules, the_lemmas))
    c.in_ok-own-in-If-default-Some.ensures.number
