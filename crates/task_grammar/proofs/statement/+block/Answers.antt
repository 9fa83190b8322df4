use Rattle.std.proofs.Common.{◌≡◌, [], ◌∷◌, ◌++◌, ap, sym, ◌∙◌, map, rules}
use Rattle.task_ast.specs.View.{statement_of, tested_of}
use Rattle.task_grammar.specs.Statements.{elses, statements, block}
use Rattle.task_grammar.proofs.StatementComplete.{another_statement, another_arm}
use Rattle.task_grammar.proofs.Views.{statement_push, tested_push}
use Rattle.task_grammar.proofs.statement.+block.Goals as goal

pub elses-arms-preserved : goal.elses-arms-preserved
elses-arms-preserved t c =
    let found = c.arms.arms.items in
    let next = c.in_ok-arm-in-Some-If.arm in
    let rest = c.in_ok-arm-in-Some-If.next.now in
    let pushed : c.push-in-Some-If.new.self.items ≡ found ++ next ∷ [] = search rules in
    record {
      fits = search rules;
      nests = search rules;
      goes_on = c.arms.invariant.goes_on
          ∙ another_arm (map tested_of found) (tested_of next) c.in_ok-next.field-0-0 c.arms.rest.now c.in_ok-next.next.now rest (search rules)
          (search rules) (search rules) (search rules)
          ∙ ap (λ xs. elses block xs rest) (sym (tested_push found next) ∙ ap (map tested_of) (sym pushed));
    }

pub statements-statements-preserved : goal.statements-statements-preserved
statements-statements-preserved t c =
    let found = c.statements.found.items in
    let next = c.in_ok-item.item in
    let rest = c.in_ok-item.next.now in
    let pushed : c.push.new.self.items ≡ found ++ next ∷ [] = search rules in
    record {
      fits = search rules;
      nests = search rules;
      goes_on = c.statements.invariant.goes_on
          ∙ another_statement (map statement_of found) (statement_of next) c.statements.rest.now rest (search rules) (search rules)
          ∙ ap (λ xs. statements block xs rest) (sym (statement_push found next) ∙ ap (map statement_of) (sym pushed));
    }
