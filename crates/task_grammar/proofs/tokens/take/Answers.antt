use Rattle.std.proofs.Common.{◌≡◌, ◌∷◌, ap, ◌∙◌, rules}
use Rattle.task_grammar.specs.Nesting.{nesting, row_length}
use Rattle.task_grammar.proofs.Nesting.{nesting_of, row_of}
use Rattle.task_grammar.proofs.tokens.take.Goals as goal

pub returns-then-eq-clause-nests : goal.returns-then-eq-clause-nests
returns-then-eq-clause-nests c =
    let token = c.in-Some.token.now in
    let rest = c.in-Some.rest.now in
    let cut : c.args.tokens.now ≡ token ∷ rest = search rules in
    ap nesting cut ∙ nesting_of token rest c.args.kind (search rules)

pub returns-then-eq-clause-row : goal.returns-then-eq-clause-row
returns-then-eq-clause-row c =
    let token = c.in-Some.token.now in
    let rest = c.in-Some.rest.now in
    let cut : c.args.tokens.now ≡ token ∷ rest = search rules in
    ap row_length cut ∙ row_of token rest c.args.kind (search rules)
