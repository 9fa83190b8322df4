use Rattle.codegen.proofs.Names.{◌≡◌, ◌==◌, length, sym, ap, ◌∙◌, arith}
use Rattle.codegen.proofs.Emitted.{taken_is, left_is}
use Rattle.codegen.proofs.waiting.take.Goals as goal

pub returns-else-is_empty-clause-top : goal.returns-else-is_empty-clause-top
returns-else-is_empty-clause-top c =
    let items : length c.args.waiting.now.items ≡ c.args.waiting.now.len = omega (arith, c.args.waiting.now.ok.0) in
    taken_is c.args.waiting.now.items c.remove.result (ap (λ n. n == 0) items ∙ sym c.is_empty.ensures ∙ c.if-is_empty.false) c.remove.ensures.value

pub returns-else-is_empty-clause-below : goal.returns-else-is_empty-clause-below
returns-else-is_empty-clause-below c = c.remove.ensures.items ∙ left_is c.args.waiting.now.items
