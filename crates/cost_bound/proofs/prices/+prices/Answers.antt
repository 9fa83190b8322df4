use Rattle.std.proofs.Common.{◌-◌, ◌∙◌, ap, sym}
use Rattle.task_ast.specs.View.{statement_of, block_view}
use Rattle.cost_bound.specs.Table.{capped, statement_price, block_price, turns_together}
use Rattle.cost_bound.specs.Machine.{known_of}
use Rattle.cost_bound.proofs.Caps.{loop_price}
use Rattle.cost_bound.proofs.Views.{statement_of-For}
use Rattle.cost_bound.proofs.prices.+prices.Goals as goal

pub statement_price-returns-in-For : goal.statement_price-returns-in-For
statement_price-returns-in-For t c =
    let p = c.args.column.now in
    let known = known_of c.args.functions.now in
    loop_price p (c.in-For.below - c.in-For.from) (block_price known p (block_view c.in-For.body.items)) _ _ _ _
    (c.block_price.ensures ∙ ap (λ b. capped (block_price known p (block_view b))) c.deref-in-For.ensures.value) c.plus-turn.ensures
    (c.turns_together.ensures ∙ ap (λ n. capped (turns_together p n c.plus-turn.result)) c.saturating_sub.ensures) c.plus-in-For.ensures
    ∙ ap (λ s. capped (statement_price known p s))
    (sym (statement_of-For c.in-For.variable c.in-For.from c.in-For.tested c.in-For.below c.in-For.stepped c.in-For.body) ∙ ap statement_of (sym c.in-For.is))
