use Rattle.std.proofs.Common.{◌∙◌, ap, refl}
use Rattle.task_ast.specs.View.{block_view}
use Rattle.cost_bound.specs.Table.{capped, cycles_column, words_column, block_price}
use Rattle.cost_bound.specs.Counts.{assigns_of, reaches_of, emits_of, stores_of}
use Rattle.cost_bound.specs.Machine.{known_of}
use Rattle.cost_bound.proofs.Emits.{block_price-emits}
use Rattle.cost_bound.proofs.Called.{kept_price, kept_depth}
use Rattle.cost_bound.proofs.function_summaries.summary.Goals as goal

pub returns : goal.returns
unfolding stores_of
returns c =
    let known = known_of c.args.functions.now in
    let body = ap block_view c.as_slice-body.ensures.value in
    record {
      cycles = kept_price (block_price known cycles_column) _ _ _ body c.block_price.ensures;
      words = kept_price (block_price known (words_column 0)) _ _ _ body
          (c.block_price-2.ensures ∙ ap (λ w. capped (block_price known w (block_view c.as_slice-body.result.now))) c.words_column.ensures);
      emits = kept_price (emits_of known) _ _ _ body (c.block_price-3.ensures ∙ ap capped (block_price-emits known (block_view c.as_slice-body.result.now)));
      stores = λ i l. c.store_counts.ensures i l ∙ ap (λ b. capped (stores_of known i b)) body;
      assigns = λ i l. c.assigned_variables.ensures i l ∙ ap (assigns_of known i) body;
      reaches = λ k l. c.reached_functions.ensures k l ∙ ap (reaches_of known k) body;
      depth = kept_depth known c.args.function.now.parameters.items c.as_slice-parameters.result.now _ _ _ _ _ c.plus.result
          c.as_slice-parameters.ensures.value body refl c.frame.ensures c.deepest.ensures c.plus.ensures;
    }
