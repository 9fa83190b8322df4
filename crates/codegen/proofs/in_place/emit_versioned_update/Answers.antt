use Rattle.codegen.proofs.Names.{sym, ◌∙◌}
use Rattle.codegen.proofs.Emitted.{behind}
use Rattle.codegen.proofs.in_place.emit_versioned_update.Goals as goal

pub returns-in_ok-emit_rest-in-Some-clause-code : goal.returns-in_ok-emit_rest-in-Some-clause-code
returns-in_ok-emit_rest-in-Some-clause-code c =
    let right = c.take-right.ensures in
    let known = sym c.in-Some.is ∙ (rw (c.deref-2.ensures.value, right.below) at c.number_below.ensures) in
    let first = rw (c.take.ensures.below, right.below, right.top) at c.in_ok-emit_rest-in-Some.ensures.code in
    rw (sym known) (behind c.emit_known.result _ _ _ _ _ first (rw right.top at c.emit_known.ensures))

pub returns-in_ok-emit_rest_and_index-in-None-clause-code : goal.returns-in_ok-emit_rest_and_index-in-None-clause-code
returns-in_ok-emit_rest_and_index-in-None-clause-code c =
    let right = c.take-right.ensures in
    let known = sym c.in-None.is ∙ (rw (c.deref-2.ensures.value, right.below) at c.number_below.ensures) in
    let sure = rw (c.under_top.ensures, c.deref.ensures.value) at c.is_inside-sure.ensures in
    let first = rw (right.below, right.top) at c.in_ok-emit_rest_and_index-in-None.ensures.code in
    rw (sym known) (behind c.emit_indexed_update.result _ _ _ _ _ first (rw (sure, right.top) at c.emit_indexed_update.ensures))
