use Rattle.std.proofs.Common.{◌∙◌, ap, arith}
use Rattle.fram_state.specs.Kept.{kept_from}
use Rattle.fram_state.specs.Editions.{edition_of}
use Rattle.fram_state.proofs.Rows.{kept_fits}
use Rattle.fram_state.proofs.laid.put_variable.Goals as goal

pub put_row-requires : goal.put_row-requires
put_row-requires c =
    let name = c.spelled-name.result.now in
    let d = c.args.declaration.now in
    let kept = c.in-Some.ensures.value ∙ ap (λ xs. kept_from c.args.old.now.text.now xs name d) c.as_slice-shared.ensures.value in
    let ends = kept_fits (edition_of c.args.old.now) c.requires.old c.args.text.now d c.args.v.now c.requires.place c.requires.line name
    c.words_of.result.now c.in-Some.from c.spelled-name.ensures kept c.words_of.ensures in
    omega (arith, ends, c.requires.all, c.fram_index-place.ensures.place)
