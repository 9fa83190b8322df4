use Rattle.std.proofs.Common.{◌≡◌, ◌∙◌, length, map, sym, ap, arith}
use Rattle.fram_state.specs.Suits.{line_of, declared_line}
use Rattle.fram_state.proofs.Declared.{same_line, same_count}
use Rattle.fram_state.proofs.laid.put_variables.Goals as goal

pub put_variable-requires-clause-line : goal.put_variable-requires-clause-line
put_variable-requires-clause-line c =
    let text = c.args.new.now.text.now in
    let ds = c.as_slice-shared.result.now in
    let vs = c.variables-variables.result.now in
    let same : map line_of vs ≡ map (declared_line text) ds =
    ap (map line_of) c.variables-variables.ensures ∙ c.requires.new.variables ∙ sym (ap (map (declared_line text)) c.as_slice-shared.ensures.value) in
    let count : length vs ≡ length ds = same_count line_of (declared_line text) vs ds same in
    same_line text ds vs _ _ c.index-variables-k.result (omega (arith, c.loop-k-test.true, c.loop-k.auto.k))
    (omega (arith, count, c.loop-k-test.true, c.loop-k.auto.k)) c.index-variables-k.is same
