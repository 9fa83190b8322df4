use Rattle.std.proofs.Common.{◌≡◌, rules}
use Rattle.alp_io.proofs.Appends.{writes_all_but, writes_then}
use Rattle.alp_io.proofs.sink.add_piece.Goals as goal

pub returns-clause-whole : goal.returns-clause-whole
returns-clause-whole g c =
    let same : c.as_slice.result.now ≡ c.args.line.now.items = search rules in
    let first = rw same at c.in_ok-write_all.ensures.bytes.whole in
    writes_all_but _ _ _ _ _ _ _ c.clear.ensures first c.write_all-2.ensures.bytes

pub returns-clause-part : goal.returns-clause-part
returns-clause-part g c =
    let same : c.as_slice.result.now ≡ c.args.line.now.items = search rules in
    let first = rw same at c.in_ok-write_all.ensures.bytes.whole in
    (writes_then _ _ _ _ _ _ first c.write_all-2.ensures.bytes).part
