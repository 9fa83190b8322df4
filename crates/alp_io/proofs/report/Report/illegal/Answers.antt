use Rattle.std.proofs.Common.{◌≡◌, ◌∙◌}
use Rattle.alp_text.specs.Numbers.{hex4}
use Rattle.alp_io.specs.Report.{illegal_line}
use Rattle.alp_io.proofs.report.Report.illegal.Goals as goal

pub returns-clause-bytes : goal.returns-clause-bytes
unfolding illegal_line
returns-clause-bytes g c =
    let pc : c.as_bytes.result.now ≡ hex4 c.args.pc = c.as_bytes.ensures.value ∙ c.deref.ensures.0 ∙ c.print_hex4-pc.ensures in
    let word : c.as_bytes-2.result.now ≡ hex4 c.args.word = c.as_bytes-2.ensures.value ∙ c.deref-2.ensures.0 ∙ c.print_hex4-word.ensures in
    let written = c.write_pieces.ensures.bytes in
    rw (pc, word) at written
