use Rattle.std.proofs.Common.{◌∙◌}
use Rattle.msp_asm.proofs.Listing.{org_written, lines_written, lines_cut, on_ok_later, on_err_later}
use Rattle.msp_asm.proofs.disassembler.write_section.Goals as goal

pub returns-clause-whole : goal.returns-clause-whole
returns-clause-whole g c = on_ok_later _ _ c.write_lines.result c.write_lines.ensures.whole
    (lines_written _ _ _ _ _ (org_written c.args.place c.args.words.now _ _ _ (c.as_slice.ensures.value ∙ c.org_text.ensures)
    c.in_ok-write_all.ensures.bytes.whole))

pub returns-clause-part : goal.returns-clause-part
returns-clause-part g c = on_err_later _ _ c.write_lines.result c.write_lines.ensures.part
    (lines_cut _ _ _ _ _ (org_written c.args.place c.args.words.now _ _ _ (c.as_slice.ensures.value ∙ c.org_text.ensures)
    c.in_ok-write_all.ensures.bytes.whole))
