use Rattle.std.proofs.Common.{◌∙◌, arith}
use Rattle.msp_asm.proofs.Listing.{listed_step, listed_end, section_fronts, section_cut, no_sections, on_err}
use Rattle.msp_asm.proofs.Whole.{text_assembles}
use Rattle.msp_asm.proofs.disassembler.disassemble.Goals as goal

pub returns-in_err-write_section-clause-part : goal.returns-in_err-write_section-clause-part
returns-in_err-write_section-clause-part g c = on_err _ c.from_residual.result
    (section_cut _ (record { place = c.in-Some.at; words = c.in-Some.section.now }) _ _ _ _ _ c.loop-at.invariant.bytes c.in-Some.ensures.cut
    c.in_err-write_section.ensures.part)

pub loop-at-preserved : goal.loop-at-preserved
loop-at-preserved g c =
    let w = c.in_ok-write_section.ensures.whole in
    record {
      room = c.in-Some.ensures.shorter.2 ∙ c.loop-at.invariant.room;
      bytes = listed_step _ _ _ _ _ _ w.0 c.loop-at.invariant.bytes
          (section_fronts (record { place = c.in-Some.at; words = c.in-Some.section.now }) _ _ w.0 c.in-Some.ensures.cut w.1) w.2;
      count = omega (arith, c.write_section.ensures.cause.later, c.loop-at.invariant.count);
    }

pub returns-clause-whole : goal.returns-clause-whole
returns-clause-whole g c = listed_end _ _ _ _ c.loop-at.invariant.bytes (no_sections _ c.in_default.ensures.cut)

pub returns-in_err-write_section-clause-assembles : goal.returns-in_err-write_section-clause-assembles
returns-in_err-write_section-clause-assembles g c =
    λ text. text_assembles c.args.image.now.words c.words-words.result.now text c.words-words.ensures.value c.words-words.ensures.len c.are_words.ensures

pub returns-clause-assembles : goal.returns-clause-assembles
returns-clause-assembles g c = λ text. text_assembles c.args.image.now.words c.words-words.result.now text c.words-words.ensures.value
    c.words-words.ensures.len c.are_words.ensures
