use Rattle.std.proofs.Common.{◌∙◌, ap, ◌++◌, subst, Option, option_map}
use Rattle.text_parts.specs.Printed.{printed}
use Rattle.image_map.specs.MapValue.{MapValue}
use Rattle.image_text.specs.Text.{text_of, map_part}
use Rattle.image_text.specs.Sections.{IsReadBack}
use Rattle.image_text.proofs.Apart.{sections_made}
use Rattle.image_text.proofs.Spread.{printed_back}
use Rattle.image_text.proofs.print.print_image.Goals as goal

pub returns : goal.returns
returns c =
    let P : Option MapValue → Type 0 = λ o. IsReadBack o in
    let words = c.in_ok-push_sections.ensures.text ∙ ap (λ x. x ++ text_of c.words.result.now) c.new-out.ensures.items ∙ ap text_of c.words.ensures.value in
    let text = c.in_ok-push_map_part.ensures.text ∙ ap (λ x. x ++ printed (map_part (option_map (λ m. m.now) c.map.result))) words
    ∙ ap (λ o. text_of c.args.image.now.words ++ printed (map_part o)) c.map.ensures.value in
    let back = subst P c.map.ensures.value c.in_ok-push_map_part.ensures.reads_back in
    record {
      text = text;
      reads_back = printed_back c.args.image.now.words _ _ c.args.image.now.map c.words.ensures.value c.words.ensures.len
          c.in_ok-push_sections.ensures.ranges back text;
      sections = sections_made 0 c.args.image.now.words;
    }

pub returns-in_err-push_sections-clause-sections : goal.returns-in_err-push_sections-clause-sections
returns-in_err-push_sections-clause-sections c = sections_made 0 c.args.image.now.words

pub returns-in_err-push_map_part-clause-sections : goal.returns-in_err-push_map_part-clause-sections
returns-in_err-push_map_part-clause-sections c = sections_made 0 c.args.image.now.words
