use Rattle.std.proofs.lemmas.Result.{on_ok_weaker}
use Rattle.image_text.proofs.Printed.{section_written}
use Rattle.image_text.proofs.print.push_section.Goals as goal

pub returns : goal.returns
returns c = on_ok_weaker c.push_words.result (section_written _ _ _ _ _ c.in_ok-push_address.ensures) c.push_words.ensures
