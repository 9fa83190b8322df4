use Rattle.link_image.proofs.Names.{◌∙◌, ◌-◌, ◌/◌, ◌==◌, if◌then◌else◌, ap, ap₂, sym, subst, map, length, slice_index, fram_first, reset_vector, home_region}
use Rattle.link_image.proofs.Names.{AreInOrder, is_within, shared_word}
use Rattle.image_laws.specs.Words.{with_handler}
use Rattle.link_image.proofs.words.put_image.Goals as goal
use Rattle.link_image.proofs.Placing.{rows_of, wider_order}

pub put_scalars-requires-clause-order : goal.put_scalars-requires-clause-order
put_scalars-requires-clause-order c =
    subst (λ vs. AreInOrder fram_first (map home_region vs) reset_vector) (sym c.variables.ensures)
    (wider_order c.args.layout.now c.rules.ensures)

pub returns-clause-each : goal.returns-clause-each
returns-clause-each c = λ a is.
    let code = c.args.code.now in
    c.put_word-2.ensures.each a is
    ∙ ap₂ (λ v o. if a == reset_vector then v else o) (ap (λ r. r.address) c.boot-2.ensures)
    (c.put_handler.ensures.each a is
    ∙ ap₂ (λ r o. with_handler r.events a o) c.runtime.ensures
    (c.put_words.ensures.each a is
    ∙ ap₂ (λ r o. if is_within (record { address = r.address; words = length code }) a then slice_index code ((a - r.address) / 2) else o) c.boot.ensures
    (c.put_word.ensures.each a is
    ∙ ap₂ (λ w o. if a == w then c.args.entry else o) c.word_place.ensures
    (c.put_scalars.ensures.each a is ∙ ap (λ vs. shared_word vs (rows_of c.args.shared.now) a) c.variables.ensures))))

pub returns-clause-are_words : goal.returns-clause-are_words
returns-clause-are_words c = λ h.
    c.put_word-2.ensures.are_words (c.put_handler.ensures.are_words
    (c.put_words.ensures.are_words (c.put_word.ensures.are_words (c.put_scalars.ensures.are_words h))))
