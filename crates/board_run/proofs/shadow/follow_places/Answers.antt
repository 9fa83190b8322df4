use Rattle.std.proofs.Common.{◌∙◌, ◌<◌, ℕ, refl, sym, subst, slice_index, length-set}
use Rattle.image_text.specs.address_space.Limits.{fram_words}
use Rattle.board_run.proofs.Marks.{cut_place, rest_next}
use Rattle.board_run.proofs.shadow.follow_places.Goals as goal

pub loop-listed-preserved : goal.loop-listed-preserved
loop-listed-preserved c =
    let place = c.from-place.result in
    let k = c.loop-listed.listed-index in
    let P : ℕ → Type 0 = λ p. p < fram_words in
    record {
      lengths = record {
        words = length-set _ _ _ ∙ c.loop-listed.invariant.lengths.words;
        marks = length-set _ _ _ ∙ c.loop-listed.invariant.lengths.marks;
        blocks = length-set _ _ _ ∙ c.loop-listed.invariant.lengths.blocks;
        regions = length-set _ _ _ ∙ c.loop-listed.invariant.lengths.regions;
      };
      rest = rest_next _ _ _ _ k place (slice_index c.args.fram.now place) c.loop-listed.invariant.lengths.words
          (subst P (sym c.from-place.ensures) (c.requires.inside k 0 c.loop-listed-test.true)) refl
          (cut_place c.args.places.now k place c.loop-listed-test.true c.from-place.ensures) c.loop-listed.invariant.rest;
    }
