use Rattle.link_image.proofs.Names.{◌≡◌, ◌-◌, ◌/◌, ℕ, if◌then◌else◌, slice_index, IsFram, fram_of, is_within, AreWords}
use Rattle.link_image.proofs.words.put_words.Given as goal

abbrev pub invariant-loop-i : goal.invariant-loop-i
invariant-loop-i l = record {
  each : (a : ℕ) → IsFram a → fram_of l.image.words a
      ≡ (if is_within (record { address = l.at; words = l.i }) a then slice_index l.words ((a - l.at) / 2) else fram_of l.fn.image.words a);
  are_words : AreWords l.fn.image.words → AreWords l.image.words;
  same_map : l.image.map ≡ l.fn.image.map;
}
