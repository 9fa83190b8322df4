use Rattle.link_image.proofs.Names.{◌≡◌, ℕ, drop, map, IsFram, fram_of, initial_words, shared_word, AreWords}
use Rattle.link_image.proofs.words.put_scalars.Given as goal

abbrev pub invariant-loop-i : goal.invariant-loop-i
invariant-loop-i l = record {
  each : (a : ℕ) → IsFram a → fram_of l.image.words a ≡ shared_word (drop l.i l.variables) (map (λ d. initial_words d.extent) (drop l.i l.shared)) a;
  are_words : AreWords l.fn.image.words → AreWords l.image.words;
  same_map : l.image.map ≡ l.fn.image.map;
}
