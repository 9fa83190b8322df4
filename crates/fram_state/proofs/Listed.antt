-- What the words of a place are, one by one.
use Rattle.std.proofs.Common.{◌≡◌, ◌<◌, ◌≤◌, ℕ, suc, ◌+◌, ◌*◌, List, ◌∷◌, length, get_or, take, drop, sym, ap, ◌∙◌, arith}
use Rattle.std.proofs.Math.Seq.{drop-cons}
use Rattle.image_text.specs.image_map.MapValue.{IsFramWord}
use Rattle.image_text.specs.ImageValue.{place_of}
use Rattle.fram_state.specs.declared.entry.Entry.{Entry}
use Rattle.fram_state.specs.Runtime.{word_in, words_from}
use Rattle.fram_state.specs.Sound.{entries_of}

-- the first of the entries that stand from an address on
pub first_entry : (words : List ℕ) (a n : ℕ) → length words ≡ 24064 → IsFramWord a → a + 6 ≤ 65536
    → entries_of (words_from words a (3 * suc n))
    ≡ record { home = word_in words a; copy = word_in words (a + 2); words = word_in words (a + 4) } ∷ entries_of (words_from words (a + 6) (3 * n))
first_entry words a n all word fits =
    let p : ℕ = place_of a in
    let second : place_of (a + 2) ≡ suc p = omega (arith, word.low) in
    let third : place_of (a + 4) ≡ suc (suc p) = omega (arith, word.low) in
    let behind : place_of (a + 6) ≡ suc (suc (suc p)) = omega (arith, word.low) in
    let count : 3 * suc n ≡ suc (suc (suc (3 * n))) = omega arith in
    let h : p < length words = omega (arith, word.low, word.even) in
    let i : suc p < length words = omega (arith, word.low, word.even) in
    let j : suc (suc p) < length words = omega (arith, word.low, word.even) in
    let cut : drop p words ≡ get_or words p 0 ∷ get_or words (suc p) 0 ∷ get_or words (suc (suc p)) 0 ∷ drop (suc (suc (suc p))) words
    = drop-cons words p 0 h ∙ ap (λ ws. get_or words p 0 ∷ ws) (drop-cons words (suc p) 0 i
    ∙ ap (λ ws. get_or words (suc p) 0 ∷ ws) (drop-cons words (suc (suc p)) 0 j)) in
    let entry : ℕ → ℕ → List ℕ → List Entry
    = λ b c ws. record { home = get_or words p 0; copy = get_or words b 0; words = get_or words c 0 } ∷ entries_of (take (3 * n) ws) in
    ap (λ k. entries_of (take k (drop p words))) count ∙ ap (λ ws. entries_of (take (suc (suc (suc (3 * n)))) ws)) cut
    ∙ ap (λ b. entry b (suc (suc p)) (drop (suc (suc (suc p))) words)) (sym second)
    ∙ ap (λ c. entry (place_of (a + 2)) c (drop (suc (suc (suc p))) words)) (sym third)
    ∙ ap (λ d. entry (place_of (a + 2)) (place_of (a + 4)) (drop d words)) (sym behind)
