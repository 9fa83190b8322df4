-- The entries of the commit list, one behind another.
use Rattle.std.proofs.Common.{◌≡◌, ◌<◌, ◌≤◌, ℕ, suc, ◌+◌, ◌-◌, ◌*◌, true, false, List, [], ◌∷◌, length, sym, ap, ◌∙◌, arith, inl, inr}
use Rattle.std.specs.Prelude.{◌&&◌, nat_le}
use Rattle.std.specs.List.{list_all}
use Rattle.std.proofs.lemmas.Bool.{le-leb, lt-leb, cases_lt}
use Rattle.std.proofs.lemmas.List.Sums.{sum_by-cons}
use Rattle.std.proofs.Math.Bool.{and-false}
use Rattle.image_text.specs.image_map.MapValue.{MapValue}
use Rattle.image_text.specs.image_map.declared.parts.Variable.{Variable}
use Rattle.fram_state.specs.declared.entry.Entry.{Entry}
use Rattle.fram_state.specs.Named.{is_shared}
use Rattle.fram_state.specs.Sound.{entries_of, are_shared, is_entry, words_of, are_entries}

-- ---- words one behind another

-- the first of the words that are left
pub shared_step : (vs : List Variable) (n i a : ℕ) → i < n
    → are_shared vs (n - i) (a + 2 * i) ≡ (is_shared vs (a + 2 * i) && are_shared vs (n - (i + 1)) (a + 2 * (i + 1)))
shared_step vs n i a h =
    let left : n - i ≡ suc (n - (i + 1)) = omega arith in
    let next : (a + 2 * i) + 2 ≡ a + 2 * (i + 1) = omega arith in
    ap (λ k. are_shared vs k (a + 2 * i)) left ∙ ap (λ b. is_shared vs (a + 2 * i) && are_shared vs (n - (i + 1)) b) next

pub shared_more : (vs : List Variable) (n i a : ℕ) → i < n → is_shared vs (a + 2 * i) ≡ true
    → are_shared vs (n - (i + 1)) (a + 2 * (i + 1)) ≡ are_shared vs (n - i) (a + 2 * i)
shared_more vs n i a h s = sym (shared_step vs n i a h ∙ ap (λ b. b && are_shared vs (n - (i + 1)) (a + 2 * (i + 1))) s)

pub shared_stop : (vs : List Variable) (n i a : ℕ) → i < n → is_shared vs (a + 2 * i) ≡ false → are_shared vs (n - i) (a + 2 * i) ≡ false
shared_stop vs n i a h s = shared_step vs n i a h ∙ ap (λ b. b && are_shared vs (n - (i + 1)) (a + 2 * (i + 1))) s

pub shared_end : (vs : List Variable) (n i a : ℕ) → n ≤ i → are_shared vs (n - i) a ≡ true
shared_end vs n i a h = let none : n - i ≡ 0 = omega arith in ap (λ k. are_shared vs k a) none

-- ---- entries one behind another

-- an entry in front, with room for its words
pub entry_more : (m : MapValue) (e : Entry) (es : List Entry) (room : ℕ) → e.words ≤ room → is_entry m e ≡ true
    → are_entries m es (room - e.words) ≡ are_entries m (e ∷ es) room
entry_more m e es room h s = sym (
    ap (λ b. (b && list_all (is_entry m) es) && nat_le (words_of (e ∷ es)) room) s
    ∙ ap (λ b. list_all (is_entry m) es && b) (by_sum (words_of (e ∷ es)) (sum_by-cons (λ e. e.words) e es)))
  where
    by_room : (k n r : ℕ) → n ≤ r → nat_le (n + k) r ≡ nat_le k (r - n)
    by_room k n r h = elim (cases_lt r (n + k)) [
      | inl more ↦ lt-leb (n + k) r more ∙ sym (lt-leb k (r - n) (omega arith))
      | inr less ↦ le-leb (n + k) r less ∙ sym (le-leb k (r - n) (omega arith))
    ]

    by_sum : (all : ℕ) → all ≡ e.words + words_of es → nat_le all room ≡ nat_le (words_of es) (room - e.words)
    by_sum all is = ap (λ k. nat_le k room) is ∙ by_room (words_of es) e.words room h

-- one that isn't as it has to be
pub entry_stop : (m : MapValue) (e : Entry) (es : List Entry) (room : ℕ) → is_entry m e ≡ false → are_entries m (e ∷ es) room ≡ false
entry_stop m e es room s = ap (λ b. (b && list_all (is_entry m) es) && nat_le (words_of (e ∷ es)) room) s

-- one that has more words than there is room
pub entry_long : (m : MapValue) (e : Entry) (es : List Entry) (room : ℕ) → room < e.words → are_entries m (e ∷ es) room ≡ false
entry_long m e es room h =
    let sum : words_of (e ∷ es) ≡ e.words + words_of es = sum_by-cons (λ e. e.words) e es in
    let more : room < words_of (e ∷ es) = omega arith in
    ap (λ b. list_all (is_entry m) (e ∷ es) && b) (lt-leb (words_of (e ∷ es)) room more) ∙ and-false (list_all (is_entry m) (e ∷ es))

-- fewer than three words are no entry
pub no_entry : (m : MapValue) (ws : List ℕ) (room : ℕ) → length ws < 3 → are_entries m (entries_of ws) room ≡ true
no_entry m [] room h = le-leb 0 room (omega arith)
no_entry m (a ∷ []) room h = le-leb 0 room (omega arith)
no_entry m (a ∷ b ∷ []) room h = le-leb 0 room (omega arith)
no_entry m (a ∷ b ∷ c ∷ ws) room h = absurd (omega arith)

pub ruleset entry_by_entry = (entry_more, entry_stop, entry_long, no_entry)
