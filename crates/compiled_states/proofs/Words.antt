-- The words of a state at addresses, one by one.
use Rattle.compiled_states.proofs.Names.{◌≡◌, ℕ, zero, suc, ◌+◌, ◌*◌, ◌%◌, ◌<◌, ◌≤◌, ◌==◌, ◌&&◌, true, List, ◌∷◌, length, get_or, take, drop, refl, sym, ap}
use Rattle.compiled_states.proofs.Names.{◌∙◌, All, arith, nat_le, nat_lt, slice_index, leb-true, le-leb, lt-ltb, eq-eqb, and_parts, and_from, cond-true}
use Rattle.compiled_states.proofs.Names.{cond_both, place_of, is_fram, IsFram, fram_of, steady, is_ring, steady_low, word_in, words_from, are_at_most}
use Rattle.std.proofs.Math.Seq.{drop-cons}
use Rattle.machine_effects.proofs.Interface.{index_small}

-- the word of a FRAM at one of its addresses
pub fram_at : (words : List ℕ) (a : ℕ) → IsFram a → fram_of words a ≡ word_in words a
fram_at words a is =
    cond-true ((a % 2 == 0) && is_fram a) (slice_index words (place_of a)) 0
    (and_from (a % 2 == 0) (is_fram a) (eq-eqb (a % 2) 0 is.even)
    (and_from (nat_le 0x4400 a) (nat_lt a 0x10000) (le-leb 0x4400 a is.low) (lt-ltb a 0x10000 is.high)))

-- all are words
pub fram_small : (words : List ℕ) → All (λ w. w < 0x10000) words → (a : ℕ) → fram_of words a < 0x10000
fram_small words all a =
    cond_both ((a % 2 == 0) && is_fram a) (slice_index words (place_of a)) 0 (λ w. w < 0x10000) (λ e. index_small words (place_of a) all) (λ e. omega arith)

-- and of one in front of the handler, also where HEAD and the ring are left out
pub steady_at : (words : List ℕ) (a : ℕ) → IsFram a → a < 0xFF20 → steady (fram_of words) a ≡ word_in words a
steady_at words a is low = steady_low (fram_of words) a low ∙ fram_at words a is

pub steady_small : (words : List ℕ) → All (λ w. w < 0x10000) words → (a : ℕ) → steady (fram_of words) a < 0x10000
steady_small words all a = cond_both (is_ring a) 0 (fram_of words a) (λ w. w < 0x10000) (λ e. omega arith) (λ e. fram_small words all a)

-- the first of the words from an address on
pub first_word : (words : List ℕ) (a n : ℕ) → length words ≡ 24064 → IsFram a
    → words_from words a (suc n) ≡ word_in words a ∷ words_from words (a + 2) n
first_word words a n all is =
    let low = is.low in let high = is.high in let even = is.even in
    let p : ℕ = place_of a in
    let next : place_of (a + 2) ≡ suc p = omega (arith, low) in
    let h : p < length words = omega (arith, all, low, high, even) in
    ap (λ ws. take (suc n) ws) (drop-cons words p 0 h) ∙ ap (λ k. get_or words p 0 ∷ take n (drop k words)) (sym next)

-- words of which none is above a number
pub each_at_most : (n : ℕ) (words : List ℕ) (a top : ℕ) → length words ≡ 24064 → a % 2 ≡ 0 → 0x4400 ≤ a → a + 2 * n ≤ 0x10000
    → are_at_most (words_from words a n) top ≡ true → (i : ℕ) → i < n → word_in words (a + 2 * i) ≤ top
each_at_most zero words a top all even low high h i lt = absurd (omega (arith, lt))
each_at_most (suc n) words a top all even low high h i lt =
    by_index i lt (leb-true (word_in words a) top both.0)
    (each_at_most n words (a + 2) top all (omega (arith, even)) (omega (arith, low)) (omega (arith, high)) both.1)
  where
    is : IsFram a
    is = record { even = even; low = low; high = omega (arith, high) }

    both : (nat_le (word_in words a) top ≡ true) × (are_at_most (words_from words (a + 2) n) top ≡ true)
    both = and_parts (nat_le (word_in words a) top) (are_at_most (words_from words (a + 2) n) top)
        (sym (ap (λ ws. are_at_most ws top) (first_word words a n all is)) ∙ h)

    by_index : (i : ℕ) → i < suc n → word_in words a ≤ top → ((i : ℕ) → i < n → word_in words ((a + 2) + 2 * i) ≤ top) → word_in words (a + 2 * i) ≤ top
    by_index zero lt here rest = let at : a + 2 * 0 ≡ a = omega arith in let same = ap (word_in words) at in omega (arith, same, here)
    by_index (suc i) lt here rest =
        let at : a + 2 * suc i ≡ (a + 2) + 2 * i = omega arith in
        let same = ap (word_in words) at in let more = rest i (omega (arith, lt)) in omega (arith, same, more)

pub all_at_most : (n : ℕ) (words : List ℕ) (a top : ℕ) → length words ≡ 24064 → a % 2 ≡ 0 → 0x4400 ≤ a → a + 2 * n ≤ 0x10000
    → ((i : ℕ) → i < n → word_in words (a + 2 * i) ≤ top) → are_at_most (words_from words a n) top ≡ true
all_at_most zero words a top all even low high h = refl
all_at_most (suc n) words a top all even low high h =
    let is : IsFram a = record { even = even; low = low; high = omega (arith, high) } in
    let here : word_in words a ≤ top =
    (let at : a + 2 * 0 ≡ a = omega arith in let same = ap (word_in words) at in let most = h 0 (omega arith) in omega (arith, same, most)) in
    ap (λ ws. are_at_most ws top) (first_word words a n all is)
    ∙ and_from (nat_le (word_in words a) top) (are_at_most (words_from words (a + 2) n) top) (le-leb (word_in words a) top here)
    (all_at_most n words (a + 2) top all (omega (arith, even)) (omega (arith, low)) (omega (arith, high)) (λ i lt.
    let at : (a + 2) + 2 * i ≡ a + 2 * suc i = omega arith in
    let same = ap (word_in words) at in let most = h (suc i) (omega (arith, lt)) in omega (arith, same, most)))
