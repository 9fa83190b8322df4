-- How often choices are taken, as they are counted.
use Rattle.std.proofs.Common.{◌≡◌, ◌∙◌, ℕ, zero, suc, ◌+◌, ◌-◌, ◌*◌, ◌==◌, ◌^◌, ◌<◌, ◌≤◌, ◌⊎◌, inl, inr, min, Bool, true, false, ◌&&◌, if◌then◌else◌}
use Rattle.std.proofs.Common.{List, [], ◌∷◌, ◌++◌, map, length, take, drop, slice_index, replicate, refl, sym, ap, rules, arith}
use Rattle.std.proofs.lemmas.List.{length-replicate, get_or-replicate}
use Rattle.std.proofs.Math.Seq.{take-append_seam}
use Rattle.std.specs.declared.alloc.Global.{Global}
use Rattle.std.specs.declared.rc.Rc.{Rc}
use Rattle.code_paths.specs.Paths.{capped}
use Rattle.code_ways.specs.declared.choices.Choices.{Choices, the_lemmas}
use Rattle.code_ways.specs.declared.choices.Choices.TheVariants.{Behind, Turns}
use Rattle.code_ways.specs.Choices.{Taken, turned, choices_of, times_of, is_so, counts_from, HaveGrown}

pub choices_behind : (a b : Rc Choices Global) → choices_of (Behind a b) ≡ choices_of a.value ++ choices_of b.value
choices_behind a b = search (rules, the_lemmas)

pub choices_turned : (m : ℕ) (a : Rc Choices Global) → choices_of (Turns m a) ≡ map (turned m) (choices_of a.value)
choices_turned m a = search (rules, the_lemmas)

times_append : (h : Bool) (i : ℕ) (a b : List Taken) → times_of h i (a ++ b) ≡ times_of h i a + times_of h i b
times_append h i [] b = omega arith
times_append h i (t ∷ a) b = let rest = times_append h i a b in omega (arith, rest)

one_turned : (b : Bool) (m t rest : ℕ) → (if b then m * t else 0) + m * rest ≡ m * ((if b then t else 0) + rest)
one_turned true m t rest = omega arith
one_turned false m t rest = omega arith

times_turned : (h : Bool) (i m : ℕ) (a : List Taken) → times_of h i (map (turned m) a) ≡ m * times_of h i a
times_turned h i m [] = omega arith
times_turned h i m (t ∷ a) =
    ap (λ r. (if (t.number == i) && is_so h t.holds then m * t.times else 0) + r) (times_turned h i m a)
    ∙ one_turned ((t.number == i) && is_so h t.holds) m t.times (times_of h i a)

two_added : (m old mid new t a b : ℕ) → min mid m ≡ min (old + t * a) m → min new m ≡ min (mid + t * b) m → min new m ≡ min (old + t * (a + b)) m
two_added m old mid new t a b e f = let each : t * (a + b) ≡ t * a + t * b = omega arith in omega (arith, e, f, each)

pub behind_grown : (old mid new : List ℕ) (h : Bool) (t : ℕ) (a b c : List Taken) → length mid ≡ length old
    → HaveGrown old mid (λ i. t * times_of h i a) → HaveGrown mid new (λ i. t * times_of h i b) → c ≡ a ++ b → HaveGrown old new (λ i. t * times_of h i c)
behind_grown old mid new h t a b c same e f g i less =
    let there : i < length mid = omega (arith, same, less) in
    two_added (2 ^ 64 - 1) (slice_index old i) (slice_index mid i) (slice_index new i) t (times_of h i a) (times_of h i b) (e i less) (f i there)
    ∙ ap (λ n. capped (slice_index old i + t * n)) (sym (ap (times_of h i) g ∙ times_append h i a b))

-- a product of which a side was cut off
le_or : (p q : ℕ) → (p ≤ q) ⊎ (q ≤ p)
le_or zero q = inl (omega arith)
le_or (suc p) zero = inr (omega arith)
le_or (suc p) (suc q) = elim (le_or p q) [ inl h ↦ inl (omega arith) | inr h ↦ inr (omega arith) ]

large : (n a m : ℕ) → m ≤ a → m ≤ a * suc n
large n a m h = omega arith

cut_product : (m old a n : ℕ) → min (old + min a m * n) m ≡ min (old + a * n) m
cut_product m old a zero = omega arith
cut_product m old a (suc n) = elim (le_or a m) [
  | inl h ↦ (let e : min a m ≡ a = omega arith in ap (λ b. min (old + b * suc n) m) e)
  | inr h ↦ (let e : min a m ≡ m = omega arith in
      let x = large n m m (omega arith) in
      let y = large n a m h in
      ap (λ b. min (old + b * suc n) m) e ∙ (let z : min (old + m * suc n) m ≡ m = omega (arith, x) in z)
      ∙ (let z : m ≡ min (old + a * suc n) m = omega (arith, y) in z))
]

pub turns_grown : (old new : List ℕ) (h : Bool) (t m cut : ℕ) (a c : List Taken) → cut ≡ capped (t * m) → HaveGrown old new (λ i. cut * times_of h i a)
    → c ≡ map (turned m) a → HaveGrown old new (λ i. t * times_of h i c)
turns_grown old new h t m cut a c is e g i less =
    let n = times_of h i a in
    let each : t * m * n ≡ t * (m * n) = omega arith in
    e i less ∙ ap (λ x. capped (slice_index old i + x * n)) is ∙ cut_product (2 ^ 64 - 1) (slice_index old i) (t * m) n
    ∙ ap (λ x. capped (slice_index old i + x)) each
    ∙ ap (λ n. capped (slice_index old i + t * n)) (sym (ap (times_of h i) g ∙ times_turned h i m a))

-- a whole part is written
pub written_whole : (n : ℕ) (new items : List ℕ) → length new ≡ n → take n (new ++ drop (length new) items) ≡ new
written_whole n new items e = ap (λ k. take k (new ++ drop (length new) items)) (sym e) ∙ take-append_seam new (drop (length new) items)

-- counts that began with none
pub all_counted : (n k : ℕ) (h : Bool) (a : List Taken) (counts : List ℕ) → length counts ≡ n → ((i : ℕ) → slice_index counts i < 2 ^ 64)
    → ((i : ℕ) → i < n → capped (slice_index counts i) ≡ capped (times_of h (k + i) a)) → counts ≡ counts_from h k n a
all_counted zero k h a [] e fit each = refl
all_counted zero k h a (c ∷ counts) e fit each = cc
all_counted (suc n) k h a [] e fit each = cc
all_counted (suc n) k h a (c ∷ counts) e fit each =
    let first : c ≡ capped (times_of h k a) =
    (let low = fit 0 in let here = each 0 (omega arith) in let at : k + 0 ≡ k = omega arith in
    let own : c ≡ capped c = omega (arith, low) in own ∙ here ∙ ap (λ j. capped (times_of h j a)) at) in
    let rest = all_counted n (suc k) h a counts (omega (arith, e)) (λ i. fit (suc i))
    (λ i less. each (suc i) (omega (arith, less)) ∙ ap (λ j. capped (times_of h j a)) (further i)) in
    ap (λ x. x ∷ counts) first ∙ ap (λ xs. capped (times_of h k a) ∷ xs) rest
  where
    further : (i : ℕ) → k + suc i ≡ suc k + i
    further i = omega arith

pub begun_with_none : (n : ℕ) (h : Bool) (a : List Taken) (old new : List ℕ) → old ≡ replicate n 0 → length new ≡ length old
    → HaveGrown old new (λ i. times_of h i a) → ((i : ℕ) → slice_index new i < 2 ^ 64) → new ≡ counts_from h 0 n a
begun_with_none n h a old new e length_is grown fit =
    let count : length old ≡ n = ap length e ∙ length-replicate n 0 in
    all_counted n 0 h a new (length_is ∙ count) fit
    (λ i less. let none : slice_index old i ≡ 0 = ap (λ l. slice_index l i) e ∙ get_or-replicate n i 0 0 less in
    grown i (omega (arith, count, less)) ∙ ap (λ x. capped (x + times_of h i a)) none ∙ ap (λ x. capped x) (same (times_of h i a))
    ∙ ap (λ j. capped (times_of h j a)) (at i))
  where
    same : (x : ℕ) → 0 + x ≡ x
    same x = omega arith

    at : (i : ℕ) → i ≡ 0 + i
    at i = omega arith
