-- The walk over the words that a map doesn't name.
use Rattle.std.proofs.Common.{◌≡◌, ◌<◌, ◌≤◌, ℕ, zero, suc, ◌+◌, ◌*◌, Bool, true, false, cond, List, [], ◌∷◌, length, get_or, drop, Option, Some, None, refl}
use Rattle.std.proofs.Common.{sym, ap, ◌∙◌, add-one, arith}
use Rattle.std.specs.Prelude.{◌==◌, ◌||◌, ◌-◌, ◌/◌}
use Rattle.std.proofs.Math.Seq.{drop-cons}
use Rattle.std.proofs.Math.Bool.{or-true}
use Rattle.std.proofs.lemmas.Bool.{eq-eqb, eqb-true, eqb-false, ne_eqb}
use Rattle.image_text.specs.image_map.MapValue.{MapValue, IsFramWord}
use Rattle.fram_state.specs.Named.{is_named}
use Rattle.fram_state.specs.OtherImage.{first_other, SameBut, IsFirstOther}
use Rattle.fram_state.specs.Laws.{AreImages}

-- the first word of two lists, and those behind it
abbrev step : MapValue → ℕ → ℕ → ℕ → Option ℕ → Option ℕ
step m w v a behind = cond (is_named m a || w == v) behind (Some a)

step_at : (m : MapValue) (ws vs : List ℕ) (i a : ℕ) → i < length ws → i < length vs
    → first_other m (drop i ws) (drop i vs) a ≡ step m (get_or ws i 0) (get_or vs i 0) a (first_other m (drop (i + 1) ws) (drop (i + 1) vs) (a + 2))
step_at m ws vs i a h k =
    ap (λ r. first_other m r (drop i vs) a) (drop-cons ws i 0 h) ∙ ap (λ r. first_other m (get_or ws i 0 ∷ drop (suc i) ws) r a) (drop-cons vs i 0 k)
    ∙ ap (λ j. step m (get_or ws i 0) (get_or vs i 0) a (first_other m (drop j ws) (drop j vs) (a + 2))) (sym (add-one i))

-- a word that is the same, or that the map names, is passed
pub same_passed : (m : MapValue) (ws vs : List ℕ) (i a : ℕ) → i < length ws → i < length vs → get_or ws i 0 ≡ get_or vs i 0
    → first_other m (drop i ws) (drop i vs) a ≡ first_other m (drop (i + 1) ws) (drop (i + 1) vs) (a + 2)
same_passed m ws vs i a h k e = step_at m ws vs i a h k
    ∙ ap (λ b. cond (is_named m a || b) (first_other m (drop (i + 1) ws) (drop (i + 1) vs) (a + 2)) (Some a)) (eq-eqb (get_or ws i 0) (get_or vs i 0) e)
    ∙ ap (λ b. cond b (first_other m (drop (i + 1) ws) (drop (i + 1) vs) (a + 2)) (Some a)) (or-true (is_named m a))

pub named_passed : (m : MapValue) (ws vs : List ℕ) (i a : ℕ) → i < length ws → i < length vs → is_named m a ≡ true
    → first_other m (drop i ws) (drop i vs) a ≡ first_other m (drop (i + 1) ws) (drop (i + 1) vs) (a + 2)
named_passed m ws vs i a h k e = step_at m ws vs i a h k
    ∙ ap (λ b. cond (b || get_or ws i 0 == get_or vs i 0) (first_other m (drop (i + 1) ws) (drop (i + 1) vs) (a + 2)) (Some a)) e

-- another one is the first
pub other_found : (m : MapValue) (ws vs : List ℕ) (i a : ℕ) → i < length ws → i < length vs → is_named m a ≡ false → (get_or ws i 0 ≡ get_or vs i 0 → ⊥)
    → first_other m (drop i ws) (drop i vs) a ≡ Some a
other_found m ws vs i a h k e differ = step_at m ws vs i a h k
    ∙ ap (λ b. cond (b || get_or ws i 0 == get_or vs i 0) (first_other m (drop (i + 1) ws) (drop (i + 1) vs) (a + 2)) (Some a)) e
    ∙ ap (λ b. cond b (first_other m (drop (i + 1) ws) (drop (i + 1) vs) (a + 2)) (Some a)) (ne_eqb (get_or ws i 0) (get_or vs i 0) differ)

-- behind the last word there is none
pub none_behind : (m : MapValue) (ws vs : List ℕ) (i a : ℕ) → length ws ≤ i → first_other m (drop i ws) (drop i vs) a ≡ None
none_behind m [] vs zero a h = refl
none_behind m [] vs (suc i) a h = refl
none_behind m (w ∷ ws) vs zero a h = absurd (omega arith)
none_behind m (w ∷ ws) [] (suc i) a h = by_rest (drop i ws)
  where
    by_rest : (ws : List ℕ) → first_other m ws [] a ≡ None
    by_rest [] = refl
    by_rest (w ∷ ws) = refl
none_behind m (w ∷ ws) (v ∷ vs) (suc i) a h = none_behind m ws vs i a (omega arith)

pub ruleset word_by_word = (same_passed, named_passed, other_found, none_behind)

-- where no word is another, each that the map doesn't name is the same
none_other : (m : MapValue) (ws vs : List ℕ) (a i : ℕ) → length ws ≡ length vs → first_other m ws vs a ≡ None → is_named m (a + 2 * i) ≡ false
    → get_or vs i 0 ≡ get_or ws i 0
none_other m [] [] a i e h n = refl
none_other m [] (v ∷ vs) a i e h n = absurd (omega arith)
none_other m (w ∷ ws) [] a i e h n = absurd (omega arith)
none_other m (w ∷ ws) (v ∷ vs) a i e h n = by_first (λ j. none_other m ws vs (a + 2) j (omega arith)) i (is_named m a) refl (w == v) refl h n
  where
    by_first : ((j : ℕ) → first_other m ws vs (a + 2) ≡ None → is_named m ((a + 2) + 2 * j) ≡ false → get_or vs j 0 ≡ get_or ws j 0)
        → (i : ℕ) (b : Bool) → is_named m a ≡ b → (c : Bool) → (w == v) ≡ c → cond (b || c) (first_other m ws vs (a + 2)) (Some a) ≡ None
        → is_named m (a + 2 * i) ≡ false → get_or (v ∷ vs) i 0 ≡ get_or (w ∷ ws) i 0
    by_first more i false s false t h n = cc
    by_first more zero b s true t h n = sym (eqb-true w v t)
    by_first more zero true s false t h n = let at : a + 2 * 0 ≡ a = omega arith in let same : is_named m (a + 2 * 0) ≡ is_named m a = ap (is_named m) at in cc
    by_first more (suc i) true s c t h n =
        let at : a + 2 * suc i ≡ (a + 2) + 2 * i = omega arith in
        more i h (ap (is_named m) (sym at) ∙ n)
    by_first more (suc i) false s true t h n =
        let at : a + 2 * suc i ≡ (a + 2) + 2 * i = omega arith in
        more i h (ap (is_named m) (sym at) ∙ n)

-- so the words are the image's, where the map names nothing
pub same_but : (m : MapValue) (image words : List ℕ) → length image ≡ length words → first_other m image words 0x4400 ≡ None → SameBut m image words
same_but m image words e h = record {
  each = λ a word n.
      let at : 0x4400 + 2 * ((a - 17408) / 2) ≡ a = omega (arith, word.low, word.even) in
      none_other m image words 0x4400 ((a - 17408) / 2) e h (ap (is_named m) at ∙ n);
}

-- and where there is none, none is found
no_other : (m : MapValue) (ws vs : List ℕ) (a : ℕ) → ((i : ℕ) → i < length ws → is_named m (a + 2 * i) ≡ false → get_or vs i 0 ≡ get_or ws i 0)
    → first_other m ws vs a ≡ None
no_other m [] vs a same = refl
no_other m (w ∷ ws) [] a same = refl
no_other m (w ∷ ws) (v ∷ vs) a same =
    ap (λ b. cond b (first_other m ws vs (a + 2)) (Some a)) (by_named (is_named m a) refl)
    ∙ no_other m ws vs (a + 2) (λ i h n. let at : (a + 2) + 2 * i ≡ a + 2 * suc i = omega arith in same (suc i) (omega arith) (ap (is_named m) (sym at) ∙ n))
  where
    by_named : (b : Bool) → is_named m a ≡ b → (b || w == v) ≡ true
    by_named true n = refl
    by_named false n = let at : a + 2 * 0 ≡ a = omega arith in eq-eqb w v (sym (same 0 (omega arith) (ap (is_named m) at ∙ n)))

pub same_none : (m : MapValue) (image words : List ℕ) → length image ≡ 24064 → SameBut m image words → first_other m image words 0x4400 ≡ None
same_none m image words e s = no_other m image words 0x4400 (λ i h n.
    let place : ((0x4400 + 2 * i) - 17408) / 2 ≡ i = omega arith in
    let word : IsFramWord (0x4400 + 2 * i) = record { low = omega arith; high = omega arith; even = omega arith } in
    ap (λ k. get_or words k 0) (sym place) ∙ s.each (0x4400 + 2 * i) word n ∙ ap (λ k. get_or image k 0) place)

-- the place of the word that is found
record FoundAt (m : MapValue) (ws vs : List ℕ) (a x : ℕ) : Type 0 where
  place : ℕ
  address : x ≡ a + 2 * place
  within : place < length ws
  unnamed : is_named m x ≡ false
  differs : get_or vs place 0 ≡ get_or ws place 0 → ⊥
  first : (j : ℕ) → j < place → is_named m (a + 2 * j) ≡ false → get_or vs j 0 ≡ get_or ws j 0

found_at : (m : MapValue) (ws vs : List ℕ) (a x : ℕ) → first_other m ws vs a ≡ Some x → FoundAt m ws vs a x
found_at m [] vs a x h = cc
found_at m (w ∷ ws) [] a x h = cc
found_at m (w ∷ ws) (v ∷ vs) a x h = by_first (found_at m ws vs (a + 2) x) (is_named m a) refl (w == v) refl h
  where
    behind : (is_named m a ≡ false → v ≡ w) → FoundAt m ws vs (a + 2) x → FoundAt m (w ∷ ws) (v ∷ vs) a x
    behind same f = record {
      place = suc f.place;
      address = omega (arith, f.address);
      within = omega (arith, f.within);
      unnamed = f.unnamed;
      differs = f.differs;
      first = before;
    }
      where
        before : (j : ℕ) → j < suc f.place → is_named m (a + 2 * j) ≡ false → get_or (v ∷ vs) j 0 ≡ get_or (w ∷ ws) j 0
        before zero k n = let at : a + 2 * 0 ≡ a = omega arith in same (ap (is_named m) (sym at) ∙ n)
        before (suc j) k n = let at : a + 2 * suc j ≡ (a + 2) + 2 * j = omega arith in f.first j (omega arith) (ap (is_named m) (sym at) ∙ n)

    by_first : (first_other m ws vs (a + 2) ≡ Some x → FoundAt m ws vs (a + 2) x) → (b : Bool) → is_named m a ≡ b → (c : Bool) → (w == v) ≡ c
        → cond (b || c) (first_other m ws vs (a + 2)) (Some a) ≡ Some x → FoundAt m (w ∷ ws) (v ∷ vs) a x
    by_first more true n c t g = behind (λ u. cc) (more g)
    by_first more false n true t g = behind (λ u. sym (eqb-true w v t)) (more g)
    by_first more false n false t g =
        let is : a ≡ x = cc in
        record {
          place = 0;
          address = omega (arith, is);
          within = omega arith;
          unnamed = ap (is_named m) (sym is) ∙ n;
          differs = λ e. eqb-false w v t (sym e);
          first = λ j k u. absurd (omega arith);
        }

-- so it is the first one by its address
pub other_first : (m : MapValue) (image words : List ℕ) (a : ℕ) → AreImages image words → first_other m image words 0x4400 ≡ Some a
    → IsFirstOther m image words a
other_first m image words a l h = by_found (found_at m image words 0x4400 a h)
  where
    by_found : FoundAt m image words 0x4400 a → IsFirstOther m image words a
    by_found f =
        let place : (a - 17408) / 2 ≡ f.place = omega (arith, f.address) in
        record {
          word = record { low = omega (arith, f.address); high = omega (arith, f.address, f.within, l.of_image); even = omega (arith, f.address) };
          unnamed = f.unnamed;
          differs = λ e. f.differs (ap (λ k. get_or words k 0) (sym place) ∙ e ∙ ap (λ k. get_or image k 0) place);
          first = λ b word k n.
              let at : 0x4400 + 2 * ((b - 17408) / 2) ≡ b = omega (arith, word.low, word.even) in
              f.first ((b - 17408) / 2) (omega (arith, f.address, k, word.low)) (ap (is_named m) at ∙ n);
        }
