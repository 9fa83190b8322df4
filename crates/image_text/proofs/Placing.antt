-- What is placed where bytes are put, and where they can't be.
use Rattle.std.proofs.Common.{◌≡◌, ◌≤◌, ◌<◌, ℕ, suc, ◌+◌, ◌-◌, List, [], ◌∷◌, length, get_or, arith, refl, ap, sym, ◌∙◌, if◌then◌else◌, nat_lt, nat_le, Bool}
use Rattle.std.proofs.Common.{true, false, Option, Some, None, length-set}
use Rattle.std.proofs.lemmas.List.{get_or-set_same, get_or-set_other}
use Rattle.std.proofs.lemmas.Bool.Decides.{nat_tests}
use Rattle.std.specs.Prelude.{slice_set, is_some, slice_get}
use Rattle.std.specs.Option.{option_or}
use Rattle.image_text.specs.Memory.{put_once}
use Rattle.image_text.specs.Meaning.{byte_from}

-- nothing behind what is there, or not
pub or_none : {A : Type 0} (o : Option A) → option_or o None ≡ o
or_none None = refl
or_none (Some b) = refl

pub not_given : (o : Option ℕ) → is_some o ≡ false → o ≡ None
not_given None h = refl
not_given (Some b) h = cc

from_by : (t : Bool) (bs : List ℕ) (j : ℕ) (u : Bool) → t ≡ u → (if t then slice_get bs j else None) ≡ (if u then slice_get bs j else None)
from_by t bs j u e = ap (λ t. if t then slice_get bs j else None) e

byte_before : (i k : ℕ) (bs : List ℕ) → k < i → byte_from (Some i) bs k ≡ None
byte_before i k bs h = let t : nat_le i k ≡ false = grind (arith, nat_tests) in from_by (nat_le i k) bs (k - i) false t

byte_past : (i k : ℕ) (bs : List ℕ) → i ≤ k → byte_from (Some i) bs k ≡ slice_get bs (k - i)
byte_past i k bs h = let t : nat_le i k ≡ true = grind (arith, nat_tests) in from_by (nat_le i k) bs (k - i) true t

none_by : (t : Bool) (j : ℕ) → (if t then slice_get {X = ℕ} [] j else None) ≡ None
none_by true j = refl
none_by false j = refl

-- what stands at a place where bytes were put: what stood there, or the byte that was put there
pub record Puts (i : ℕ) (bs : List ℕ) (m n : List (Option ℕ)) : Type 0 where
  pub len : length n ≡ length m
  pub free : (k : ℕ) → i ≤ k → k < i + length bs → get_or m k None ≡ None
  pub each : (k : ℕ) → get_or n k None ≡ option_or (get_or m k None) (byte_from (Some i) bs k)

-- below, at and above a place
data Order (k i : ℕ) : Type 0 where
  below : k < i → Order k i
  same : k ≡ i → Order k i
  above : i < k → Order k i

order_by : (t u : Bool) (k i : ℕ) → nat_lt k i ≡ t → nat_lt i k ≡ u → Order k i
order_by true u k i e f = below (grind (arith, nat_tests, e))
order_by false true k i e f = above (grind (arith, nat_tests, f))
order_by false false k i e f = same (grind (arith, nat_tests, e, f))

order : (k i : ℕ) → Order k i
order k i = order_by (nat_lt k i) (nat_lt i k) k i refl refl

shifted : (i k b : ℕ) (bs : List ℕ) → i < k → byte_from (Some (i + 1)) bs k ≡ byte_from (Some i) (b ∷ bs) k
shifted i k b bs h = byte_past (i + 1) k bs (omega arith)
    ∙ sym (byte_past i k (b ∷ bs) (omega arith) ∙ ap (slice_get (b ∷ bs)) (let e : k - i ≡ suc (k - (i + 1)) = omega arith in e))

each_by : (k i b : ℕ) (bs : List ℕ) (m n : List (Option ℕ)) → Order k i → i < length m → get_or m i None ≡ None
    → get_or n k None ≡ option_or (get_or (slice_set m i (Some b)) k None) (byte_from (Some (i + 1)) bs k)
    → get_or n k None ≡ option_or (get_or m k None) (byte_from (Some i) (b ∷ bs) k)
each_by k i b bs m n (below l) h e f = f ∙ ap (λ o. option_or o (byte_from (Some (i + 1)) bs k)) (get_or-set_other m i k (Some b) None (omega arith))
    ∙ ap (option_or (get_or m k None)) (byte_before (i + 1) k bs (omega arith) ∙ sym (byte_before i k (b ∷ bs) l))
each_by k i b bs m n (above l) h e f = f ∙ ap (λ o. option_or o (byte_from (Some (i + 1)) bs k)) (get_or-set_other m i k (Some b) None (omega arith))
    ∙ ap (option_or (get_or m k None)) (shifted i k b bs l)
each_by k i b bs m n (same s) h e f =
    let at : get_or (slice_set m i (Some b)) k None ≡ Some b = ap (λ k. get_or (slice_set m i (Some b)) k None) s ∙ get_or-set_same m i (Some b) None h in
    let was : get_or m k None ≡ None = ap (λ k. get_or m k None) s ∙ e in
    let now : byte_from (Some i) (b ∷ bs) k ≡ Some b = byte_past i k (b ∷ bs) (omega arith) ∙ ap (slice_get (b ∷ bs)) (let z : k - i ≡ 0 = omega arith in z) in
    f ∙ ap (λ o. option_or o (byte_from (Some (i + 1)) bs k)) at ∙ sym (ap (λ o. option_or o (byte_from (Some i) (b ∷ bs) k)) was ∙ now)

free_by : (k i b : ℕ) (bs : List ℕ) (m : List (Option ℕ)) → Order k i → get_or m i None ≡ None
    → ((k : ℕ) → i + 1 ≤ k → k < i + 1 + length bs → get_or (slice_set m i (Some b)) k None ≡ None)
    → i ≤ k → k < i + suc (length bs) → get_or m k None ≡ None
free_by k i b bs m (below l) e f g h = absurd (omega arith)
free_by k i b bs m (same s) e f g h = ap (λ k. get_or m k None) s ∙ e
free_by k i b bs m (above l) e f g h = sym (get_or-set_other m i k (Some b) None (omega arith)) ∙ f k (omega arith) (omega arith)

put_by : (t : Bool) (i b : ℕ) (bs : List ℕ) (m n : List (Option ℕ)) → is_some (get_or m i None) ≡ t → i < length m
    → (put_once (i + 1) bs (slice_set m i (Some b)) ≡ Some n → Puts (i + 1) bs (slice_set m i (Some b)) n)
    → (if t then None else put_once (i + 1) bs (slice_set m i (Some b))) ≡ Some n → Puts i (b ∷ bs) m n
put_by true i b bs m n e h ih f = cc
put_by false i b bs m n e h ih f =
    let free : get_or m i None ≡ None = not_given (get_or m i None) e in
    let p = ih f in
    record {
      len = p.len ∙ length-set m i (Some b);
      free = λ k l r. free_by k i b bs m (order k i) free p.free l r;
      each = λ k. each_by k i b bs m n (order k i) h free (p.each k);
    }

some_of : List (Option ℕ) → Option (List (Option ℕ)) → List (Option ℕ)
some_of d None = d
some_of d (Some m) = m

pub puts : (i : ℕ) (bs : List ℕ) (m n : List (Option ℕ)) → i + length bs ≤ length m → put_once i bs m ≡ Some n → Puts i bs m n
unfolding put_once some_of
puts i [] m n h e = let same : m ≡ n = ap (some_of m) e in record {
  len = ap length (sym same);
  free = λ k l r. absurd (omega arith);
  each = λ k. ap (λ n. get_or n k None) (sym same) ∙ sym (ap (option_or (get_or m k None)) (none_by (nat_le i k) (k - i)) ∙ or_none (get_or m k None));
}
puts i (b ∷ bs) m n h e = put_by (is_some (get_or m i None)) i b bs m n refl (omega arith)
    (puts (i + 1) bs (slice_set m i (Some b)) n (omega (arith, length-set m i (Some b)))) e

-- a place at which a byte is given already
abbrev pub Taken : ℕ → List ℕ → List (Option ℕ) → Type 0
Taken i bs m = (k : ℕ) × (i ≤ k) × (k < i + length bs) × (is_some (get_or m k None) ≡ true)

taken_by : (t : Bool) (i b : ℕ) (bs : List ℕ) (m : List (Option ℕ)) → is_some (get_or m i None) ≡ t
    → (put_once (i + 1) bs (slice_set m i (Some b)) ≡ None → Taken (i + 1) bs (slice_set m i (Some b)))
    → (if t then None else put_once (i + 1) bs (slice_set m i (Some b))) ≡ None → Taken i (b ∷ bs) m
taken_by true i b bs m e ih f = (i, omega arith, omega arith, e)
taken_by false i b bs m e ih f = later (ih f)
  where
    later : Taken (i + 1) bs (slice_set m i (Some b)) → Taken i (b ∷ bs) m
    later (k, l, r, g) = (k, omega arith, omega arith, ap is_some (sym (get_or-set_other m i k (Some b) None (omega arith))) ∙ g)

pub taken : (i : ℕ) (bs : List ℕ) (m : List (Option ℕ)) → put_once i bs m ≡ None → Taken i bs m
unfolding put_once
taken i [] m e = cc
taken i (b ∷ bs) m e = taken_by (is_some (get_or m i None)) i b bs m refl (taken (i + 1) bs (slice_set m i (Some b))) e
