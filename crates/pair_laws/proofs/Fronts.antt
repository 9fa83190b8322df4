-- The first elements of a list, and the next one.
use Rattle.std.proofs.Common.{◌≡◌, ◌<◌, ◌≤◌, ◌+◌, ℕ, zero, suc, arith, refl, sym, ◌∙◌, ap, subst, List, [], ◌∷◌, ◌++◌, append_assoc, append-nil}
use Rattle.std.proofs.Common.{length, length-append, Option, Some, None}
use Rattle.std.specs.Prelude.{slice_get, All}
use Rattle.std.proofs.lemmas.Option.{slice_get_within, same_Some, get_or_from_slice_get}
use Rattle.pair_laws.specs.Fronts.{IsFront}

pub front_self : {T : Type 0} (xs : List T) → IsFront xs xs
front_self xs = record { rest = []; joins = append-nil xs }

pub front_then : {T : Type 0} (xs ys zs : List T) → IsFront xs ys → IsFront ys zs → IsFront xs zs
front_then xs ys zs f g = record {
  rest = f.rest ++ g.rest;
  joins = sym (append_assoc xs f.rest g.rest) ∙ ap (λ l. l ++ g.rest) f.joins ∙ g.joins;
}

pub front_length : {T : Type 0} (xs ys : List T) → IsFront xs ys → length xs ≤ length ys
front_length xs ys f = omega (arith, length-append xs f.rest, ap length f.joins)

pub one_longer : {T : Type 0} (xs : List T) (x : T) → length (xs ++ x ∷ []) ≡ length xs + 1
one_longer xs x = length-append xs (x ∷ [])

-- an element of the first list is that of all
get_before : {T : Type 0} (xs ys : List T) (k : ℕ) (x : T) → slice_get xs k ≡ Some x → slice_get (xs ++ ys) k ≡ Some x
get_before [] ys k x e = cc
get_before (y ∷ xs) ys zero x e = e
get_before (y ∷ xs) ys (suc k) x e = get_before xs ys k x e

pub get_kept : {T : Type 0} (xs ys : List T) (k : ℕ) (x : T) → IsFront xs ys → slice_get xs k ≡ Some x → slice_get ys k ≡ Some x
get_kept xs ys k x f e = subst (λ l. slice_get l k ≡ Some x) f.joins (get_before xs f.rest k x e)

get_behind : {T : Type 0} (xs ys : List T) (x : T) → slice_get (xs ++ x ∷ ys) (length xs) ≡ Some x
get_behind [] ys x = refl
get_behind (y ∷ xs) ys x = get_behind xs ys x

-- one list has one next element
pub same_next : {T : Type 0} (xs ys : List T) (x y : T) → IsFront (xs ++ x ∷ []) ys → IsFront (xs ++ y ∷ []) ys → x ≡ y
same_next xs ys x y f g =
    same_Some x y (sym (get_kept (xs ++ x ∷ []) ys (length xs) x f (get_behind xs [] x)) ∙ get_kept (xs ++ y ∷ []) ys (length xs) y g (get_behind xs [] y))

-- with the next element it is a front, too
front_with : {T : Type 0} (xs rest ys : List T) (x : T) → xs ++ rest ≡ ys → slice_get ys (length xs) ≡ Some x → IsFront (xs ++ x ∷ []) ys
front_with xs [] ys x e g =
    let within : length xs < length ys = slice_get_within ys (length xs) x g in
    let long : length xs ≡ length ys = ap length (sym (append-nil xs) ∙ e) in
    absurd (omega arith)
front_with xs (y ∷ rest) ys x e g =
    let same : y ≡ x = same_Some y x (sym (subst (λ l. slice_get l (length xs) ≡ Some y) e (get_behind xs rest y)) ∙ g) in
    record { rest = rest; joins = append_assoc xs (x ∷ []) rest ∙ ap (λ z. xs ++ z ∷ rest) (sym same) ∙ e }

pub front_longer : {T : Type 0} (xs ys : List T) (x : T) → IsFront xs ys → slice_get ys (length xs) ≡ Some x → IsFront (xs ++ x ∷ []) ys
front_longer xs ys x f g = front_with xs f.rest ys x f.joins g

-- what holds of all elements holds of one
pub all_at : {T : Type 0} (P : T → Type 0) (xs : List T) (k : ℕ) (x : T) → All P xs → slice_get xs k ≡ Some x → P x
all_at P xs k x h e = subst P (get_or_from_slice_get xs k x x e) (h k x (slice_get_within xs k x e))

pub all_then : {T : Type 0} (P Q : T → Type 0) (xs : List T) → ((x : T) → P x → Q x) → All P xs → All Q xs
all_then P Q xs f h = λ k d within. f _ (h k d within)
