-- Bytes that are put right behind what is placed.
use Rattle.std.proofs.Common.{◌≡◌, ℕ, suc, zero, ◌+◌, List, [], ◌∷◌, ◌++◌, length, map, get_or, arith, refl, ap, sym, ◌∙◌, if◌then◌else◌, Bool, false, Option}
use Rattle.std.proofs.Common.{Some, None, append_assoc, length-append, append-nil}
use Rattle.std.specs.Prelude.{slice_set, is_some}
use Rattle.image_text.specs.Memory.{put_once}

-- so many places, none given
abbrev pub nones : ℕ → List (Option ℕ)
nones zero = []
nones (suc n) = None ∷ nones n

get_seam : {A : Type 0} (xs ys : List A) (y d : A) → get_or (xs ++ y ∷ ys) (length xs) d ≡ y
get_seam [] ys y d = refl
get_seam (x ∷ xs) ys y d = get_seam xs ys y d

set_seam : {A : Type 0} (xs ys : List A) (y z : A) → slice_set (xs ++ y ∷ ys) (length xs) z ≡ xs ++ z ∷ ys
set_seam [] ys y z = refl
set_seam (x ∷ xs) ys y z = ap (λ r. x ∷ r) (set_seam xs ys y z)

put_cons : (t : Bool) (i b : ℕ) (bs : List ℕ) (m : List (Option ℕ)) → is_some (get_or m i None) ≡ t
    → put_once i (b ∷ bs) m ≡ (if t then None else put_once (i + 1) bs (slice_set m i (Some b)))
unfolding put_once
put_cons t i b bs m e = rw e refl

-- nothing is put
pub put_none : (i : ℕ) (m : List (Option ℕ)) → put_once i [] m ≡ Some m
unfolding put_once
put_none i m = refl

pub nones_more : (m n : ℕ) → nones (suc m + n) ≡ None ∷ nones (m + n)
nones_more m n = ap nones (let e : suc m + n ≡ suc (m + n) = omega arith in e)

-- bytes right behind what is placed
pub put_seam : (done : List (Option ℕ)) (bs : List ℕ) (i k : ℕ) → i ≡ length done
    → put_once i bs (done ++ nones (length bs + k)) ≡ Some ((done ++ map Some bs) ++ nones k)
put_seam done [] i k e = put_none i _ ∙ ap (λ n. Some (done ++ nones n)) (let z : 0 + k ≡ k = omega arith in z)
    ∙ ap (λ r. Some (r ++ nones k)) (sym (append-nil done))
put_seam done (b ∷ bs) i k e =
    let m : List (Option ℕ) = nones (length bs + k) in
    let next : List (Option ℕ) = done ++ Some b ∷ [] in
    ap (λ r. put_once i (b ∷ bs) (done ++ r)) (nones_more (length bs) k)
    ∙ ap (λ j. put_once j (b ∷ bs) (done ++ None ∷ m)) e
    ∙ put_cons false (length done) b bs (done ++ None ∷ m) (ap is_some (get_seam done m None None))
    ∙ ap (put_once (length done + 1) bs) (set_seam done m None (Some b) ∙ sym (append_assoc done (Some b ∷ []) m))
    ∙ put_seam next bs (length done + 1) k (sym (length-append done (Some b ∷ [])))
    ∙ ap (λ r. Some (r ++ nones k)) (append_assoc done (Some b ∷ []) (map Some bs))
