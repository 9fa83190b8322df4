-- Bytes at places that are free, or taken.
use Rattle.std.proofs.Common.{◌≡◌, ◌≤◌, ◌<◌, ℕ, suc, zero, ◌+◌, List, [], ◌∷◌, length, drop, get_or, drop-cons, add-one, arith, refl, ap, sym, ◌∙◌}
use Rattle.std.proofs.Common.{if◌then◌else◌, Bool, true, false, Option, Some, None}
use Rattle.std.specs.Option.{is_some}
use Rattle.std.specs.Prelude.{slice_set}
use Rattle.image_text.specs.Memory.{put_once}

-- in a list the default doesn't matter
pub in_list : {A : Type 0} (m : List A) (i : ℕ) (x d : A) → i < length m → x ≡ get_or m i x → get_or m i d ≡ x
in_list [] i x d h e = absurd (omega arith)
in_list (y ∷ ys) zero x d h e = sym e
in_list (y ∷ ys) (suc i) x d h e = in_list ys i x d (omega arith) e

pub drop_end : {A : Type 0} (k : ℕ) (xs : List A) → length xs ≤ k → drop k xs ≡ []
drop_end zero [] h = refl
drop_end (suc k) [] h = refl
drop_end zero (x ∷ xs) h = absurd (omega arith)
drop_end (suc k) (x ∷ xs) h = drop_end k xs (omega arith)

-- behind the last byte nothing is put
pub put_end : (i k : ℕ) (bs : List ℕ) (m : List (Option ℕ)) → length bs ≤ k → put_once i (drop k bs) m ≡ Some m
unfolding put_once
put_end i k bs m h = rw (drop_end k bs h) refl

put_at_cons : (t : Bool) (i b : ℕ) (bs : List ℕ) (m : List (Option ℕ)) → is_some (get_or m i None) ≡ t
    → put_once i (b ∷ bs) m ≡ (if t then None else put_once (i + 1) bs (slice_set m i (Some b)))
unfolding put_once
put_at_cons t i b bs m e = rw e refl

-- no byte is put where one was
pub put_stop : (i k : ℕ) (bs : List ℕ) (m : List (Option ℕ)) (x : Option ℕ) → k < length bs → i < length m
    → x ≡ get_or m i x → true ≡ is_some x → put_once i (drop k bs) m ≡ None
put_stop i k bs m x h l e f = ap (λ r. put_once i r m) (drop-cons bs k 0 h)
    ∙ put_at_cons true i _ _ m (ap is_some (in_list m i x None l e) ∙ sym f)

-- a byte is put where none was
pub put_more : (i k : ℕ) (bs : List ℕ) (m : List (Option ℕ)) (x : Option ℕ) → k < length bs → i < length m
    → x ≡ get_or m i x → false ≡ is_some x → put_once i (drop k bs) m ≡ put_once (i + 1) (drop (k + 1) bs) (slice_set m i (Some (get_or bs k 0)))
put_more i k bs m x h l e f = ap (λ r. put_once i r m) (drop-cons bs k 0 h)
    ∙ put_at_cons false i _ _ m (ap is_some (in_list m i x None l e) ∙ sym f)
    ∙ ap (λ j. put_once (i + 1) (drop j bs) (slice_set m i (Some (get_or bs k 0)))) (sym (add-one k))
