-- Effects one stretch behind another.
use Rattle.lower.proofs.Names.{◌≡◌, ℕ, List, [], ◌∷◌, ◌++◌, Bool, true, false, refl, ap, ◌∙◌, if◌then◌else◌, ◌==◌, append_assoc, Effect, Store, Take, Outside}
use Rattle.lower.proofs.Names.{Looked, Offered, TakesAndStores, answer_place, answers_told}

-- readings taken, looks and such stores, one stretch behind another
pub takes_append : (P : ℕ → ℕ → Type 0) (es fs : List Effect) → TakesAndStores P es → TakesAndStores P fs → TakesAndStores P (es ++ fs)
takes_append P [] fs h k = k
takes_append P (Store a w ∷ es) fs h k = (h.0, takes_append P es fs h.1 k)
takes_append P (Take r ∷ es) fs h k = takes_append P es fs h k
takes_append P (Outside (Looked seen) ∷ es) fs h k = takes_append P es fs h k
takes_append P (Outside (Offered n w) ∷ es) fs h k = absurd h

-- stores of another kind
pub takes_weaker : (P Q : ℕ → ℕ → Type 0) → ((a w : ℕ) → P a w → Q a w) → (es : List Effect) → TakesAndStores P es → TakesAndStores Q es
takes_weaker P Q f [] h = tt
takes_weaker P Q f (Store a w ∷ es) h = (f a w h.0, takes_weaker P Q f es h.1)
takes_weaker P Q f (Take r ∷ es) h = takes_weaker P Q f es h
takes_weaker P Q f (Outside (Looked seen) ∷ es) h = takes_weaker P Q f es h
takes_weaker P Q f (Outside (Offered n w) ∷ es) h = absurd h

-- one store more
told_store : (b : Bool) (w : ℕ) (all first second : List ℕ) → all ≡ first ++ second
    → (if b then w ∷ all else all) ≡ (if b then w ∷ first else first) ++ second
told_store true w all first second e = ap (λ l. w ∷ l) e
told_store false w all first second e = e

-- the answers that effects tell one stretch behind another
pub told_append : (es fs : List Effect) → answers_told (es ++ fs) ≡ answers_told es ++ answers_told fs
told_append [] fs = refl
told_append (Store a w ∷ es) fs = told_store (a == answer_place) w (answers_told (es ++ fs)) (answers_told es) (answers_told fs) (told_append es fs)
told_append (Take r ∷ es) fs = told_append es fs
told_append (Outside o ∷ es) fs = told_append es fs

-- and with others behind them
pub told_behind : (es fs : List Effect) (others : List ℕ) → answers_told (es ++ fs) ++ others ≡ answers_told es ++ (answers_told fs ++ others)
told_behind es fs others = ap (λ l. l ++ others) (told_append es fs) ∙ append_assoc (answers_told es) (answers_told fs) others
