-- What holds of each function of a source, by those in front of it.
use Rattle.std.proofs.Common.{List, [], ◌∷◌, ◌++◌}
use Rattle.std.specs.List.{AllZip}
use Rattle.task_ast.specs.Answers.{answers_from}

-- what holds of each of a list, from its first on
abbrev pub Every : {A : Type 0} → (A → Type 0) → List A → Type 0
Every P [] = Unit {0}
Every P (x ∷ xs) = P x × Every P xs

every_push : {A : Type 0} (P : A → Type 0) (xs : List A) (x : A) → Every P xs → P x → Every P (xs ++ x ∷ [])
every_push P [] x h p = (p, tt)
every_push P (y ∷ xs) x h p = (h.0, every_push P xs x h.1 p)

-- what holds of an answer wherever it holds of those in front of it
pub each_answer : {F A : Type 0} (P : A → Type 0) (make : List A → F → A) → ((known : List A) (f : F) → Every P known → P (make known f))
    → (known : List A) (fs : List F) → Every P known → Every P (answers_from make known fs)
each_answer P make one known [] h = h
each_answer P make one known (f ∷ fs) h =
    each_answer P make one (known ++ make known f ∷ []) fs (every_push P known (make known f) h (one known f h))

pub pushed : {A B : Type 0} (R : A → B → Type 0) (xs : List A) (ys : List B) (x : A) (y : B) → AllZip R xs ys → R x y
    → AllZip R (xs ++ x ∷ []) (ys ++ y ∷ [])
pushed R [] [] x y h r = (r, tt)
pushed R [] (b ∷ ys) x y h r = absurd h
pushed R (a ∷ xs) [] x y h r = absurd h
pushed R (a ∷ xs) (b ∷ ys) x y h r = (h.0, pushed R xs ys x y h.1 r)

-- the same of two kinds of answers, side by side
pub both_answers : {F A B : Type 0} (R : A → B → Type 0) (make : List A → F → A) (count : List B → F → B)
    → ((known : List A) (counts : List B) (f : F) → AllZip R known counts → R (make known f) (count counts f))
    → (known : List A) (counts : List B) (fs : List F) → AllZip R known counts → AllZip R (answers_from make known fs) (answers_from count counts fs)
both_answers R make count one known counts [] h = h
both_answers R make count one known counts (f ∷ fs) h =
    both_answers R make count one (known ++ make known f ∷ []) (counts ++ count counts f ∷ []) fs
    (pushed R known counts (make known f) (count counts f) h (one known counts f h))
