-- The answers of functions: the k-th is made from those of the k functions in front of it.
use Rattle.std.proofs.Common.{◌≡◌, ℕ, zero, suc, ◌+◌, ◌<◌, List, [], ◌∷◌, ◌++◌, length, take, get_or, Some, refl, sym, ap, subst, ◌∙◌}
use Rattle.std.proofs.Common.{arith, append_assoc}
use Rattle.std.proofs.lemmas.List.{append-nil, length_push, take_all, take_at, take-take, take_more}
use Rattle.std.proofs.lemmas.Option.{slice_get_past}
use Rattle.std.specs.Prelude.{slice_get}
use Rattle.std.specs.Option.{option_map}
use Rattle.task_ast.specs.Answers.{answers_from, answers}

get_front : {A : Type 0} (xs ys : List A) (k : ℕ) → k < length xs → slice_get (xs ++ ys) k ≡ slice_get xs k
get_front [] ys k lt = let none : ⊥ = omega arith in absurd none
get_front (x ∷ xs) ys zero lt = refl
get_front (x ∷ xs) ys (suc k) lt = get_front xs ys k (omega arith)

get_last : {A : Type 0} (xs : List A) (x : A) → slice_get (xs ++ x ∷ []) (length xs) ≡ Some x
get_last [] x = refl
get_last (y ∷ xs) x = get_last xs x

-- so many answers as functions, behind those that were known
pub answers_length : {F A : Type 0} (make : List A → F → A) (known : List A) (fs : List F)
    → length (answers_from make known fs) ≡ length known + length fs
answers_length make known [] = omega arith
answers_length make known (f ∷ fs) =
    let pushed = length_push known (make known f) in
    let rest = answers_length make (known ++ make known f ∷ []) fs in
    omega arith

-- what is known stays
pub known_stays : {F A : Type 0} (make : List A → F → A) (known : List A) (fs : List F) (k : ℕ) → k < length known
    → slice_get (answers_from make known fs) k ≡ slice_get known k
known_stays make known [] k lt = refl
known_stays make known (f ∷ fs) k lt =
    let pushed = length_push known (make known f) in
    known_stays make (known ++ make known f ∷ []) fs k (omega arith) ∙ get_front known (make known f ∷ []) k lt

answer_behind : {F A : Type 0} (make : List A → F → A) (known : List A) (fs : List F) (k n : ℕ) → n ≡ length known + k
    → slice_get (answers_from make known fs) n ≡ option_map (make (answers_from make known (take k fs))) (slice_get fs k)
answer_behind make known [] k n e = slice_get_past known n (omega arith)
answer_behind make known (f ∷ fs) zero n e =
    let pushed = length_push known (make known f) in
    let last : n ≡ length known = omega arith in
    known_stays make (known ++ make known f ∷ []) fs n (omega arith)
    ∙ ap (slice_get (known ++ make known f ∷ [])) last ∙ get_last known (make known f)
answer_behind make known (f ∷ fs) (suc k) n e =
    let pushed = length_push known (make known f) in
    answer_behind make (known ++ make known f ∷ []) fs k n (omega arith)

-- the k-th answer is made from the k-th function and the answers of those in front
pub answer_at : {F A : Type 0} (make : List A → F → A) (fs : List F) (k : ℕ)
    → slice_get (answers make fs) k ≡ option_map (make (answers make (take k fs))) (slice_get fs k)
answer_at make fs k = answer_behind make [] fs k k (omega arith)

-- the same of a function that is there
pub answer_of : {F A : Type 0} (make : List A → F → A) (fs : List F) (k : ℕ) (f : F) → slice_get fs k ≡ Some f
    → slice_get (answers make fs) k ≡ Some (make (answers make (take k fs)) f)
answer_of make fs k f at = answer_at make fs k ∙ ap (option_map (make (answers make (take k fs)))) at

-- the answers of two lists of functions, one behind the other
pub answers_append : {F A : Type 0} (make : List A → F → A) (known : List A) (fs gs : List F)
    → answers_from make known (fs ++ gs) ≡ answers_from make (answers_from make known fs) gs
answers_append make known [] gs = refl
answers_append make known (f ∷ fs) gs = answers_append make (known ++ make known f ∷ []) fs gs

-- a loop over the functions takes this step
pub answers_more : {F A : Type 0} (make : List A → F → A) (fs : List F) (i : ℕ) (d : F) → i < length fs
    → answers make (take (i + 1) fs) ≡ answers make (take i fs) ++ make (answers make (take i fs)) (get_or fs i d) ∷ []
answers_more make fs i d lt =
    ap (answers make) (take_more fs i d lt) ∙ answers_append make [] (take i fs) (get_or fs i d ∷ [])

known_front : {F A : Type 0} (make : List A → F → A) (known : List A) (fs : List F) (n : ℕ) → n ≡ length known
    → take n (answers_from make known fs) ≡ known
known_front make known [] n e = take_all n known (omega arith)
known_front make known (f ∷ fs) n e =
    let pushed = length_push known (make known f) in
    let more = known ++ make known f ∷ [] in
    sym (take-take n (suc n) (answers_from make more fs) (omega arith))
    ∙ ap (take n) (known_front make more fs (suc n) (omega arith)) ∙ take_at known (make known f ∷ []) n (sym e)

take_behind : {F A : Type 0} (make : List A → F → A) (known : List A) (fs : List F) (k n : ℕ) → n ≡ length known + k
    → take n (answers_from make known fs) ≡ answers_from make known (take k fs)
take_behind make known [] zero n e = take_all n known (omega arith)
take_behind make known [] (suc k) n e = take_all n known (omega arith)
take_behind make known (f ∷ fs) zero n e = known_front make known (f ∷ fs) n (omega arith)
take_behind make known (f ∷ fs) (suc k) n e =
    let pushed = length_push known (make known f) in
    take_behind make (known ++ make known f ∷ []) fs k n (omega arith)

-- the first k answers are those of the first k functions
pub answers_take : {F A : Type 0} (make : List A → F → A) (fs : List F) (k : ℕ) → take k (answers make fs) ≡ answers make (take k fs)
answers_take make fs k = take_behind make [] fs k k (omega arith)

along_from : {F A : Type 0} (make : List A → F → A) (P : List F → List A → Type 0)
    → ((front : List F) (known : List A) (f : F) → P front known → P (front ++ f ∷ []) (known ++ make known f ∷ []))
    → (front : List F) (known : List A) (fs : List F) → P front known → P (front ++ fs) (answers_from make known fs)
along_from make P step front known [] h = subst (λ xs. P xs known) (sym (append-nil front)) h
along_from make P step front known (f ∷ fs) h =
    subst (λ xs. P xs (answers_from make (known ++ make known f ∷ []) fs)) (append_assoc front (f ∷ []) fs)
    (along_from make P step (front ++ f ∷ []) (known ++ make known f ∷ []) fs (step front known f h))

-- what holds of no functions, and of one more wherever it holds of those in front of it, holds of all with their answers
pub along_answers : {F A : Type 0} (make : List A → F → A) (P : List F → List A → Type 0) → P [] []
    → ((front : List F) (known : List A) (f : F) → P front known → P (front ++ f ∷ []) (known ++ make known f ∷ []))
    → (fs : List F) → P fs (answers make fs)
along_answers make P none step fs = along_from make P step [] [] fs none
