-- Code that is appended piece by piece.
use Rattle.codegen.proofs.Names.{◌≡◌, ℕ, zero, suc, ◌+◌, ◌-◌, ◌<◌, ◌≤◌, List, [], ◌∷◌, ◌++◌, length, drop, get_or, sym, ap, ◌∙◌, arith, append_assoc}
use Rattle.codegen.proofs.Names.{drop-cons, refl}
use Rattle.codegen.proofs.Names.{Some, ◌==◌, add-one, rules, subst, Bool, true, false, if◌then◌else◌, Result, Ok, Err, is_ok, test_code, test_words, remove}
use Rattle.codegen.proofs.Names.{slice_index_or, on_ok_weaker, Condition, Source, Form, Push, Jump, forms_bytes-append, times_code}
use Rattle.codegen.proofs.Names.{Comparison, PlainOperation, ArrayPlace, ListPlace, LoggedPlace, Step, Test, Program}
use Rattle.codegen.proofs.Names.{versioned_read, versioned_write, versioned_update, logged_write, logged_update, choose, holds, compares, both, either, step}
use Rattle.codegen.proofs.Names.{step_of, steps_of, test_of, Bound, Waiting, waiting_source, flushed, top_of}
use Rattle.codegen.proofs.Names.{R4, WorkRegister, Target, Move, ToRegister, StackNext, source_from, local_register, local_target, values_code, below_words}
use Rattle.codegen.proofs.Names.{frame_code}
use Rattle.codegen.proofs.Names.{below_top, repeated, size, waiting_behind, step_code, steps_code}
use Rattle.word_code.specs.array_versions.declared.program.WordStep.{WordStep, the_lemmas}
use Rattle.word_code.specs.array_versions.declared.program.WordStep.TheVariants.{VersionedRead, VersionedWrite, VersionedUpdate}
use Rattle.word_code.specs.array_versions.declared.program.WordStep.TheVariants.{LoggedWrite, LoggedUpdate, Choose}
use Rattle.word_code.specs.array_versions.declared.program.WordTest.{WordTest}
use Rattle.word_code.specs.array_versions.declared.program.WordTest.TheVariants.{Holds, Compares, Both, Either}
use Rattle.std.specs.Result.{OnOk}
use Rattle.std.specs.declared.alloc.Global.{Global}
use Rattle.std.specs.declared.boxed.Box.{Box}
use Rattle.std.specs.declared.vec.Vec.{Vec}
use Rattle.word_code.proofs.Interface.{test_takes}

-- ---- one level of a step and of a test

pub step_of-read : (place : ArrayPlace) (list : ListPlace) → step_of (VersionedRead place list) ≡ versioned_read place list
step_of-read place list = search (rules, the_lemmas)

pub step_of-write : (place : ArrayPlace) (list : ListPlace) → step_of (VersionedWrite place list) ≡ versioned_write place list
step_of-write place list = search (rules, the_lemmas)

pub step_of-update : (o : PlainOperation) (place : ArrayPlace) (list : ListPlace) → step_of (VersionedUpdate o place list) ≡ versioned_update o place list
step_of-update o place list = search (rules, the_lemmas)

pub step_of-logged_write : (place : LoggedPlace) (list : ListPlace) → step_of (LoggedWrite place list) ≡ logged_write place list
step_of-logged_write place list = search (rules, the_lemmas)

pub step_of-logged_update : (o : PlainOperation) (place : LoggedPlace) (list : ListPlace) → step_of (LoggedUpdate o place list) ≡ logged_update o place list
step_of-logged_update o place list = search (rules, the_lemmas)

pub step_of-choose : (t : WordTest) (p q : Vec WordStep Global) → step_of (Choose t p q) ≡ choose (test_of t) (steps_of p.items) (steps_of q.items)
step_of-choose t p q = search (rules, the_lemmas)

pub test_of-holds : (p : Vec WordStep Global) → test_of (Holds p) ≡ holds (steps_of p.items)
test_of-holds p = search (rules, the_lemmas)

pub test_of-compares : (c : Comparison) (p : Vec WordStep Global) → test_of (Compares c p) ≡ compares c (steps_of p.items)
test_of-compares c p = search (rules, the_lemmas)

pub test_of-both : (t u : Box WordTest Global) → test_of (Both t u) ≡ both (test_of t.value) (test_of u.value)
test_of-both t u = search (rules, the_lemmas)

pub test_of-either : (t u : Box WordTest Global) → test_of (Either t u) ≡ either (test_of t.value) (test_of u.value)
test_of-either t u = search (rules, the_lemmas)

-- ---- pieces

-- the front of the list that is left
pub left_front : (xs : List WordStep) (i : ℕ) (x : WordStep) → i < length xs → x ≡ get_or xs i x
    → steps_of (drop i xs) ≡ step (step_of x) (steps_of (drop (i + 1) xs))
left_front xs i x l e =
    ap steps_of (drop-cons xs i x l) ∙ ap (λ y. steps_of (y ∷ drop (suc i) xs)) (sym e) ∙ ap (λ j. steps_of (x ∷ drop j xs)) (sym (add-one i))

-- one more step of what is owed
pub step_owed : (bs : List Bound) (s : Step) (more : Program) (os os' : List Waiting) (code new all : List Form)
    → new ≡ code ++ step_code bs os s → os' ≡ waiting_behind os s → code ++ steps_code bs os (step s more) ≡ all → new ++ steps_code bs os' more ≡ all
step_owed bs s more os os' code new all e q h =
    let rest = steps_code bs (waiting_behind os s) more in
    ap (λ ws. new ++ steps_code bs ws more) q ∙ ap (λ l. l ++ rest) e ∙ append_assoc code (step_code bs os s) rest ∙ h

-- a list of words that wait, its top taken or one more on it
pub taken_is : (os : List Waiting) (x : Waiting) → (length os == 0) ≡ false → x ≡ slice_index_or os 0 x → Some x ≡ top_of os
taken_is [] x l e = absurd (let q = l in (cc))
taken_is (o ∷ os) x l e = ap Some e

pub left_is : (os : List Waiting) → remove os 0 ≡ below_top os
left_is [] = refl
left_is (o ∷ os) = refl

-- one more of them is pushed, from the lowest on
pub flushed_step : (os : List Waiting) (i : ℕ) (o : Waiting) (x : Source) (old code new : List Form) → i < length os
    → o ≡ get_or os (length os - 1 - i) o → x ≡ waiting_source o → new ≡ code ++ Push x ∷ [] → code ≡ old ++ flushed (drop (length os - i) os)
    → new ≡ old ++ flushed (drop (length os - (i + 1)) os)
flushed_step os i o x old code new l e q f known =
    let j = length os - 1 - i in
    let up : suc j ≡ length os - i = omega arith in
    let at : length os - (i + 1) ≡ j = omega arith in
    let rest = flushed (drop (length os - i) os) in
    let here : drop (length os - (i + 1)) os ≡ o ∷ drop (length os - i) os =
    ap (λ k. drop k os) at ∙ drop-cons os j o (omega arith) ∙ ap (λ y. y ∷ drop (suc j) os) (sym e) ∙ ap (λ k. o ∷ drop k os) up in
    f ∙ ap (λ y. code ++ Push y ∷ []) q ∙ ap (λ c. c ++ Push (waiting_source o) ∷ []) known ∙ append_assoc old rest (Push (waiting_source o) ∷ [])
    ∙ ap (λ ws. old ++ flushed ws) (sym here)

-- once more forms that are owed
pub forms_owed : (ms : List Form) (n k : ℕ) (code new all : List Form) → k < n → new ≡ code ++ ms → code ++ times_code (n - k) ms ≡ all
    → new ++ times_code (n - (k + 1)) ms ≡ all
forms_owed ms n k code new all l f h =
    let j = n - (k + 1) in
    let s : n - k ≡ suc j = omega arith in
    ap (λ x. x ++ times_code j ms) f ∙ append_assoc code ms (times_code j ms) ∙ ap (λ x. code ++ times_code x ms) (sym s) ∙ h

-- one more word to a register, of those that are owed
pub values_step : (first n k : ℕ) (os os' : List Waiting) (x : Source) (r : WorkRegister) (code new all : List Form) → k < n → x ≡ source_from (top_of os)
    → r ≡ local_register (first + (n - 1 - k)) → os' ≡ below_top os → new ≡ code ++ Move x (ToRegister r) ∷ []
    → code ++ values_code first (n - k) os ≡ all → new ++ values_code first (n - (k + 1)) os' ≡ all
values_step first n k os os' x r code new all l from to left f h =
    let j = n - (k + 1) in
    let up : n - k ≡ suc j = omega arith in
    let at : n - 1 - k ≡ j = omega arith in
    let form = Move (source_from (top_of os)) (ToRegister (local_register (first + j))) in
    let rest = values_code first j (below_top os) in
    let same : Move x (ToRegister r) ≡ form =
    ap (λ y. Move y (ToRegister r)) from ∙ ap (λ y. Move (source_from (top_of os)) (ToRegister y)) (to ∙ ap (λ i. local_register (first + i)) at) in
    ap (λ ws. new ++ values_code first j ws) left ∙ ap (λ c. c ++ rest) (f ∙ ap (λ m. code ++ m ∷ []) same) ∙ append_assoc code (form ∷ []) rest
    ∙ ap (λ i. code ++ values_code first i os) (sym up) ∙ h

-- and what waits below them
pub words_step : (n k : ℕ) (os os' all : List Waiting) → k < n → os' ≡ below_top os → below_words (n - k) os ≡ all → below_words (n - (k + 1)) os' ≡ all
words_step n k os os' all l left h =
    let j = n - (k + 1) in
    let up : n - k ≡ suc j = omega arith in
    ap (below_words j) left ∙ ap (λ i. below_words i os) (sym up) ∙ h

-- one more word to a local of a function, of those that are owed
pub moves_step : (first n k : ℕ) (y : Target) (code new all : List Form) → k < n → y ≡ local_target (first + (n - 1 - k))
    → new ≡ code ++ Move (StackNext R4) y ∷ [] → code ++ frame_code first (n - k) ≡ all → new ++ frame_code first (n - (k + 1)) ≡ all
moves_step first n k y code new all l to f h =
    let j = n - (k + 1) in
    let up : n - k ≡ suc j = omega arith in
    let at : n - 1 - k ≡ j = omega arith in
    let form = Move (StackNext R4) (local_target (first + j)) in
    let rest = frame_code first j in
    let same = ap (λ x. Move (StackNext R4) x) (to ∙ ap (λ i. local_target (first + i)) at) in
    ap (λ c. c ++ rest) (f ∙ ap (λ m. code ++ m ∷ []) same) ∙ append_assoc code (form ∷ []) rest ∙ ap (λ i. code ++ frame_code first i) (sym up) ∙ h

-- one form so many times
pub times_one : (k : ℕ) (m : Form) → times_code k (m ∷ []) ≡ repeated k m
times_one zero m = refl
times_one (suc k) m = ap (λ l. m ∷ l) (times_one k m)

-- a part behind another one, where there was memory for it
pub behind : {T E : Type 0} (r : Result T E) (code first new a b : List Form) → first ≡ code ++ a → OnOk r (new ≡ first ++ b)
    → OnOk r (new ≡ code ++ (a ++ b))
behind r code first new a b f h = on_ok_weaker r (λ (n : new ≡ first ++ b). n ∙ ap (λ l. l ++ b) f ∙ append_assoc code a b) h

-- what is appended where there is memory for it
pub on_ok_items : {T E : Type 0} (r : Result T E) (new x y : List Form) → new ≡ (if is_ok r then x else y) → OnOk r (new ≡ x)
on_ok_items (Ok v) new x y e = e
on_ok_items (Err v) new x y e = tt

-- so many words where a flag is set are no more than these
pub words_at_most : (b : Bool) (n : ℕ) → (if b then n else 0) ≤ n
words_at_most true n = omega arith
words_at_most false n = omega arith

-- the words of a test's code, at most
pub test_size : (bs : List Bound) (t : Test) (when : Bool) (d : ℕ) (own : List Form) → own ≡ test_code bs t when d → size own ≤ test_words t
test_size bs t when d own e = omega (arith, ap size e, (test_takes bs t when d).bytes)

-- a jump of one word behind code
pub one_more : (ms : List Form) (k : Condition) (d : ℕ) → size (ms ++ Jump k d ∷ []) ≡ size ms + 1
one_more ms k d = omega (arith, forms_bytes-append ms (Jump k d ∷ []))
