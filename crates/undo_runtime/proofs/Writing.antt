-- Code that is written part by part.
use Rattle.std.proofs.Common.{◌≡◌, ℕ, zero, suc, ◌+◌, ◌*◌, ◌<◌, refl, length, map, drop, get_or, List, [], ◌∷◌, ◌++◌, sym, ap, ◌∙◌, append_assoc, arith}
use Rattle.std.proofs.Common.{length-append}
use Rattle.std.proofs.lemmas.List.{at_drop_more}
use Rattle.runtime_code.specs.code_forms.Forms.{Form, Branch}
use Rattle.runtime_code.specs.Counted.{if_any}
use Rattle.runtime_code.specs.Ladder.{stub_with, stub_of, rung_with, ladder, all_stubs}
use Rattle.boot_runtime.specs.Listing.{interrupts_enabled}
use Rattle.boot_runtime.proofs.Interface.{if_some, some_to_copy}
use Rattle.memory_map.specs.declared.place.PrivateScalar.{PrivateScalar}
use Rattle.memory_map.specs.Places.{scalar_words}
use Rattle.memory_map.specs.Spots.{private_words}
use Rattle.memory_map.specs.MemoryMap.{TaskPlace, MemoryMap}
use Rattle.undo_runtime.specs.Entries.{words_from, home_words, homes_in, task_of}
use Rattle.undo_runtime.specs.Listing.{word_logged_in, logs_in, LoggedTask, stub_bytes, rung_to, rung_for, rungs, stubs_place}
use Rattle.undo_runtime.specs.Listing.{gated_forms, fixed_forms, ladder_forms, boot_forms}

-- two lists behind another, each by what it is
pub two_pushed : (before x y a b c d : List Form) → y ≡ x ++ b → x ≡ before ++ a → a ≡ c → b ≡ d → y ≡ before ++ (c ++ d)
two_pushed before x y a b c d second first one two =
    second ∙ ap (λ l. l ++ b) first ∙ append_assoc before a b ∙ ap (λ l. before ++ (l ++ b)) one ∙ ap (λ l. before ++ (c ++ l)) two

-- words behind words
logs_behind : (m : MemoryMap) (i : ℕ) (xs ys : List ℕ) → logs_in m i (xs ++ ys) ≡ logs_in m i xs ++ logs_in m (i + length xs) ys
logs_behind m i [] ys = let e : i ≡ i + 0 = omega arith in ap (λ k. logs_in m k ys) e
logs_behind m i (a ∷ xs) ys =
    let e : suc i + length xs ≡ i + suc (length xs) = omega arith in
    ap (λ l. word_logged_in m i a ++ l) (logs_behind m (suc i) xs ys ∙ ap (λ k. logs_in m (suc i) xs ++ logs_in m k ys) e)

words_count : (n a : ℕ) → length (words_from n a) ≡ n
words_count zero a = refl
words_count (suc n) a = ap suc (words_count n (a + 2))

-- a private scalar in front of others
pub scalar_behind : (m : MemoryMap) (i : ℕ) (s : PrivateScalar) (more : List PrivateScalar)
    → logs_in m i (homes_in (s ∷ more)) ≡ logs_in m i (home_words s) ++ logs_in m (i + scalar_words s.width) (homes_in more)
scalar_behind m i s more =
    logs_behind m i (home_words s) (homes_in more)
    ∙ ap (λ k. logs_in m i (home_words s) ++ logs_in m (i + k) (homes_in more)) (words_count (scalar_words s.width) s.home)

-- private scalars have as many words as they have
pub homes_count : (privates : List PrivateScalar) → length (homes_in privates) ≡ private_words privates
homes_count [] = refl
homes_count (s ∷ more) =
    let both = length-append (home_words s) (homes_in more) in
    let first = words_count (scalar_words s.width) s.home in
    let rest = homes_count more in
    omega (arith, both, first, rest)

-- a stub, by its parts
pub stub_written : (m : MemoryMap) (is js ks : List Form) (xs : List ℕ) (code : ℕ) → 0 < length xs → js ≡ is ++ logs_in m 0 xs
    → ks ≡ js ++ (Branch code ∷ []) → ks ≡ is ++ stub_with code (logs_in m 0 xs)
stub_written m is js ks [] code some logged branched = absurd (omega (arith, some))
stub_written m is js ks (x ∷ xs) code some logged branched =
    branched ∙ ap (λ l. l ++ (Branch code ∷ [])) logged ∙ append_assoc is (logs_in m 0 (x ∷ xs)) (Branch code ∷ [])

-- the stub of the next task
pub next_written : (m : MemoryMap) (is js all : List Form) (xs : List TaskPlace) (x : TaskPlace) (i : ℕ) → x ≡ get_or xs i x → i < length xs
    → js ≡ is ++ stub_of (rung_for m (task_of x)) → is ++ all_stubs (rungs m (map task_of (drop i xs))) ≡ all
    → js ++ all_stubs (rungs m (map task_of (drop (i + 1) xs))) ≡ all
next_written m is js all xs x i it l written rest =
    let f : List TaskPlace → List Form = λ ys. is ++ all_stubs (rungs m (map task_of ys)) in
    let more : f (drop i xs) ≡ f (x ∷ drop (i + 1) xs) = at_drop_more f xs i x l ∙ ap (λ y. f (y ∷ drop (i + 1) xs)) (sym it) in
    let s = all_stubs (rungs m (map task_of (drop (i + 1) xs))) in
    ap (λ l. l ++ s) written ∙ append_assoc is (stub_of (rung_for m (task_of x))) s ∙ sym more ∙ rest

-- what stands before the ladder, the ladder, and the stubs
pub boot_written : (m : MemoryMap) (commit at q : ℕ) (tasks us : List LoggedTask) (v w : List Form) → us ≡ tasks → q ≡ stubs_place m us at
    → v ≡ fixed_forms m commit ++ ladder q (rungs m us) → w ≡ v ++ all_stubs (rungs m us) → w ≡ boot_forms m commit tasks at
boot_written m commit at q tasks us v w e there front rest =
    let a = interrupts_enabled m in
    let g = gated_forms m commit in
    let stubs = all_stubs (rungs m us) in
    rest ∙ ap (λ y. y ++ stubs) (front ∙ ap (λ n. fixed_forms m commit ++ ladder n (rungs m us)) there)
    ∙ append_assoc (a ++ g) (ladder (stubs_place m us at) (rungs m us)) stubs ∙ append_assoc a g (ladder_forms m us at)
    ∙ ap (λ y. boot_forms m commit y at) e

-- ---- stubs

-- the length of a stub, by the words that it logs
pub stub_is : (t : TaskPlace) → 0 < length t.privates → stub_bytes (task_of t) ≡ 16 * private_words t.privates + 4
stub_is t some =
    let n = private_words t.privates in
    ap (λ k. 16 * k + if_any k 4) (homes_count t.privates) ∙ ap (λ k. 16 * n + k) (if_some n 4 (some_to_copy t.privates some))

rung_of : (m : MemoryMap) (stub code : ℕ) (xs : List ℕ) → 0 < length xs → rung_with stub code (logs_in m 0 xs) ≡ stub
rung_of m stub code [] some = absurd (omega (arith, some))
rung_of m stub code (x ∷ xs) some = refl

-- a rung leads to the stub where there is one
pub some_rung : (m : MemoryMap) (stub : ℕ) (t : TaskPlace) → 0 < length t.privates → rung_to m stub (task_of t) ≡ stub
some_rung m stub t some =
    let count = homes_count t.privates in
    let words = some_to_copy t.privates some in
    rung_of m stub t.code.address (homes_in t.privates) (omega (arith, count, words))
