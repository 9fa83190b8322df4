-- Code that is written part by part.
use Rattle.std.proofs.Common.{◌≡◌, ℕ, zero, suc, ◌+◌, ◌*◌, ◌<◌, refl, length, map, drop, get_or, List, [], ◌∷◌, ◌++◌, sym, ap, ◌∙◌, append_assoc, arith}
use Rattle.std.proofs.lemmas.List.{at_drop_more}
use Rattle.runtime_code.specs.code_forms.Forms.{Form, Branch}
use Rattle.runtime_code.specs.Counted.{if_any}
use Rattle.runtime_code.specs.LayoutPlaces.{pairs_of}
use Rattle.runtime_code.specs.runtime_effects.Places.{CopyPair}
use Rattle.runtime_code.proofs.runtime_effects.Interface.{scalar_pairs_count}
use Rattle.boot_runtime.specs.Entries.{entry_of}
use Rattle.boot_runtime.specs.Listing.{TaskEntry, copies_in, stub_to, stub, stub_bytes, stubs, rung_to, ladder_to, fixed_forms, boot_forms}
use Rattle.boot_runtime.specs.Listing.{stubs_address}
use Rattle.memory_map.specs.declared.place.PrivateScalar.{PrivateScalar}
use Rattle.memory_map.specs.Spots.{private_words}
use Rattle.memory_map.specs.MemoryMap.{TaskPlace, MemoryMap}
use Rattle.memory_map.proofs.Interface.{privates_few}

-- a stub, by its parts
pub stub_written : (is js ks : List Form) (xs : List CopyPair) (code : ℕ) → 0 < length xs → js ≡ is ++ copies_in xs → ks ≡ js ++ (Branch code ∷ [])
    → ks ≡ is ++ stub_to code xs
stub_written is js ks [] code some copied branched = absurd (omega (arith, some))
stub_written is js ks (x ∷ xs) code some copied branched =
    branched ∙ ap (λ l. l ++ (Branch code ∷ [])) copied ∙ append_assoc is (copies_in (x ∷ xs)) (Branch code ∷ [])

-- what stands before the ladder, the ladder, and the stubs
pub boot_written : (m : MemoryMap) (commit at q : ℕ) (tasks us : List TaskEntry) (v w : List Form) → us ≡ tasks → q ≡ stubs_address m us at
    → v ≡ fixed_forms m commit ++ ladder_to q us → w ≡ v ++ stubs us → w ≡ boot_forms m commit tasks at
boot_written m commit at q tasks us v w e there ladder rest =
    let f = fixed_forms m commit in
    rest ∙ ap (λ x. x ++ stubs us) (ladder ∙ ap (λ n. f ++ ladder_to n us) there) ∙ ap (λ x. (f ++ ladder_to (stubs_address m x at) x) ++ stubs x) e
    ∙ append_assoc f (ladder_to (stubs_address m tasks at) tasks) (stubs tasks)

-- the stub of the next task
pub next_written : (is js all : List Form) (xs : List TaskPlace) (x : TaskPlace) (i : ℕ) → x ≡ get_or xs i x → i < length xs
    → js ≡ is ++ stub (entry_of x) → is ++ stubs (map entry_of (drop i xs)) ≡ all → js ++ stubs (map entry_of (drop (i + 1) xs)) ≡ all
next_written is js all xs x i it l written rest =
    let f : List TaskPlace → List Form = λ ys. is ++ stubs (map entry_of ys) in
    let more : f (drop i xs) ≡ f (x ∷ drop (i + 1) xs) = at_drop_more f xs i x l ∙ ap (λ y. f (y ∷ drop (i + 1) xs)) (sym it) in
    let s = stubs (map entry_of (drop (i + 1) xs)) in
    ap (λ l. l ++ s) written ∙ append_assoc is (stub (entry_of x)) s ∙ sym more ∙ rest

-- ---- stubs

pub if_some : (n k : ℕ) → 0 < n → if_any n k ≡ k
if_some (suc n) k some = refl
if_some zero k some = absurd (omega (arith, some))

-- a task with private scalars has words to copy
pub some_to_copy : (privates : List PrivateScalar) → 0 < length privates → 0 < private_words privates
some_to_copy privates some = let few = privates_few privates in omega (arith, some, few)

-- the length of a stub, by the words that it copies
pub stub_is : (t : TaskPlace) → 0 < length t.privates → stub_bytes (entry_of t) ≡ 6 * private_words t.privates + 4
stub_is t some =
    let n = private_words t.privates in
    ap (λ k. 6 * k + if_any k 4) (scalar_pairs_count t.privates) ∙ ap (λ k. 6 * n + k) (if_some n 4 (some_to_copy t.privates some))

rung_of : (stub code : ℕ) (xs : List CopyPair) → 0 < length xs → rung_to stub code xs ≡ stub
rung_of stub code [] some = absurd (omega (arith, some))
rung_of stub code (x ∷ xs) some = refl

-- a rung leads to the stub where there is one
pub some_rung : (stub : ℕ) (t : TaskPlace) → 0 < length t.privates → rung_to stub t.code.address (pairs_of t) ≡ stub
some_rung stub t some =
    let count = scalar_pairs_count t.privates in
    let words = some_to_copy t.privates some in
    rung_of stub t.code.address (pairs_of t) (omega (arith, count, words))
