-- The length of the boot's code, and what a start costs at most.
use Rattle.std.proofs.Common.{◌≡◌, ℕ, ◌+◌, ◌*◌, ◌≤◌, List, [], ◌∷◌, ◌++◌, length, map, refl, ◌∙◌, arith, true, false}
use Rattle.std.proofs.lemmas.List.{length-map}
use Rattle.runtime_code.specs.code_forms.Forms.{Branch}
use Rattle.runtime_code.specs.code_forms.Code.{forms_bytes}
use Rattle.runtime_code.specs.code_forms.Placed.{instructions, AreInstructions}
use Rattle.runtime_code.proofs.code_forms.Interface.{forms_bytes-append}
use Rattle.runtime_code.specs.runtime_effects.Places.{CopyPair}
use Rattle.runtime_code.proofs.Interface.{if_any_most, code_bytes, are_instructions-append, ladder_bytes}
use Rattle.runtime_code.proofs.Interface.{with_events_most, with_events_sum, where_bytes, where_instructions}
use Rattle.boot_runtime.specs.Listing.{TaskEntry, head, opening, dispatch, copies_in, stub_to, stub, stub_bytes, ladder_to, stubs}
use Rattle.boot_runtime.specs.Listing.{rung_for, stubs_bytes, fixed_forms, boot_forms, ladder_offset, stubs_address}
use Rattle.boot_runtime.specs.Listing.{interrupts_set, interrupts_enabled, gated_forms, end_tested, clearing, counts_set, event_count_set, events_counted}
use Rattle.boot_runtime.specs.Laws.{StartsAreShort, ClearingIsDearest, BootIsShort, BootIsCode, BootFits, entry_room}
use Rattle.boot_runtime.proofs.Entering.{stub_size}
use Rattle.memory_map.specs.MemoryMap.{MemoryMap}

stubs_size : (ts : List TaskEntry) → forms_bytes (stubs ts) ≡ stubs_bytes ts
stubs_size [] = refl
stubs_size (t ∷ ts) = let e = stubs_size ts in let d = stub_size t in forms_bytes-append (stub t) (stubs ts) ∙ omega (arith, e, d)

pub boot_is_short : BootIsShort
boot_is_short m commit tasks at =
    let q = stubs_address m tasks at in
    let l = ladder_to q tasks in
    let fixed = forms_bytes-append (fixed_forms m commit) (l ++ stubs tasks) in
    let one = forms_bytes-append (opening m) (dispatch m) in
    let two = forms_bytes-append (end_tested m ++ (clearing m ++ counts_set m)) (events_counted m) in
    let more = where_bytes m.runtime.events event_count_set in
    let three = forms_bytes-append (interrupts_enabled m) (gated_forms m commit) in
    let front = where_bytes m.runtime.events interrupts_set in
    let sum = with_events_sum m.runtime.events 6 4 in
    let a : forms_bytes (boot_forms m commit tasks at) ≡ ladder_offset m + forms_bytes (l ++ stubs tasks) =
    omega (arith, fixed, one, two, three, more, front, sum) in
    let b = forms_bytes-append l (stubs tasks) in
    let c = ladder_bytes q (map rung_for tasks) in
    let count = length-map tasks rung_for in
    let d = stubs_size tasks in
    code_bytes (boot_forms m commit tasks at) ∙ a ∙ omega (arith, b, c, count, d)

copies_are : (xs : List CopyPair) → AreInstructions (instructions (copies_in xs))
copies_are [] = tt
copies_are (x ∷ xs) = (tt, copies_are xs)

stub_to_are : (code : ℕ) (xs : List CopyPair) → AreInstructions (instructions (stub_to code xs))
stub_to_are code [] = tt
stub_to_are code (x ∷ xs) = are_instructions-append (copies_in (x ∷ xs)) (Branch code ∷ []) (copies_are (x ∷ xs)) (tt, tt)

stubs_are : (ts : List TaskEntry) → AreInstructions (instructions (stubs ts))
stubs_are [] = tt
stubs_are (t ∷ ts) = are_instructions-append (stub t) (stubs ts) (stub_to_are t.code t.privates) (stubs_are ts)

ladder_are : (q : ℕ) (ts : List TaskEntry) → AreInstructions (instructions (ladder_to q ts))
ladder_are q [] = tt
ladder_are q (t ∷ ts) = (tt, ladder_are (q + stub_bytes t) ts)

head_are : (m : MemoryMap) (commit : ℕ) → AreInstructions (instructions (head m commit))
head_are m commit = search arith

-- an attempt's opening but for EC
numbered_are : (m : MemoryMap) → AreInstructions (instructions (end_tested m ++ (clearing m ++ counts_set m)))
numbered_are m = search arith

opening_are : (m : MemoryMap) → AreInstructions (instructions (opening m))
opening_are m =
    are_instructions-append (end_tested m ++ (clearing m ++ counts_set m)) (events_counted m) (numbered_are m)
    (where_instructions m.runtime.events event_count_set (tt, tt))

dispatch_are : (m : MemoryMap) → AreInstructions (instructions (dispatch m))
dispatch_are m = search arith

pub boot_is_code : BootIsCode
boot_is_code m commit tasks at =
    let q = stubs_address m tasks at in
    let l = ladder_to q tasks in
    let d = dispatch m in
    are_instructions-append (fixed_forms m commit) (l ++ stubs tasks)
    (are_instructions-append (interrupts_enabled m) (gated_forms m commit) (where_instructions m.runtime.events interrupts_set (tt, (tt, tt)))
    (are_instructions-append (head m commit) (opening m ++ d) (head_are m commit)
    (are_instructions-append (opening m) d (opening_are m) (dispatch_are m))))
    (are_instructions-append l (stubs tasks) (ladder_are q tasks) (stubs_are tasks))

entries_fit : (ts : List TaskEntry) → 4 * length ts + stubs_bytes ts ≤ 2 * entry_room ts
entries_fit [] = omega arith
entries_fit (t ∷ ts) = let e = entries_fit ts in let once = if_any_most (length t.privates) 4 in omega (arith, e, once)

pub boot_fits : BootFits
boot_fits m tasks = let e = entries_fit tasks in let few = with_events_most m.runtime.events 10 in omega (arith, e, few)

pub starts_are_short : StartsAreShort
starts_are_short events versions privates = let once = if_any_most privates 3 in omega (arith, once)

pub clearing_is_dearest : ClearingIsDearest
clearing_is_dearest events true versions privates = omega arith
clearing_is_dearest events false versions privates = omega arith
