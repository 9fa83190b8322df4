-- The length of the code, and what starts cost at most.
use Rattle.std.proofs.Common.{◌≡◌, ℕ, suc, ◌+◌, ◌*◌, ◌≤◌, List, [], ◌∷◌, ◌++◌, length, refl, ◌∙◌, arith}
use Rattle.std.proofs.lemmas.List.{length-map}
use Rattle.runtime_code.specs.code_forms.Forms.{Branch}
use Rattle.runtime_code.specs.code_forms.Code.{forms_bytes}
use Rattle.runtime_code.specs.code_forms.Placed.{instructions, AreInstructions}
use Rattle.runtime_code.proofs.code_forms.Interface.{forms_bytes-append}
use Rattle.runtime_code.specs.Ladder.{stub_with, stub_of, dispatch, ladder, all_stubs}
use Rattle.runtime_code.specs.Sending.{sending}
use Rattle.runtime_code.proofs.Interface.{if_any_most, code_bytes, are_instructions-append, ladder_bytes}
use Rattle.runtime_code.proofs.Interface.{with_events_most, with_events_sum, where_bytes, where_instructions}
use Rattle.boot_runtime.specs.Listing.{head, end_tested, clearing, interrupts_set, interrupts_enabled, event_count_set, events_counted}
use Rattle.commit_runtime.specs.Listing.{tail_set, events_taken}
use Rattle.memory_map.specs.MemoryMap.{MemoryMap}
use Rattle.undo_runtime.specs.Listing.{recovering, numbers_set, opening, logs_in, LoggedTask, rung_for, rungs, stub_bytes, stubs_bytes, stubs_place}
use Rattle.undo_runtime.specs.Listing.{gated_forms, ladder_forms, boot_forms, closing, undo_commit_forms}
use Rattle.undo_runtime.specs.Laws.{UndoStartsAreShort, UndoBootIsShort, UndoBootIsCode, UndoBootFits, entry_room}
use Rattle.undo_runtime.specs.Laws.{UndoCommitIsShort, UndoCommitIsCode, UndoCommitFits}
use Rattle.undo_runtime.proofs.Entering.{stub_size}

-- ---- the boot

stubs_size : (m : MemoryMap) (ts : List LoggedTask) → forms_bytes (all_stubs (rungs m ts)) ≡ stubs_bytes ts
stubs_size m [] = refl
stubs_size m (t ∷ ts) =
    let e = stubs_size m ts in let d = stub_size m t in
    forms_bytes-append (stub_of (rung_for m t)) (all_stubs (rungs m ts)) ∙ omega (arith, e, d)

pub undo_boot_is_short : UndoBootIsShort
undo_boot_is_short m commit tasks at =
    let q = stubs_place m tasks at in
    let l = ladder q (rungs m tasks) in
    let gated = gated_forms m commit in
    let fixed = forms_bytes-append (interrupts_enabled m) (gated ++ ladder_forms m tasks at) in
    let behind = forms_bytes-append gated (ladder_forms m tasks at) in
    let one = forms_bytes-append (opening m) (dispatch m) in
    let two = forms_bytes-append (end_tested m ++ (clearing m ++ numbers_set m)) (events_counted m) in
    let more = where_bytes m.runtime.events event_count_set in
    let front = where_bytes m.runtime.events interrupts_set in
    let sum = with_events_sum m.runtime.events 6 4 in
    let b = forms_bytes-append l (all_stubs (rungs m tasks)) in
    let c = ladder_bytes q (rungs m tasks) in
    let count = length-map tasks (rung_for m) in
    let d = stubs_size m tasks in
    code_bytes (boot_forms m commit tasks at) ∙ omega (arith, fixed, behind, one, two, more, front, sum, b, c, count, d)

logs_are : (m : MemoryMap) (i : ℕ) (xs : List ℕ) → AreInstructions (instructions (logs_in m i xs))
logs_are m i [] = tt
logs_are m i (a ∷ xs) = (tt, (tt, (tt, logs_are m (suc i) xs)))

stub_is : (m : MemoryMap) (code : ℕ) (xs : List ℕ) → AreInstructions (instructions (stub_with code (logs_in m 0 xs)))
stub_is m code [] = tt
stub_is m code (a ∷ xs) = are_instructions-append (logs_in m 0 (a ∷ xs)) (Branch code ∷ []) (logs_are m 0 (a ∷ xs)) (tt, tt)

stubs_are : (m : MemoryMap) (ts : List LoggedTask) → AreInstructions (instructions (all_stubs (rungs m ts)))
stubs_are m [] = tt
stubs_are m (t ∷ ts) =
    are_instructions-append (stub_of (rung_for m t)) (all_stubs (rungs m ts)) (stub_is m t.code t.privates) (stubs_are m ts)

ladder_are : (m : MemoryMap) (q : ℕ) (ts : List LoggedTask) → AreInstructions (instructions (ladder q (rungs m ts)))
ladder_are m q [] = tt
ladder_are m q (t ∷ ts) = (tt, ladder_are m (q + stub_bytes t) ts)

recovering_are : (m : MemoryMap) → AreInstructions (instructions (recovering m))
recovering_are m = search arith

-- an attempt's opening but for EC
numbered_are : (m : MemoryMap) → AreInstructions (instructions (end_tested m ++ (clearing m ++ numbers_set m)))
numbered_are m = search arith

opening_are : (m : MemoryMap) → AreInstructions (instructions (opening m))
opening_are m =
    are_instructions-append (end_tested m ++ (clearing m ++ numbers_set m)) (events_counted m) (numbered_are m)
    (where_instructions m.runtime.events event_count_set (tt, tt))

pub undo_boot_is_code : UndoBootIsCode
undo_boot_is_code m commit tasks at =
    let q = stubs_place m tasks at in
    let d = dispatch m in
    let head_are : AreInstructions (instructions (head m commit)) = search arith in
    let dispatch_are : AreInstructions (instructions d) = search arith in
    are_instructions-append (interrupts_enabled m) (gated_forms m commit ++ ladder_forms m tasks at)
    (where_instructions m.runtime.events interrupts_set (tt, (tt, tt)))
    (are_instructions-append (gated_forms m commit) (ladder_forms m tasks at)
    (are_instructions-append (head m commit) (recovering m ++ (opening m ++ d)) head_are
    (are_instructions-append (recovering m) (opening m ++ d) (recovering_are m)
    (are_instructions-append (opening m) d (opening_are m) dispatch_are)))
    (are_instructions-append (ladder q (rungs m tasks)) (all_stubs (rungs m tasks)) (ladder_are m q tasks) (stubs_are m tasks)))

entries_fit : (ts : List LoggedTask) → 4 * length ts + stubs_bytes ts ≤ 2 * entry_room ts
entries_fit [] = omega arith
entries_fit (t ∷ ts) = let e = entries_fit ts in let once = if_any_most (length t.privates) 4 in omega (arith, e, once)

pub undo_boot_fits : UndoBootFits
undo_boot_fits m tasks = let e = entries_fit tasks in let few = with_events_most m.runtime.events 10 in omega (arith, e, few)

-- ---- the commit

pub undo_commit_is_short : UndoCommitIsShort
undo_commit_is_short m start =
    let last = closing m ++ (Branch start ∷ []) in
    let whole = forms_bytes-append (sending m) (events_taken m ++ last) in
    let rest = forms_bytes-append (events_taken m) last in
    let more = where_bytes m.runtime.events tail_set in
    code_bytes (undo_commit_forms m start) ∙ omega (arith, whole, rest, more)

sending_are : (m : MemoryMap) → AreInstructions (instructions (sending m))
sending_are m = search arith

pub undo_commit_is_code : UndoCommitIsCode
undo_commit_is_code m start =
    let last = closing m ++ (Branch start ∷ []) in
    let last_are : AreInstructions (instructions last) = search arith in
    are_instructions-append (sending m) (events_taken m ++ last) (sending_are m)
    (are_instructions-append (events_taken m) last (where_instructions m.runtime.events tail_set (tt, tt)) last_are)

pub undo_commit_fits : UndoCommitFits
undo_commit_fits events = let few = with_events_most events 6 in omega (arith, few)

-- ---- cycles

pub undo_starts_are_short : UndoStartsAreShort
undo_starts_are_short events versions privates = let once = if_any_most privates 3 in omega (arith, once)
