-- No part of the code names a word of RAM below where its stack begins.
use Rattle.std.proofs.Common.{le_refl, ℕ, suc, ◌+◌, List, [], ◌∷◌, ◌++◌, Bool, true, false, arith}
use Rattle.boot_runtime.specs.code_forms.Forms.{Form, Branch}
use Rattle.boot_runtime.specs.memory_map.MemoryMap.{MemoryMap, where_events}
use Rattle.boot_runtime.specs.memory_map.declared.runtime.Logging.{Logging}
use Rattle.boot_runtime.specs.memory_map.declared.runtime.Logging.TheVariants.{Redo, Undo}
use Rattle.boot_runtime.specs.runtime_code.Addresses.{stack_top}
use Rattle.boot_runtime.specs.runtime_code.Ladder.{Rung, stub_with, stub_of, ladder, all_stubs}
use Rattle.boot_runtime.specs.runtime_code.Sending.{sending}
use Rattle.boot_runtime.specs.runtime_effects.Places.{CopyPair}
use Rattle.boot_runtime.specs.Entries.{task_entries}
use Rattle.boot_runtime.specs.Listing.{TaskEntry, stub_bytes, stubs_address, copies_in, stub_to, stub, stubs, ladder_to, fixed_forms, boot_forms}
use Rattle.boot_runtime.specs.Listing.{interrupts_set, interrupts_enabled, head, end_tested, clearing, counts_set, event_count_set, events_counted, dispatch}
use Rattle.commit_runtime.specs.Listing.{tail_set, events_taken, closing, commit_forms}
use Rattle.commit_runtime.proofs.Interface.{commit_front}
use Rattle.word_code.specs.TaskForms.{EachForm, NamesRamFrom}
use Rattle.word_code.proofs.Interface.{code_names_ram_from, each-append}
use Rattle.undo_runtime.specs.Entries.{logged_tasks}
use Rattle.undo_runtime.specs.Listing.{recovering, numbers_set, logs_in, LoggedTask, rung_for, rungs, stubs_place, gated_forms, ladder_forms}
use Rattle.undo_runtime.specs.Listing.{boot_forms as undo_boot_forms, closing as undo_closing, undo_commit_forms}
use Rattle.linked_code.specs.Linked.{boot_code, start_by, commit_code}
use Rattle.linked_code.specs.Laws.{LinkedKeepsAbove}

abbrev Keep : ℕ → List Form → Type 0
Keep low = EachForm (NamesRamFrom low)

-- the boot from the look at GATE on, up to where the events are counted
abbrev opened : MemoryMap → ℕ → List Form
opened m commit = head m commit ++ (end_tested m ++ (clearing m ++ counts_set m))

module _ (low : ℕ) where
  -- two parts of code
  both_keep : (a b : List Form) → Keep low a → Keep low b → Keep low (a ++ b)
  both_keep a b h i = each-append (NamesRamFrom low) a b h i

  copies_keep : (xs : List CopyPair) (to : ℕ) → Keep low (copies_in xs ++ (Branch to ∷ []))
  copies_keep [] to = (tt, tt)
  copies_keep (x ∷ xs) to = ((tt, tt), copies_keep xs to)

  stub_keeps : (to : ℕ) (xs : List CopyPair) → Keep low (stub_to to xs)
  stub_keeps to [] = tt
  stub_keeps to (x ∷ xs) = copies_keep (x ∷ xs) to

  stubs_keep : (ts : List TaskEntry) → Keep low (stubs ts)
  stubs_keep [] = tt
  stubs_keep (t ∷ ts) = both_keep (stub t) (stubs ts) (stub_keeps t.code t.privates) (stubs_keep ts)

  ladder_keeps : (p : ℕ) (ts : List TaskEntry) → Keep low (ladder_to p ts)
  ladder_keeps p [] = tt
  ladder_keeps p (t ∷ ts) = (tt, ladder_keeps (p + stub_bytes t) ts)

  -- code that stands there where there are events
  where_keeps : (events : Bool) (ms : List Form) → Keep low ms → Keep low (where_events events ms)
  where_keeps true ms h = h
  where_keeps false ms h = tt

  opened_keeps : (m : MemoryMap) (commit : ℕ) → Keep low (opened m commit)
  opened_keeps m commit = search arith

  -- the commit up to the store to TAIL, and behind it
  front_keeps : (m : MemoryMap) → Keep low (commit_front m)
  front_keeps m = search arith

  closing_keeps : (m : MemoryMap) (start : ℕ) → Keep low (closing m ++ (Branch start ∷ []))
  closing_keeps m start = search arith

  commit_keeps : (m : MemoryMap) (start : ℕ) → Keep low (commit_forms m start)
  commit_keeps m start =
      let last = closing m ++ (Branch start ∷ []) in
      both_keep (commit_front m) (events_taken m ++ last) (front_keeps m)
      (both_keep (events_taken m) last (where_keeps m.runtime.events tail_set ((tt, tt), tt)) (closing_keeps m start))

-- SP is set to where the stack begins alone
enabling_keeps : (events : Bool) → Keep stack_top (where_events events interrupts_set)
enabling_keeps true = (le_refl stack_top, (tt, tt))
enabling_keeps false = tt

dispatch_keeps : (m : MemoryMap) → Keep stack_top (dispatch m)
dispatch_keeps m = (le_refl stack_top, ((tt, tt), (tt, (tt, (tt, tt)))))

fixed_keep : (m : MemoryMap) (commit : ℕ) → Keep stack_top (fixed_forms m commit)
fixed_keep m commit =
    let low = stack_top in
    both_keep low (interrupts_enabled m) (opened m commit ++ (events_counted m ++ dispatch m)) (enabling_keeps m.runtime.events)
    (both_keep low (opened m commit) (events_counted m ++ dispatch m) (opened_keeps low m commit)
    (both_keep low (events_counted m) (dispatch m) (where_keeps low m.runtime.events event_count_set ((tt, tt), tt)) (dispatch_keeps m)))

boot_keeps : (m : MemoryMap) (commit : ℕ) (ts : List TaskEntry) (at : ℕ) → Keep stack_top (boot_forms m commit ts at)
boot_keeps m commit ts at =
    let low = stack_top in
    let ladder = ladder_to (stubs_address m ts at) ts in
    both_keep low (fixed_forms m commit) (ladder ++ stubs ts) (fixed_keep m commit)
    (both_keep low ladder (stubs ts) (ladder_keeps low (stubs_address m ts at) ts) (stubs_keep low ts))

-- ---- the undo runtime

-- its boot from the look at GATE on, up to where the events are counted, and its commit up to the store to TAIL
abbrev undo_opened : MemoryMap → ℕ → List Form
undo_opened m commit = head m commit ++ (recovering m ++ (end_tested m ++ (clearing m ++ numbers_set m)))

module _ (low : ℕ) where
  undo_opened_keeps : (m : MemoryMap) (commit : ℕ) → Keep low (undo_opened m commit)
  undo_opened_keeps m commit = search arith

  sending_keeps : (m : MemoryMap) → Keep low (sending m)
  sending_keeps m = search arith

  undo_closing_keeps : (m : MemoryMap) (start : ℕ) → Keep low (undo_closing m ++ (Branch start ∷ []))
  undo_closing_keeps m start = search arith

  undo_commit_keeps : (m : MemoryMap) (start : ℕ) → Keep low (undo_commit_forms m start)
  undo_commit_keeps m start =
      let last = undo_closing m ++ (Branch start ∷ []) in
      both_keep low (sending m) (events_taken m ++ last) (sending_keeps m)
      (both_keep low (events_taken m) last (where_keeps low m.runtime.events tail_set ((tt, tt), tt)) (undo_closing_keeps m start))

  logs_keep : (m : MemoryMap) (i : ℕ) (xs : List ℕ) (to : ℕ) → Keep low (logs_in m i xs ++ (Branch to ∷ []))
  logs_keep m i [] to = (tt, tt)
  logs_keep m i (a ∷ xs) to = ((tt, tt), ((tt, tt), (tt, logs_keep m (suc i) xs to)))

  logging_keeps : (m : MemoryMap) (to : ℕ) (xs : List ℕ) → Keep low (stub_with to (logs_in m 0 xs))
  logging_keeps m to [] = tt
  logging_keeps m to (a ∷ xs) = logs_keep m 0 (a ∷ xs) to

  undo_stubs_keep : (m : MemoryMap) (ts : List LoggedTask) → Keep low (all_stubs (rungs m ts))
  undo_stubs_keep m [] = tt
  undo_stubs_keep m (t ∷ ts) =
      both_keep low (stub_of (rung_for m t)) (all_stubs (rungs m ts)) (logging_keeps m t.code t.privates) (undo_stubs_keep m ts)

  undo_ladder_keeps : (p : ℕ) (rs : List Rung) → Keep low (ladder p rs)
  undo_ladder_keeps p [] = tt
  undo_ladder_keeps p (r ∷ rs) = (tt, undo_ladder_keeps (p + r.bytes) rs)

undo_boot_keeps : (m : MemoryMap) (commit : ℕ) (ts : List LoggedTask) (at : ℕ) → Keep stack_top (undo_boot_forms m commit ts at)
undo_boot_keeps m commit ts at =
    let low = stack_top in
    let rungs_there = ladder (stubs_place m ts at) (rungs m ts) in
    let tail = ladder_forms m ts at in
    let counted = events_counted m ++ dispatch m in
    both_keep low (interrupts_enabled m) (gated_forms m commit ++ tail) (enabling_keeps m.runtime.events)
    (both_keep low (gated_forms m commit) tail
    (both_keep low (undo_opened m commit) counted (undo_opened_keeps low m commit)
    (both_keep low (events_counted m) (dispatch m) (where_keeps low m.runtime.events event_count_set ((tt, tt), tt)) (dispatch_keeps m)))
    (both_keep low rungs_there (all_stubs (rungs m ts)) (undo_ladder_keeps low (stubs_place m ts at) (rungs m ts)) (undo_stubs_keep low m ts)))

-- ---- by the map

boot_above : (logging : Logging) (l : MemoryMap) → Keep stack_top (boot_code logging l)
boot_above Redo l = boot_keeps l l.commit.address (task_entries l) l.boot.address
boot_above Undo l = undo_boot_keeps l l.commit.address (logged_tasks l) l.boot.address

commit_above : (logging : Logging) (l : MemoryMap) → Keep stack_top (commit_code logging l)
commit_above Redo l = commit_keeps stack_top l (start_by Redo l)
commit_above Undo l = undo_commit_keeps stack_top l (start_by Undo l)

pub linked_keeps_above : LinkedKeepsAbove
linked_keeps_above l programs = record {
  boot = boot_above l.runtime.logging l;
  commit = commit_above l.runtime.logging l;
  tasks = λ k t p e f. (code_names_ram_from p.own).0;
  routines = λ k j p r q e f. (code_names_ram_from q).1;
}
