-- The code of boot, start and commit under undo: its listing.
use Rattle.std.specs.Prelude.{ℕ, suc, ◌+◌, ◌-◌, ◌*◌, Bool, if◌then◌else◌, List, [], ◌∷◌, ◌++◌, length, get_or, map}
use Rattle.runtime_code.specs.msp_isa.declared.instructions.TwoOp.TheVariants.{Add}
use Rattle.runtime_code.specs.msp_isa.declared.operands.Konst.TheVariants.{Zero, One}
use Rattle.runtime_code.specs.code_forms.Forms.{Form, Move, Calculate, Update, Branch, R4, R6, R7}
use Rattle.runtime_code.specs.code_forms.Forms.{Register, Number, Constant, Fram, Indexed, ToRegister, ToFram, ToPointed}
use Rattle.memory_map.specs.declared.words.RuntimeWord.TheVariants.{CurrentTask, NextTask, Gate, ListLength, EmitCount, Base, Version}
use Rattle.memory_map.specs.MemoryMap.{MemoryMap, word_place, with_events}
use Rattle.runtime_code.specs.Addresses.{gate_address}
use Rattle.runtime_code.specs.Counted.{over, counted, if_any}
use Rattle.runtime_code.specs.Ladder.{Rung, rung_with, dispatch, ladder, all_stubs}
use Rattle.runtime_code.specs.Sending.{sending}
use Rattle.boot_runtime.specs.Listing.{interrupts_enabled, head, end_tested, clearing, events_counted}
use Rattle.commit_runtime.specs.Listing.{copies_begin, events_taken}
use Rattle.undo_effects.specs.Entries.{entry_place}

-- ---- the recovery

-- the word of the last entry of so many as R4 says goes back to its address: R6 := four times R4, from which the entry ends that far behind the list's
-- beginning
abbrev pub back_turn : MemoryMap → List Form
back_turn m =
    Move (Register R4) (ToRegister R6) ∷ Calculate Add (Register R6) R6 ∷ Calculate Add (Register R6) R6
    ∷ Move (Indexed R6 (m.list.address - 4)) (ToRegister R7) ∷ Move (Indexed R6 (m.list.address - 2)) (ToPointed R7) ∷ []

-- for each entry, the last one first
abbrev pub back_loop : MemoryMap → List Form
back_loop m = counted m.list.address (back_turn m)

-- CLN := 0
abbrev pub list_cleared : MemoryMap → List Form
list_cleared m = Move (Constant Zero) (ToFram (word_place m ListLength)) ∷ []

-- the recovery
abbrev pub recovering : MemoryMap → List Form
recovering m = copies_begin m ++ (back_loop m ++ list_cleared m)

abbrev pub recovery_bytes : ℕ
recovery_bytes = 36

-- its steps and its cycles, by the entries
abbrev pub recovery_steps : ℕ → ℕ
recovery_steps entries = 4 + (if_any entries 1 + 7 * entries)

abbrev pub recovery_cycles : ℕ → ℕ
recovery_cycles entries = 10 + (if_any entries 2 + 15 * entries)

-- ---- the start

-- VER := VER + 1, EN := 0
abbrev pub numbers_set : MemoryMap → List Form
numbers_set m = Update Add (Constant One) (word_place m Version) ∷ Move (Constant Zero) (ToFram (word_place m EmitCount)) ∷ []

-- an attempt's opening
abbrev pub opening : MemoryMap → List Form
opening m = end_tested m ++ (clearing m ++ (numbers_set m ++ events_counted m))

-- a word is logged in the entry of a number, and then the entry counts
abbrev pub word_logged_in : MemoryMap → ℕ → ℕ → List Form
word_logged_in m i a =
    Move (Number a) (ToFram (entry_place m i)) ∷ Move (Fram a) (ToFram (entry_place m i + 2))
    ∷ Update Add (Constant One) (word_place m ListLength) ∷ []

-- words are logged, from the entry of a number on
abbrev pub logs_in : MemoryMap → ℕ → List ℕ → List Form
logs_in m i [] = []
logs_in m i (a ∷ rest) = word_logged_in m i a ++ logs_in m (suc i) rest

-- a task as the boot comes to it: the words of its private scalars, and where its code stands
pub record LoggedTask : Type 0 where
  pub privates : List ℕ
  pub code : ℕ

-- the entry of a task by its number; behind the last one nothing
abbrev pub task_at : List LoggedTask → ℕ → LoggedTask
task_at tasks k = get_or tasks k (record { privates = []; code = 0 })

-- the words of the private scalars of a task by its number
abbrev pub privates_in : List LoggedTask → ℕ → List ℕ
privates_in tasks k = (task_at tasks k).privates

-- the length of a stub in bytes
abbrev pub stub_bytes : LoggedTask → ℕ
stub_bytes t = 16 * length t.privates + if_any (length t.privates) 4

-- a task as the ladder has it: its stub logs the words of its private scalars
abbrev pub rung_for : MemoryMap → LoggedTask → Rung
rung_for m t = record { body = logs_in m 0 t.privates; bytes = stub_bytes t; code = t.code }

-- where its rung leads: to its stub, at an address, or right to its code where it has none
abbrev pub rung_to : MemoryMap → ℕ → LoggedTask → ℕ
rung_to m stub t = rung_with stub t.code (logs_in m 0 t.privates)

abbrev pub rungs : MemoryMap → List LoggedTask → List Rung
rungs m tasks = map (rung_for m) tasks

-- the steps of an attempt's start, by whether there are events and whether the clearing comes first, by the version words and by the words of private
-- scalars
abbrev pub start_steps : Bool → Bool → ℕ → ℕ → ℕ
start_steps events clears versions privates =
    10 + with_events events 1 + (if clears then 4 + (if_any versions 1 + 4 * versions) else 0) + (if_any privates 1 + 3 * privates)

-- its cycles: 15 for each word of a private scalar
abbrev pub start_cycles : Bool → Bool → ℕ → ℕ → ℕ
start_cycles events clears versions privates =
    26 + with_events events 4 + (if clears then 9 + (if_any versions 2 + 8 * versions) else 0) + (if_any privates 3 + 15 * privates)

-- ---- the boot

-- where an attempt starts, by whether there are events and by the address of the boot: behind the look at GATE and the recovery
abbrev pub start_place : Bool → ℕ → ℕ
start_place events boot = gate_address events boot + (10 + recovery_bytes)

-- the bytes before the ladder
abbrev pub ladder_offset : MemoryMap → ℕ
ladder_offset m = 100 + with_events m.runtime.events 10

-- the place of the first stub, by the place of the boot
abbrev pub stubs_place : MemoryMap → List LoggedTask → ℕ → ℕ
stubs_place m tasks at = at + ladder_offset m + 4 * length tasks

-- what stands from the look at GATE on, before the ladder
abbrev pub gated_forms : MemoryMap → ℕ → List Form
gated_forms m commit = head m commit ++ (recovering m ++ (opening m ++ dispatch m))

-- all that stands before the ladder
abbrev pub fixed_forms : MemoryMap → ℕ → List Form
fixed_forms m commit = interrupts_enabled m ++ gated_forms m commit

-- ladder and stubs
abbrev pub ladder_forms : MemoryMap → List LoggedTask → ℕ → List Form
ladder_forms m tasks at = ladder (stubs_place m tasks at) (rungs m tasks) ++ all_stubs (rungs m tasks)

-- boot, attempt start, ladder and stubs, to stand at an address
abbrev pub boot_forms : MemoryMap → ℕ → List LoggedTask → ℕ → List Form
boot_forms m commit tasks at = interrupts_enabled m ++ (gated_forms m commit ++ ladder_forms m tasks at)

-- the length of stubs in bytes
abbrev pub stubs_bytes : List LoggedTask → ℕ
stubs_bytes [] = 0
stubs_bytes (t ∷ ts) = stub_bytes t + stubs_bytes ts

-- the length of it all: 50 words, 5 more where there are events, and for each task 2, and where it has private scalars 2 more and 8 for each of
-- their words
abbrev pub boot_bytes : MemoryMap → List LoggedTask → ℕ
boot_bytes m tasks = ladder_offset m + 4 * length tasks + stubs_bytes tasks

-- ---- the commit

-- CUR := NEXT, BASE := the number in R7, CLN := 0, GATE := 0
abbrev pub closing : MemoryMap → List Form
closing m =
    Move (Fram (word_place m NextTask)) (ToFram (word_place m CurrentTask)) ∷ Move (Register R7) (ToFram (word_place m Base))
    ∷ Move (Constant Zero) (ToFram (word_place m ListLength)) ∷ Move (Constant Zero) (ToFram (word_place m Gate)) ∷ []

-- the commit, and the branch to an attempt's start at this address: 26 words, 3 more where there are events
abbrev pub undo_commit_forms : MemoryMap → ℕ → List Form
undo_commit_forms m start = sending m ++ (events_taken m ++ (closing m ++ (Branch start ∷ [])))

abbrev pub commit_bytes : Bool → ℕ
commit_bytes events = 52 + with_events events 6

-- its steps and its cycles, by whether there are events and by the emitted words: 30 cycles and the sends
abbrev pub commit_steps : Bool → ℕ → ℕ
commit_steps events emits = 9 + with_events events 1 + (if_any emits 1 + 5 * emits)

abbrev pub commit_cycles : Bool → ℕ → ℕ
commit_cycles events emits = 30 + with_events events 6 + (if_any emits 2 + 13 * emits)
