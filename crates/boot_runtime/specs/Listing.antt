-- The boot's code: its listing.
use Rattle.std.specs.Prelude.{ℕ, ◌+◌, ◌*◌, Bool, if◌then◌else◌, List, [], ◌∷◌, ◌++◌, length, get_or, map}
use Rattle.runtime_code.specs.msp_isa.declared.instructions.TwoOp.TheVariants.{Add}
use Rattle.runtime_code.specs.msp_isa.declared.instructions.Condition.TheVariants.{NotEqual}
use Rattle.runtime_code.specs.msp_isa.declared.operands.Konst.TheVariants.{Zero, One, Two, MinusOne}
use Rattle.runtime_code.specs.code_forms.Forms.{Form, Move, Calculate, Compare, Update, SetStack, EnableInterrupts, Branch, R4, R5}
use Rattle.memory_map.specs.address_space.Limits.{stack_top}
use Rattle.runtime_code.specs.code_forms.Forms.{Number, Constant, Fram, ToRegister, ToFram, ToPointed}
use Rattle.memory_map.specs.declared.words.RuntimeWord.TheVariants.{Gate, ListLength, EmitCount, Version}
use Rattle.memory_map.specs.MemoryMap.{MemoryMap, word_place, where_events, with_events}
use Rattle.memory_map.specs.event_places.Places.{count_place}
use Rattle.runtime_code.specs.runtime_effects.Places.{CopyPair}
use Rattle.runtime_code.specs.Counted.{over, counted, if_any}
use Rattle.runtime_code.specs.Ladder.{Rung, stub_with, rung_with, ladder, all_stubs}
pub use Rattle.runtime_code.specs.Ladder.{dispatch}

-- a task as the boot comes to it: the words of its private scalars with their copies, and where its code stands
pub record TaskEntry : Type 0 where
  pub privates : List CopyPair
  pub code : ℕ

-- the entry of a task by its number; behind the last one nothing
abbrev pub entry_at : List TaskEntry → ℕ → TaskEntry
entry_at tasks k = get_or tasks k (record { privates = []; code = 0 })

-- the words of the private scalars of a task by its number
abbrev pub privates_in : List TaskEntry → ℕ → List CopyPair
privates_in tasks k = (entry_at tasks k).privates

-- SP := where the stack begins, and the CPU accepts interrupts
abbrev pub interrupts_set : List Form
interrupts_set = SetStack stack_top ∷ EnableInterrupts ∷ []

-- the same where there are events
abbrev pub interrupts_enabled : MemoryMap → List Form
interrupts_enabled m = where_events m.runtime.events interrupts_set

-- where GATE is 1 a branch to the commit
abbrev pub head : MemoryMap → ℕ → List Form
head m commit = Compare (Constant One) (word_place m Gate) ∷ over NotEqual (Branch commit ∷ []) ∷ Branch commit ∷ []

-- R4 := the number of version words
abbrev pub clearing_begins : MemoryMap → List Form
clearing_begins m = Move (Number m.versions.words) (ToRegister R4) ∷ []

-- a version word becomes 0
abbrev pub clear_turn : List Form
clear_turn = Move (Constant Zero) (ToPointed R5) ∷ Calculate Add (Constant Two) R5 ∷ []

-- for each of them
abbrev pub clear_loop : MemoryMap → List Form
clear_loop m = counted m.versions.address clear_turn

-- VER := 0
abbrev pub version_cleared : MemoryMap → List Form
version_cleared m = Move (Constant Zero) (ToFram (word_place m Version)) ∷ []

-- the clearing: each version word becomes 0, and then VER
abbrev pub clearing : MemoryMap → List Form
clearing m = clearing_begins m ++ (clear_loop m ++ version_cleared m)

-- where VER isn't at its end, over the clearing
abbrev pub end_tested : MemoryMap → List Form
end_tested m = Compare (Constant MinusOne) (word_place m Version) ∷ over NotEqual (clearing m) ∷ []

-- VER := VER + 1, CLN := 0, EN := 0
abbrev pub counts_set : MemoryMap → List Form
counts_set m =
    Update Add (Constant One) (word_place m Version) ∷ Move (Constant Zero) (ToFram (word_place m ListLength))
    ∷ Move (Constant Zero) (ToFram (word_place m EmitCount)) ∷ []

-- EC := 0
abbrev pub event_count_set : List Form
event_count_set = Move (Constant Zero) (ToFram count_place) ∷ []

-- the same where there are events
abbrev pub events_counted : MemoryMap → List Form
events_counted m = where_events m.runtime.events event_count_set

-- an attempt's opening
abbrev pub opening : MemoryMap → List Form
opening m = end_tested m ++ (clearing m ++ (counts_set m ++ events_counted m))

-- the private scalars are copied
abbrev pub copies_in : List CopyPair → List Form
copies_in [] = []
copies_in (x ∷ xs) = Move (Fram x.home) (ToFram x.copy) ∷ copies_in xs

-- private scalars are copied, then a branch to a task's code; where there is none, nothing
abbrev pub stub_to : ℕ → List CopyPair → List Form
stub_to code xs = stub_with code (copies_in xs)

-- a task's stub
abbrev pub stub : TaskEntry → List Form
stub t = stub_to t.code t.privates

-- the length of a stub in bytes
abbrev pub stub_bytes : TaskEntry → ℕ
stub_bytes t = 6 * length t.privates + if_any (length t.privates) 4

-- where a task's rung leads: to its stub, at an address, or right to its code where it has none
abbrev pub rung_to : ℕ → ℕ → List CopyPair → ℕ
rung_to stub code xs = rung_with stub code (copies_in xs)

-- a task as the ladder has it
abbrev pub rung_for : TaskEntry → Rung
rung_for t = record { body = copies_in t.privates; bytes = stub_bytes t; code = t.code }

-- the ladder: a branch for each task, whose stubs stand one behind another from an address on
abbrev pub ladder_to : ℕ → List TaskEntry → List Form
ladder_to p ts = ladder p (map rung_for ts)

-- the stubs
abbrev pub stubs : List TaskEntry → List Form
stubs ts = all_stubs (map rung_for ts)

-- the bytes before the ladder
abbrev pub ladder_offset : MemoryMap → ℕ
ladder_offset m = 68 + with_events m.runtime.events 10

-- the ladder's place, by the place of the boot
abbrev pub ladder_address : MemoryMap → ℕ → ℕ
ladder_address m at = at + ladder_offset m

-- the place of the first stub
abbrev pub stubs_address : MemoryMap → List TaskEntry → ℕ → ℕ
stubs_address m tasks at = ladder_address m at + 4 * length tasks

-- what stands from the look at GATE on, before the ladder: an attempt's opening, and the way to the ladder
abbrev pub gated_forms : MemoryMap → ℕ → List Form
gated_forms m commit = head m commit ++ (opening m ++ dispatch m)

-- all that stands before the ladder
abbrev pub fixed_forms : MemoryMap → ℕ → List Form
fixed_forms m commit = interrupts_enabled m ++ gated_forms m commit

-- boot, attempt start, ladder and stubs, to stand at an address
abbrev pub boot_forms : MemoryMap → ℕ → List TaskEntry → ℕ → List Form
boot_forms m commit tasks at = fixed_forms m commit ++ (ladder_to (stubs_address m tasks at) tasks ++ stubs tasks)

-- the length of stubs in bytes
abbrev pub stubs_bytes : List TaskEntry → ℕ
stubs_bytes [] = 0
stubs_bytes (t ∷ ts) = stub_bytes t + stubs_bytes ts

-- the length of it all: 34 words, 5 more where there are events, and for each task 2, and where it has private scalars 2 more and 3 for each of
-- their words
abbrev pub boot_bytes : MemoryMap → List TaskEntry → ℕ
boot_bytes m tasks = ladder_offset m + 4 * length tasks + stubs_bytes tasks

-- the steps of an attempt's start, by whether there are events and whether the clearing comes first, by the version words and by the words of private
-- scalars
abbrev pub start_steps : Bool → Bool → ℕ → ℕ → ℕ
start_steps events clears versions privates =
    11 + with_events events 1 + (if clears then 4 + (if_any versions 1 + 4 * versions) else 0) + (if_any privates 1 + privates)

-- its cycles: the version words cost an attempt nothing but once in 65535, and a task without private scalars has no stub
abbrev pub start_cycles : Bool → Bool → ℕ → ℕ → ℕ
start_cycles events clears versions privates =
    30 + with_events events 4 + (if clears then 9 + (if_any versions 2 + 8 * versions) else 0) + (if_any privates 3 + 6 * privates)
