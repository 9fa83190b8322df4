-- What the code of the undo runtime does.
use Rattle.std.specs.Prelude.{◌≡◌, ◌≢◌, ℕ, ◌+◌, ◌*◌, ◌%◌, ◌<◌, ◌≤◌, Bool, false, List, [], ◌∷◌, length, All}
use Rattle.runtime_code.specs.machine_effects.World.{fram_after}
use Rattle.runtime_code.specs.machine_effects.Machine.{Code}
use Rattle.runtime_code.specs.code_forms.Forms.{Core}
use Rattle.runtime_code.specs.code_forms.Code.{Stands, IsTidy}
use Rattle.runtime_code.specs.code_forms.Placed.{instructions, words_of, AreInstructions}
use Rattle.memory_map.specs.declared.words.RuntimeWord.TheVariants.{CurrentTask, Gate, ListLength, EmitCount, Version}
use Rattle.memory_map.specs.MemoryMap.{MemoryMap, word_place, with_events}
use Rattle.runtime_code.specs.runtime_effects.Stages.{is_at_end}
use Rattle.runtime_code.specs.runtime_effects.Needs.{AreInFram, KeepsTask}
use Rattle.runtime_code.specs.Addresses.{stack_top}
use Rattle.runtime_code.specs.Comes.{Comes, IsAt, Enters}
use Rattle.privatise.specs.Sizes.{own_boot_words, commit_words}
use Rattle.boot_runtime.specs.Laws.{NamesHandler}
use Rattle.undo_effects.specs.Stages.{recovery, undo_start, undo_commit}
use Rattle.undo_runtime.specs.Listing.{LoggedTask, task_at, privates_in, boot_forms, boot_bytes, start_place, start_steps, start_cycles}
use Rattle.undo_runtime.specs.Listing.{recovery_steps, recovery_cycles, undo_commit_forms, commit_bytes, commit_steps, commit_cycles}
use Rattle.undo_runtime.specs.Needs.{ListStands, IsLoggable, CanRecover, CanClose}

-- a task that the boot can come to: the words of its private scalars can be logged, and the list has room for them
pub record IsReached (m : MemoryMap) (t : LoggedTask) : Type 0 where
  pub privates : All (IsLoggable m) t.privates
  pub few : length t.privates ≤ m.entries
  pub even : t.code % 2 ≡ 0

-- the boot's code stands at an address, above it room, in code that takes events where the map's runtime does
pub record IsUndoBoot (code : Code) (m : MemoryMap) (commit : ℕ) (tasks : List LoggedTask) (at : ℕ) : Type 0 where
  pub tidy : IsTidy code
  pub events : code.events ≡ m.runtime.events
  pub places : AreInFram m
  pub task : KeepsTask m
  pub list : ListStands m
  pub even_commit : commit % 2 ≡ 0
  pub reached : All (IsReached m) tasks
  pub even : at % 2 ≡ 0
  pub room : at + boot_bytes m tasks < 0x10000
  pub stands : Stands code at (boot_forms m commit tasks at)

-- from the boot's address on, whatever the registers: with GATE 1 it comes to the commit, and does nothing else
abbrev pub UndoCommitIsFound : Type 0
UndoCommitIsFound = (code : Code) (m : MemoryMap) (commit : ℕ) (tasks : List LoggedTask) (at : ℕ) (u : Core) → IsUndoBoot code m commit tasks at
    → u.pc ≡ at → NamesHandler m u.fram → u.fram (word_place m Gate) ≡ 1
    → let events = m.runtime.events in Comes code [] (with_events events 2 + 3) (with_events events 3 + 9) u (IsAt commit u.fram u.inputs)

-- else it makes exactly the recovery, and comes to the attempt's start
abbrev pub RecoveryIsMade : Type 0
RecoveryIsMade = (code : Code) (m : MemoryMap) (commit : ℕ) (tasks : List LoggedTask) (at : ℕ) (u : Core) → IsUndoBoot code m commit tasks at
    → u.pc ≡ at → NamesHandler m u.fram → u.fram (word_place m Gate) < 0x10000 → u.fram (word_place m Gate) ≢ 1 → CanRecover m u.fram
    → let events = m.runtime.events in
    let n = u.fram (word_place m ListLength) in
    let es = recovery m u.fram in
    Comes code es (with_events events 2 + 2 + recovery_steps n) (with_events events 3 + 6 + recovery_cycles n) u
    (IsAt (start_place events at) (fram_after es u.fram) u.inputs)

-- from the attempt's start on, whatever the registers: where CUR names a task and CLN is 0 it makes exactly the start, and comes to the task's code with
-- nothing on the stack, in a number of steps and of cycles that depends on the words of its private scalars alone, and on the version words where VER
-- is at its end
abbrev pub UndoStartIsMade : Type 0
UndoStartIsMade = (code : Code) (m : MemoryMap) (commit : ℕ) (tasks : List LoggedTask) (at : ℕ) (u : Core) → IsUndoBoot code m commit tasks at
    → u.pc ≡ start_place m.runtime.events at → u.fram (word_place m CurrentTask) < length tasks → u.fram (word_place m Version) < 0x10000
    → u.fram (word_place m ListLength) ≡ 0
    → let t = task_at tasks (u.fram (word_place m CurrentTask)) in
    let clears = is_at_end m u.fram in
    let es = undo_start m (privates_in tasks) u.fram in
    let events = m.runtime.events in
    Comes code es (start_steps events clears m.versions.words (length t.privates)) (start_cycles events clears m.versions.words (length t.privates)) u
    (Enters t.code stack_top (fram_after es u.fram) u.inputs)

-- from where the listing stands, the code makes exactly the commit, whatever the registers, and comes to the attempt's start
abbrev pub UndoCommitIsMade : Type 0
UndoCommitIsMade = (code : Code) (m : MemoryMap) (at start : ℕ) (u : Core) → IsTidy code → AreInFram m → at + commit_bytes m.runtime.events < 0x10000
    → start % 2 ≡ 0 → Stands code at (undo_commit_forms m start) → u.pc ≡ at → CanClose m u.fram
    → let emits = u.fram (word_place m EmitCount) in
    let es = undo_commit m u.fram in
    let events = m.runtime.events in
    Comes code es (commit_steps events emits) (commit_cycles events emits) u (IsAt start (fram_after es u.fram) u.inputs)

-- a start without clearing takes 29 cycles at most, 4 more where there are events, and 15 for each word of a private scalar, whatever the arrays
abbrev pub UndoStartsAreShort : Type 0
UndoStartsAreShort = (events : Bool) (versions privates : ℕ) → start_cycles events false versions privates ≤ 29 + with_events events 4 + 15 * privates

-- the code's length
abbrev pub UndoBootIsShort : Type 0
UndoBootIsShort = (m : MemoryMap) (commit : ℕ) (tasks : List LoggedTask) (at : ℕ)
    → 2 * length (words_of (instructions (boot_forms m commit tasks at))) ≡ boot_bytes m tasks

abbrev pub UndoCommitIsShort : Type 0
UndoCommitIsShort = (m : MemoryMap) (start : ℕ) → 2 * length (words_of (instructions (undo_commit_forms m start))) ≡ commit_bytes m.runtime.events

-- each of its instructions has its words
abbrev pub UndoBootIsCode : Type 0
UndoBootIsCode = (m : MemoryMap) (commit : ℕ) (tasks : List LoggedTask) (at : ℕ) → AreInstructions (instructions (boot_forms m commit tasks at))

abbrev pub UndoCommitIsCode : Type 0
UndoCommitIsCode = (m : MemoryMap) (start : ℕ) → AreInstructions (instructions (undo_commit_forms m start))

-- the words that the allowance has for the entries of tasks: 200 for each, and 16 for each word of a private scalar
abbrev pub entry_room : List LoggedTask → ℕ
entry_room [] = 0
entry_room (t ∷ ts) = 200 + 16 * length t.privates + entry_room ts

-- the code has room in its own words and those of the entries, and the commit in its own
abbrev pub UndoBootFits : Type 0
UndoBootFits = (m : MemoryMap) (tasks : List LoggedTask) → boot_bytes m tasks ≤ 2 * (own_boot_words + entry_room tasks)

abbrev pub UndoCommitFits : Type 0
UndoCommitFits = (events : Bool) → commit_bytes events ≤ 2 * commit_words
