-- What the boot's code does.
use Rattle.std.specs.Prelude.{◌≡◌, ◌≢◌, ℕ, ◌+◌, ◌*◌, ◌%◌, ◌<◌, Bool, true, false, List, [], length, All, ◌≤◌, ◌∷◌}
use Rattle.runtime_code.specs.fram_board.Effects.{Store}
use Rattle.runtime_code.specs.machine_effects.World.{put, fram_after, EachStore}
use Rattle.runtime_code.specs.machine_effects.Machine.{Code, IsPlace}
use Rattle.runtime_code.specs.code_forms.Forms.{Core}
use Rattle.runtime_code.specs.code_forms.Code.{Stands, IsTidy}
use Rattle.runtime_code.specs.code_forms.Placed.{instructions, words_of, AreInstructions}
use Rattle.memory_map.specs.declared.words.RuntimeWord.TheVariants.{CurrentTask, Gate, Version}
use Rattle.memory_map.specs.MemoryMap.{MemoryMap, word_place, with_events}
use Rattle.runtime_code.specs.runtime_effects.Places.{CopyPair}
use Rattle.runtime_code.specs.runtime_effects.Stages.{is_at_end, start_effects}
use Rattle.runtime_code.specs.runtime_effects.Needs.{AreInFram, KeepsTask, ArePairWords}
use Rattle.memory_map.specs.address_space.Limits.{event_vector}
use Rattle.memory_map.specs.event_places.Places.{handler_place}
use Rattle.runtime_code.specs.Addresses.{start_address, stack_top}
use Rattle.runtime_code.specs.Comes.{Comes, IsAt, Enters}
use Rattle.memory_map.specs.Places.{IsLaidOut}
use Rattle.privatise.specs.Sizes.{own_boot_words}
use Rattle.boot_runtime.specs.Entries.{task_entries}
use Rattle.boot_runtime.specs.Listing.{TaskEntry, entry_at, privates_in, boot_forms, boot_bytes, start_steps, start_cycles}

-- a task that the boot can come to
pub record IsEntered (t : TaskEntry) : Type 0 where
  pub privates : All ArePairWords t.privates
  pub even : t.code % 2 ≡ 0

-- the boot's code stands at an address, above it room, in code that takes events where the map's runtime does
pub record IsBoot (code : Code) (m : MemoryMap) (commit : ℕ) (tasks : List TaskEntry) (at : ℕ) : Type 0 where
  pub tidy : IsTidy code
  pub events : code.events ≡ m.runtime.events
  pub places : AreInFram m
  pub task : KeepsTask m
  pub even_commit : commit % 2 ≡ 0
  pub entered : All IsEntered tasks
  pub even : at % 2 ≡ 0
  pub room : at + boot_bytes m tasks < 0x10000
  pub stands : Stands code at (boot_forms m commit tasks at)

-- FRAM names the handler, where there are events
abbrev pub NamesHandler : MemoryMap → (ℕ → ℕ) → Type 0
NamesHandler m f = m.runtime.events ≡ true → f event_vector ≡ handler_place

-- from the boot's address on, whatever the registers: with GATE 1 it comes to the commit, and does nothing else
abbrev pub PendingCommitIsFound : Type 0
PendingCommitIsFound = (code : Code) (m : MemoryMap) (commit : ℕ) (tasks : List TaskEntry) (at : ℕ) (u : Core) → IsBoot code m commit tasks at
    → u.pc ≡ at → NamesHandler m u.fram → u.fram (word_place m Gate) ≡ 1
    → let events = m.runtime.events in Comes code [] (with_events events 2 + 3) (with_events events 3 + 9) u (IsAt commit u.fram u.inputs)

-- else to the attempt's start
abbrev pub AttemptIsFound : Type 0
AttemptIsFound = (code : Code) (m : MemoryMap) (commit : ℕ) (tasks : List TaskEntry) (at : ℕ) (u : Core) → IsBoot code m commit tasks at
    → u.pc ≡ at → NamesHandler m u.fram → u.fram (word_place m Gate) < 0x10000 → u.fram (word_place m Gate) ≢ 1
    → let events = m.runtime.events in
    Comes code [] (with_events events 2 + 2) (with_events events 3 + 6) u (IsAt (start_address events at) u.fram u.inputs)

-- from the attempt's start on, whatever the registers: where CUR names a task it makes exactly the start, and comes to the task's
-- code with nothing on the stack, in a number of steps and of cycles that depends on its private scalars alone, and on the version
-- words where VER is at its end
abbrev pub StartIsMade : Type 0
StartIsMade = (code : Code) (m : MemoryMap) (commit : ℕ) (tasks : List TaskEntry) (at : ℕ) (u : Core) → IsBoot code m commit tasks at
    → u.pc ≡ start_address m.runtime.events at → u.fram (word_place m CurrentTask) < length tasks → u.fram (word_place m Version) < 0x10000
    → let t = entry_at tasks (u.fram (word_place m CurrentTask)) in
    let clears = is_at_end m u.fram in
    let es = start_effects m (privates_in tasks) u.fram in
    let events = m.runtime.events in
    Comes code es (start_steps events clears m.versions.words (length t.privates)) (start_cycles events clears m.versions.words (length t.privates)) u
    (Enters t.code stack_top (fram_after es u.fram) u.inputs)

-- from the boot's address on, whatever the registers: where GATE isn't 1 and VER isn't at its end, the fifth instruction raises VER, the
-- seventh where there are events, and is the first that stores
abbrev pub VersionIsRaised : Type 0
VersionIsRaised = (code : Code) (m : MemoryMap) (commit : ℕ) (tasks : List TaskEntry) (at : ℕ) (u : Core) → IsBoot code m commit tasks at
    → u.pc ≡ at → NamesHandler m u.fram → u.fram (word_place m Gate) < 0x10000 → u.fram (word_place m Gate) ≢ 1 → u.fram (word_place m Version) < 0xFFFF
    → let raised = u.fram (word_place m Version) + 1 in
    let events = m.runtime.events in
    Comes code (Store (word_place m Version) raised ∷ []) (with_events events 2 + 5) (with_events events 3 + 16) u
    (IsAt (start_address events at + 36) (put u.fram (word_place m Version) raised) u.inputs)

-- a start without clearing takes 33 cycles at most, 4 more where there are events, and 6 for each word of a private scalar, whatever the arrays
abbrev pub StartsAreShort : Type 0
StartsAreShort = (events : Bool) (versions privates : ℕ) → start_cycles events false versions privates ≤ 33 + with_events events 4 + 6 * privates

-- and never more than one with it
abbrev pub ClearingIsDearest : Type 0
ClearingIsDearest = (events clears : Bool) (versions privates : ℕ)
    → start_cycles events clears versions privates ≤ start_cycles events true versions privates

-- the code's length
abbrev pub BootIsShort : Type 0
BootIsShort = (m : MemoryMap) (commit : ℕ) (tasks : List TaskEntry) (at : ℕ)
    → 2 * length (words_of (instructions (boot_forms m commit tasks at))) ≡ boot_bytes m tasks

-- each of its instructions has its words
abbrev pub BootIsCode : Type 0
BootIsCode = (m : MemoryMap) (commit : ℕ) (tasks : List TaskEntry) (at : ℕ) → AreInstructions (instructions (boot_forms m commit tasks at))

-- the start of an attempt stores at words of FRAM in front of the handler alone
abbrev pub StartStoresInFram : Type 0
StartStoresInFram = (m : MemoryMap) (privates : ℕ → List CopyPair) (f : ℕ → ℕ) → AreInFram m → All ArePairWords (privates (f (word_place m CurrentTask)))
    → EachStore (λ a w. IsPlace a) (start_effects m privates f)

-- the words that the allowance has for the entries of tasks: 200 for each, and 16 for each word of a private scalar
abbrev pub entry_room : List TaskEntry → ℕ
entry_room [] = 0
entry_room (t ∷ ts) = 200 + 16 * length t.privates + entry_room ts

-- the code has room in its own words and those of the entries
abbrev pub BootFits : Type 0
BootFits = (m : MemoryMap) (tasks : List TaskEntry) → boot_bytes m tasks ≤ 2 * (own_boot_words + entry_room tasks)

-- the boot can come to each task of a layout
abbrev pub TasksAreEntered : Type 0
TasksAreEntered = (l : MemoryMap) → IsLaidOut l → All IsEntered (task_entries l)
