-- What the commit's code does.
use Rattle.std.specs.Prelude.{◌≡◌, ℕ, ◌+◌, ◌*◌, ◌%◌, ◌<◌, length}
use Rattle.runtime_code.specs.machine_effects.World.{fram_after, EachStore}
use Rattle.runtime_code.specs.machine_effects.Machine.{Code, IsPlace}
use Rattle.runtime_code.specs.code_forms.Forms.{Core}
use Rattle.runtime_code.specs.code_forms.Code.{Stands, IsTidy}
use Rattle.runtime_code.specs.code_forms.Placed.{instructions, words_of, AreInstructions}
use Rattle.memory_map.specs.declared.words.RuntimeWord.TheVariants.{ListLength, EmitCount, SentBase}
use Rattle.memory_map.specs.MemoryMap.{MemoryMap, word_place}
use Rattle.runtime_code.specs.runtime_effects.Places.{listed}
use Rattle.runtime_code.specs.runtime_effects.Stages.{commit_effects}
use Rattle.runtime_code.specs.runtime_effects.Needs.{AreInFram, CanCommit}
use Rattle.runtime_code.specs.Comes.{Comes, IsAt}
use Rattle.commit_runtime.specs.Listing.{commit_forms, commit_bytes, commit_steps, commit_cycles}

-- from where the listing stands, on FRAM on which a commit can be made and SB is a word, the code makes exactly the commit, whatever the registers,
-- and comes to the attempt's start, in a number of steps and of cycles that depends on CLN, the listed words and EN alone
abbrev pub CommitIsMade : Type 0
CommitIsMade = (code : Code) (m : MemoryMap) (at start : ℕ) (u : Core) → IsTidy code → AreInFram m → at + commit_bytes m.runtime.events < 0x10000
    → start % 2 ≡ 0 → Stands code at (commit_forms m start) → u.pc ≡ at → CanCommit m u.fram → u.fram (word_place m SentBase) < 0x10000
    → let entries = u.fram (word_place m ListLength) in
    let words = length (listed m u.fram) in
    let emits = u.fram (word_place m EmitCount) in
    let es = commit_effects m u.fram in
    let events = m.runtime.events in
    Comes code es (commit_steps events entries words emits) (commit_cycles events entries words emits) u (IsAt start (fram_after es u.fram) u.inputs)

-- the code's length
abbrev pub CommitIsShort : Type 0
CommitIsShort = (m : MemoryMap) (start : ℕ) → 2 * length (words_of (instructions (commit_forms m start))) ≡ commit_bytes m.runtime.events

-- each of its instructions has its words
abbrev pub CommitIsCode : Type 0
CommitIsCode = (m : MemoryMap) (start : ℕ) → AreInstructions (instructions (commit_forms m start))

-- it stores at words of FRAM in front of the handler alone
abbrev pub CommitStoresInFram : Type 0
CommitStoresInFram = (m : MemoryMap) (f : ℕ → ℕ) → AreInFram m → CanCommit m f → EachStore (λ a w. IsPlace a) (commit_effects m f)
