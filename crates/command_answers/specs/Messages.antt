-- The one line to standard error that goes with a status.
use Rattle.std.specs.Prelude.{ℕ, ◌⊎◌, List, [], ◌∷◌, codes, Option}
use Rattle.std.specs.Io.KnownBytes.{Appends}
use Rattle.alp_io.specs.Count.{Rose}
use Rattle.alp_io.specs.Report.{texts}
use Rattle.alp_io.specs.Sink.{AppendsProperPrefix}
use Rattle.command_answers.specs.FileNames.{told_name}

-- the line was written once; or the count of faults rose, and a proper prefix of the line was written
abbrev pub Tells : Option (List ℕ) → Option (List ℕ) → ℕ → ℕ → List ℕ → Type 0
Tells old new before now line = Appends old new line ⊎ (Rose before now × AppendsProperPrefix old new line)

-- the line where a file could not be read
unfoldable pub unreadable_line : List ℕ → List ℕ
unreadable_line name = texts (codes "cannot read " ∷ told_name name ∷ codes "\n" ∷ [])

-- the line where a file has too many bytes
unfoldable pub too_long_line : List ℕ → List ℕ
too_long_line name = texts (codes "too long " ∷ told_name name ∷ codes "\n" ∷ [])

-- the line where a file could not be put
unfoldable pub unput_line : List ℕ → List ℕ
unput_line name = texts (codes "cannot write " ∷ told_name name ∷ codes "\n" ∷ [])

-- the line where a write to the output failed
unfoldable pub unwritable_line : List ℕ
unwritable_line = texts (codes "cannot write output\n" ∷ [])

-- the line where memory was refused
unfoldable pub memory_line : List ℕ
memory_line = texts (codes "out of memory\n" ∷ [])

-- the line where a run met a machine fault
unfoldable pub machine_fault_line : List ℕ
machine_fault_line = texts (codes "machine fault\n" ∷ [])

-- the line where a report isn't one that its source could have told
unfoldable pub differs_line : List ℕ
differs_line = texts (codes "report differs\n" ∷ [])

-- the line where the words are no command line: all commands
unfoldable pub usage_line : List ℕ
usage_line =
    texts
    (codes "usage: alpaca mean SRC TRACE | try SRC TRACE IMAGE | build SRC IMAGE | run IMAGE TRACE | asm ASM IMAGE | dis IMAGE | gen N IMAGE"
    ∷ codes " | save IMAGE TRACE STATE | resume IMAGE STATE TRACE | migrate SRC IMAGE STATE NEWSRC NEWIMAGE NEWSTATE"
    ∷ codes " | undo SRC TRACE IMAGE | audit SRC REPORT TRACE\n" ∷ [])
