-- The words of a compiled image.
use Rattle.std.specs.Prelude.{◌≡◌, ◌<◌, ℕ, ◌-◌, ◌/◌, ◌==◌, ◌&&◌, Bool, if◌then◌else◌, List, length, All, slice_index}
use Rattle.address_space.specs.Limits.{fram_words, event_vector, reset_vector}
use Rattle.event_places.specs.Places.{handler_place}
use Rattle.event_handler.specs.Handler.{handler_words, handler_length}
use Rattle.source_values.specs.Runs.{CheckedProgram, initial_rows}
use Rattle.machine_effects.specs.Machine.{IsFram, fram_of}
use Rattle.code_forms.specs.Placed.{words_of}
use Rattle.memory_map.specs.declared.words.RuntimeWord.TheVariants.{CurrentTask}
use Rattle.memory_map.specs.declared.place.Region.{Region}
use Rattle.memory_map.specs.MemoryMap.{MemoryMap, word_place}
use Rattle.lower.specs.Lowered.{lowered}
use Rattle.compiled_model.specs.View.{is_within, shared_word}
use Rattle.linked_code.specs.Linked.{linked}

-- the words of the code, which stand from the boot's address on
abbrev pub code_words : CheckedProgram → MemoryMap → List ℕ
code_words p l = words_of (linked l (lowered l p))

-- where they stand
abbrev pub code_region : CheckedProgram → MemoryMap → Region
code_region p l = record { address = l.boot.address; words = length (code_words p l) }

-- the word of the data at an address: the entry task's number in CUR, the initial words of the shared variables; all others are 0
abbrev pub data_word : CheckedProgram → MemoryMap → ℕ → ℕ
data_word p l a = if a == (word_place l CurrentTask) then p.entry.task else shared_word l.variables (initial_rows p) a

-- where the handler's words stand in the image of each source that takes events
abbrev pub handler_region : Region
handler_region = record { address = handler_place; words = handler_length }

-- the word at an address of such an image: the vector of interrupts leads to the handler, and the handler's words stand; all others are this one
abbrev pub with_handler : Bool → ℕ → ℕ → ℕ
with_handler events a w = if events && (a == event_vector) then handler_place
    else if events && is_within handler_region a then slice_index handler_words ((a - handler_place) / 2)
    else w

-- the word at an even address of the FRAM: the reset vector, the handler, code, or data
abbrev pub image_word : CheckedProgram → MemoryMap → ℕ → ℕ
image_word p l a = if a == reset_vector then l.boot.address
    else with_handler l.runtime.events a (if is_within (code_region p l) a then slice_index (code_words p l) ((a - l.boot.address) / 2) else data_word p l a)

-- all are words
abbrev pub AreWords : List ℕ → Type 0
AreWords = All (λ w. w < 0x10000)

-- the words of the image, from 4400 on
pub record AreImageWords (p : CheckedProgram) (l : MemoryMap) (words : List ℕ) : Type 0 where
  pub count : length words ≡ fram_words
  pub are_words : AreWords words
  pub each : (a : ℕ) → IsFram a → fram_of words a ≡ image_word p l a
