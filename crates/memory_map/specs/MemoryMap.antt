-- Where all that a compiled source keeps in the FRAM stands.
use Rattle.std.specs.Prelude.{ℕ, ◌+◌, ◌*◌, Bool, false, if◌then◌else◌, List, [], ◌∷◌}
use Rattle.memory_map.specs.declared.place.Region.{Region}
use Rattle.memory_map.specs.declared.place.VariablePlace.{VariablePlace}
use Rattle.memory_map.specs.declared.place.PrivateScalar.{PrivateScalar}
use Rattle.memory_map.specs.declared.place.RoutinePlace.{RoutinePlace}
use Rattle.memory_map.specs.declared.words.RuntimeWord.{RuntimeWord}
use Rattle.memory_map.specs.declared.runtime.Runtime.{Runtime}
use Rattle.memory_map.specs.declared.runtime.Logging.TheVariants.{Redo, Undo}
use Rattle.memory_map.specs.declared.runtime.Role.TheVariants.{Alone}
use Rattle.memory_map.specs.Words.{index_of, row_words}

-- a task's private scalars in order of declaration, and the room for its own code; the number of its first local, and the functions that it
-- reaches, in order of declaration
pub record TaskPlace : Type 0 where
  pub privates : List PrivateScalar
  pub code : Region
  pub first : ℕ
  pub routines : List RoutinePlace

-- the runtime's words, the buffers, the words of the shared variables and of their copies, then the code of boot, commit and tasks
pub record MemoryMap : Type 0 where
  pub runtime : Runtime  -- the runtime that the source is compiled for
  pub row : ℕ  -- the runtime's words stand side by side from this address on
  pub list : Region  -- the commit list
  pub entries : ℕ  -- the entries for which it has room
  pub emits : Region  -- the words that an attempt emits
  pub versions : Region  -- the version words of all written arrays
  pub homes : Region  -- the words of all shared variables
  pub copies : Region  -- the copies of all scalars and written arrays
  pub variables : List VariablePlace  -- in order of declaration
  pub boot : Region
  pub commit : Region
  pub code : Region  -- of all tasks
  pub tasks : List TaskPlace

-- attempts that work in copies, on a board that is alone, without events
abbrev pub lone_redo : Runtime
lone_redo = record { logging = Redo; role = Alone; events = false }

-- the same places, for attempts that work in the shared words and list first what stood there
abbrev pub logged_map : MemoryMap → MemoryMap
logged_map m = record m { runtime = record (m.runtime) { logging = Undo } }

-- what a list has more where a runtime takes events
abbrev pub where_events : {A : Type 0} → Bool → List A → List A
where_events events more = if events then more else []

-- and a number
abbrev pub with_events : Bool → ℕ → ℕ
with_events events more = if events then more else 0

-- the address of a word of the runtime
abbrev pub word_place : MemoryMap → RuntimeWord → ℕ
word_place m word = m.row + 2 * index_of word

-- the words of the runtime as a region
abbrev pub row_region : MemoryMap → Region
row_region m = record { address = m.row; words = row_words }

-- all of it, region by region
abbrev pub parts : MemoryMap → List Region
parts m = row_region m ∷ m.list ∷ m.emits ∷ m.versions ∷ m.homes ∷ m.copies ∷ m.boot ∷ m.commit ∷ m.code ∷ []
