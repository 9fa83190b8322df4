-- The map of a compiled image.
use Rattle.std.specs.Prelude.{ℕ, if◌then◌else◌, List, [], ◌∷◌, map, Option, Some, None, slice_get}
use Rattle.task_ast.specs.declared.WordType.{WordType}
use Rattle.task_ast.specs.declared.WordType.TheVariants as word_type
use Rattle.task_ast.specs.declared.Extent.{Extent}
use Rattle.task_ast.specs.declared.Extent.TheVariants as extent
use Rattle.task_ast.specs.declared.SharedDeclaration.{SharedDeclaration}
use Rattle.image_map.specs.declared.parts.RuntimeWords.{RuntimeWords}
use Rattle.image_map.specs.declared.parts.Place.{Place}
use Rattle.image_map.specs.declared.parts.RingPlaces.{RingPlaces}
use Rattle.image_map.specs.declared.parts.ValueType.{ValueType}
use Rattle.image_map.specs.declared.parts.ValueType.TheVariants as value_type
use Rattle.image_map.specs.declared.parts.Variable.{Variable}
use Rattle.image_map.specs.MapValue.{MapValue, TaskValue}
use Rattle.cost_bound.specs.declared.allowance.Allow.{Allow}
use Rattle.cost_bound.specs.Allowance.{CheckedTask}
use Rattle.source_report.specs.source_values.Runs.{CheckedProgram}
use Rattle.source_report.specs.SourceReport.{spelled}
use Rattle.source_runs.specs.Naming.{length_of}
use Rattle.memory_map.specs.declared.place.VariablePlace.{VariablePlace}
use Rattle.memory_map.specs.declared.place.PrivateScalar.{PrivateScalar}
use Rattle.memory_map.specs.declared.place.Region.{Region}
use Rattle.memory_map.specs.declared.runtime.Logging.{Logging}
use Rattle.memory_map.specs.declared.runtime.Logging.TheVariants.{Redo, Undo}
use Rattle.memory_map.specs.declared.words.RuntimeWord.TheVariants.{CurrentTask, NextTask, Gate, ListLength, EmitCount, Base, SentBase, Version}
use Rattle.memory_map.specs.event_places.Places.{head_place, tail_place, count_place, sent_place, answer_place, ring_place}
use Rattle.memory_map.specs.MemoryMap.{MemoryMap, TaskPlace, word_place}
use Rattle.memory_map.specs.Places.{home_region}

-- how words of a type are read as numbers; which variable is a long its extent says
abbrev pub word_value_type : WordType → ValueType
word_value_type word_type.Unsigned = value_type.Unsigned
word_value_type word_type.Int = value_type.Int
word_value_type word_type.Long = value_type.Unsigned

-- the type of a variable that is declared so
abbrev pub value_type_of : WordType → Extent → ValueType
value_type_of w (extent.Scalar v) = word_value_type w
value_type_of w (extent.Long n) = value_type.Long
value_type_of w (extent.Array n) = word_value_type w

-- a shared variable: its name, its type, where its first word stands, and the length of an array
abbrev pub variable_of : List ℕ → SharedDeclaration → VariablePlace → Variable
variable_of text d place = record {
  name = spelled text d.name;
  value_type = value_type_of d.word_type d.extent;
  address = (home_region place).address;
  length = length_of d.extent;
}

-- the shared variables at their places
abbrev pub variables_of : List ℕ → List SharedDeclaration → List VariablePlace → List Variable
variables_of text (d ∷ ds) (place ∷ places) = variable_of text d place ∷ variables_of text ds places
variables_of text _ _ = []

-- the name of a shared variable by its number
abbrev pub name_in : List ℕ → Option SharedDeclaration → List ℕ
name_in text None = []
name_in text (Some d) = spelled text d.name

-- the name of the shared variable of a number
abbrev pub shared_name : List ℕ → List SharedDeclaration → ℕ → List ℕ
shared_name text shared number = name_in text (slice_get shared number)

-- the names of a task's private scalars
abbrev pub private_names : List ℕ → List SharedDeclaration → List PrivateScalar → List (List ℕ)
private_names text shared privates = map (λ s. shared_name text shared s.number) privates

-- a task with its layout
abbrev pub task_value_of : List ℕ → List SharedDeclaration → CheckedTask → TaskPlace → TaskValue
task_value_of text shared task layout = record { name = spelled text task.name; privates = private_names text shared layout.privates }

-- the tasks, each with its layout
abbrev pub tasks_of : List ℕ → List SharedDeclaration → List CheckedTask → List TaskPlace → List TaskValue
tasks_of text shared (task ∷ tasks) (layout ∷ layouts) = task_value_of text shared task layout ∷ tasks_of text shared tasks layouts
tasks_of text shared _ _ = []

-- the words of the runtime, by their names in a map
abbrev pub map_words : MemoryMap → RuntimeWords
map_words m = record {
  current_task = word_place m CurrentTask;
  next_task = word_place m NextTask;
  gate = word_place m Gate;
  list_length = word_place m ListLength;
  emit_count = word_place m EmitCount;
  base = word_place m Base;
  sent_base = word_place m SentBase;
  version = word_place m Version;
}

-- the commit list, with the entries that it has room for, and a buffer of single words
abbrev pub map_list : MemoryMap → Place
map_list m = record { address = m.list.address; capacity = m.entries }

-- a region as a map has it: its words are its capacity
abbrev pub map_buffer : Region → Place
map_buffer r = record { address = r.address; capacity = r.words }

-- the words of copies that a map names: where the runtime works in the shared words there are none
abbrev pub copied_words : Logging → ℕ → ℕ
copied_words Redo words = words
copied_words Undo words = 0

-- the place of the private copies
abbrev pub map_copies : MemoryMap → Place
map_copies m = record { address = m.copies.address; capacity = copied_words m.runtime.logging m.copies.words }

-- the ring of a source that takes events: it stands at one place in each image
abbrev pub event_ring : RingPlaces
event_ring = record {
  head = head_place;
  tail = tail_place;
  event_count = count_place;
  sent_tail = sent_place;
  answer = answer_place;
  slots = ring_place;
}

abbrev pub map_ring : MemoryMap → Option RingPlaces
map_ring m = if m.runtime.events then Some event_ring else None

-- the map of a source with its layout and its allowance
abbrev pub map_of : List ℕ → CheckedProgram → MemoryMap → Allow → MapValue
map_of text p l allow = record {
  bound = allow.cycles;
  words = map_words l;
  list = map_list l;
  emits = map_buffer l.emits;
  versions = map_buffer l.versions;
  copies = Some (map_copies l);
  ring = map_ring l;
  variables = variables_of text p.shared l.variables;
  tasks = tasks_of text p.shared p.tasks l.tasks;
}
