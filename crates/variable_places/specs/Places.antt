-- The places that a task's program works on: arrays with their copies and version words, the high word of a long, the commit list.
use Rattle.std.specs.Prelude.{ℕ, ◌+◌, ◌%◌, Option, Some, None, slice_get}
use Rattle.task_ast.specs.declared.names.Variable.{Variable}
use Rattle.task_ast.specs.declared.names.Variable.TheVariants.{Shared, Local}
use Rattle.array_versions.specs.declared.program.ArrayPlace.{ArrayPlace}
use Rattle.array_versions.specs.declared.program.ListPlace.{ListPlace}
use Rattle.memory_map.specs.declared.words.RuntimeWord.TheVariants.{ListLength, Version}
use Rattle.memory_map.specs.declared.place.ArrayCopies.{ArrayCopies}
use Rattle.memory_map.specs.declared.place.VariablePlace.{VariablePlace}
use Rattle.memory_map.specs.declared.place.VariablePlace.TheVariants.{Scalar, Array}
use Rattle.memory_map.specs.MemoryMap.{word_place}
use Rattle.memory_map.specs.Spots.{Places}

-- the address of the high word of a long: it stands right behind the low one
abbrev pub high_address : ℕ → ℕ
high_address address = (address + 2) % 65536

-- the number of a local: those of the code that is at work have their numbers from its first on
abbrev pub local_number : Places → ℕ → ℕ
local_number p n = (p.first + n) % 65536

-- the elements of an array, their copies and their version words
abbrev pub array_place : ℕ → ℕ → ArrayCopies → ArrayPlace
array_place elements length c = record { elements = elements; copies = c.copies; versions = c.versions; length = length }

-- an array of no elements
abbrev pub no_array : ArrayPlace
no_array = record { elements = 0; copies = 0; versions = 0; length = 0 }

-- the number of the attempt, and the commit list
abbrev pub list_place : Places → ListPlace
list_place p = record { ver = word_place p.map Version; cln = word_place p.map ListLength; list = p.map.list.address }

-- the array at a place that a task may write
abbrev pub written_array : Option VariablePlace → ArrayPlace
written_array (Some (Array elements length (Some c))) = array_place elements length c
written_array (Some (Array elements length None)) = no_array
written_array (Some (Scalar home copy width)) = no_array
written_array None = no_array

-- the same by its variable
abbrev pub stored_array : Places → Variable → ArrayPlace
stored_array p (Shared v) = written_array (slice_get p.map.variables v)
stored_array p (Local n) = no_array
