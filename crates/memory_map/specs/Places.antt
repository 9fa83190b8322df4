-- The rules of a memory map, whatever its source: its places are even, in the FRAM, and apart.
use Rattle.std.specs.Prelude.{◌≡◌, ℕ, ◌+◌, ◌*◌, ◌%◌, ◌≤◌, List, [], ◌∷◌, map, Option, None, Some, All, slice_get}
use Rattle.std.specs.List.{flat_map}
use Rattle.address_space.specs.Limits.{fram_first, program_end}
use Rattle.memory_map.specs.declared.place.Region.{Region}
use Rattle.memory_map.specs.declared.place.ArrayCopies.{ArrayCopies}
use Rattle.memory_map.specs.declared.place.ScalarWidth.{ScalarWidth}
use Rattle.memory_map.specs.declared.place.ScalarWidth.TheVariants.{OneWord, TwoWords}
use Rattle.memory_map.specs.declared.place.VariablePlace.{VariablePlace}
use Rattle.memory_map.specs.declared.place.VariablePlace.TheVariants.{Scalar, Array}
use Rattle.memory_map.specs.declared.place.PrivateScalar.{PrivateScalar}
use Rattle.memory_map.specs.MemoryMap.{MemoryMap, TaskPlace, parts}

-- the address behind a region
abbrev pub end_of : Region → ℕ
end_of r = r.address + 2 * r.words

-- a region at an even address, behind what ends at another
pub record IsBehind (end : ℕ) (r : Region) : Type 0 where
  pub from : end ≤ r.address
  pub even : r.address % 2 ≡ 0

-- regions one behind another, each at an even address, from one address on up to another
abbrev pub AreInOrder : ℕ → List Region → ℕ → Type 0
AreInOrder from [] end = from ≤ end
AreInOrder from (r ∷ rs) end = IsBehind from r × AreInOrder (end_of r) rs end

-- how many words a scalar has: two where it is a long
abbrev pub scalar_words : ScalarWidth → ℕ
scalar_words OneWord = 1
scalar_words TwoWords = 2

-- the words of a scalar, or the elements of an array
abbrev pub home_region : VariablePlace → Region
home_region (Scalar home copy width) = record { address = home; words = scalar_words width }
home_region (Array elements length copies) = record { address = elements; words = length }

-- so many words at each address there is
abbrev pub regions_of : ℕ → Option ℕ → List Region
regions_of words None = []
regions_of words (Some address) = record { address = address; words = words } ∷ []

-- where an array's copies begin, if it has any
abbrev pub copies_at : Option ArrayCopies → Option ℕ
copies_at None = None
copies_at (Some c) = Some c.copies

-- where its version words begin
abbrev pub versions_at : Option ArrayCopies → Option ℕ
versions_at None = None
versions_at (Some c) = Some c.versions

-- the copy of a scalar, or those of an array's elements, if there are any
abbrev pub copy_regions : VariablePlace → List Region
copy_regions (Scalar home copy width) = regions_of (scalar_words width) (Some copy)
copy_regions (Array elements length copies) = regions_of length (copies_at copies)

-- the version words of an array's elements, if there are any
abbrev pub version_regions : VariablePlace → List Region
version_regions (Scalar home copy width) = []
version_regions (Array elements length copies) = regions_of length (versions_at copies)

-- the words that are kept for an entry of the commit list
abbrev pub list_entry_room : ℕ
list_entry_room = 3

-- a private scalar has the words and the copy of its variable
pub record HasItsPlace (variables : List VariablePlace) (s : PrivateScalar) : Type 0 where
  pub place : slice_get variables s.number ≡ Some (Scalar s.home s.copy s.width)

-- the room for a task's own code, and behind it that for the code of each function that it reaches
abbrev pub code_regions : TaskPlace → List Region
code_regions t = t.code ∷ map (λ r. r.code) t.routines

-- the rules of a memory map
pub record IsLaidOut (m : MemoryMap) : Type 0 where
  -- one chain: the words of the runtime, the buffers, the variables, their copies, and all code above them, up to the end of a program
  pub chain : AreInOrder fram_first (parts m) program_end
  pub list : m.list.words ≡ list_entry_room * m.entries
  -- the variables in order, and the same of their copies and versions
  pub homes : AreInOrder m.homes.address (map home_region m.variables) (end_of m.homes)
  pub copies : AreInOrder m.copies.address (flat_map copy_regions m.variables) (end_of m.copies)
  pub versions : AreInOrder m.versions.address (flat_map version_regions m.variables) (end_of m.versions)
  -- the tasks' code in order
  pub code : AreInOrder m.code.address (flat_map code_regions m.tasks) (end_of m.code)
  pub privates : All (λ t. All (HasItsPlace m.variables) t.privates) m.tasks
