-- What holds of memory maps.
use Rattle.std.specs.Prelude.{◌≡◌, ℕ, ◌+◌, ◌*◌, ◌%◌, ◌<◌, ◌≤◌, Some, slice_get, Contains}
use Rattle.address_space.specs.Limits.{fram_first, program_end, IsFramWord}
use Rattle.memory_map.specs.declared.place.Region.{Region}
use Rattle.memory_map.specs.declared.place.VariablePlace.{VariablePlace}
use Rattle.memory_map.specs.declared.words.RuntimeWord.{RuntimeWord}
use Rattle.memory_map.specs.MemoryMap.{MemoryMap, word_place, row_region}
use Rattle.memory_map.specs.Places.{end_of, list_entry_room, home_region, copy_regions, version_regions, IsLaidOut}

-- ---- the regions

-- each region begins behind the one before
pub record AreApart (m : MemoryMap) : Type 0 where
  pub row : fram_first ≤ m.row
  pub list : end_of (row_region m) ≤ m.list.address
  pub emits : m.list.address + 2 * (list_entry_room * m.entries) ≤ m.emits.address
  pub versions : end_of m.emits ≤ m.versions.address
  pub homes : end_of m.versions ≤ m.homes.address
  pub copies : end_of m.homes ≤ m.copies.address
  pub boot : end_of m.copies ≤ m.boot.address
  pub commit : end_of m.boot ≤ m.commit.address
  pub code : end_of m.commit ≤ m.code.address
  pub high : end_of m.code ≤ program_end

-- each region begins at an even address
pub record AreEven (m : MemoryMap) : Type 0 where
  pub row : m.row % 2 ≡ 0
  pub list : m.list.address % 2 ≡ 0
  pub emits : m.emits.address % 2 ≡ 0
  pub versions : m.versions.address % 2 ≡ 0
  pub homes : m.homes.address % 2 ≡ 0
  pub copies : m.copies.address % 2 ≡ 0
  pub boot : m.boot.address % 2 ≡ 0
  pub commit : m.commit.address % 2 ≡ 0
  pub code : m.code.address % 2 ≡ 0

-- a region at an even address, of words of the FRAM in front of a program's end
pub record IsInFram (r : Region) : Type 0 where
  pub even : r.address % 2 ≡ 0
  pub from : fram_first ≤ r.address
  pub end : end_of r ≤ program_end

-- all regions
pub record PartsInFram (m : MemoryMap) : Type 0 where
  pub list : IsInFram m.list
  pub emits : IsInFram m.emits
  pub versions : IsInFram m.versions
  pub homes : IsInFram m.homes
  pub copies : IsInFram m.copies
  pub boot : IsInFram m.boot
  pub commit : IsInFram m.commit
  pub code : IsInFram m.code

-- ---- the words of the runtime

-- each is a word of the FRAM in front of the commit list, so of all other regions
pub record WordStands (m : MemoryMap) (word : RuntimeWord) : Type 0 where
  pub is_fram : IsFramWord (word_place m word)
  pub from : m.row ≤ word_place m word
  pub below : word_place m word + 2 ≤ m.list.address

-- of each memory map that is laid out
abbrev pub WordsStand : Type 0
WordsStand = (m : MemoryMap) (word : RuntimeWord) → IsLaidOut m → WordStands m word

-- one address is that of one word
abbrev pub WordsDiffer : Type 0
WordsDiffer = (m : MemoryMap) (v w : RuntimeWord) → word_place m v ≡ word_place m w → v ≡ w

-- ---- the variables

-- the words of a later variable stand behind those of an earlier one
abbrev pub HomesAreApart : MemoryMap → Type 0
HomesAreApart m = (i j : ℕ) (a b : VariablePlace) → i < j → slice_get m.variables i ≡ Some a → slice_get m.variables j ≡ Some b
    → end_of (home_region a) ≤ (home_region b).address

-- the copies of a later variable stand behind those of an earlier one, and all copies behind the words of all variables
pub record CopiesAreApart (m : MemoryMap) : Type 0 where
  pub from_each_other : (i j : ℕ) (a b : VariablePlace) (r q : Region) → i < j → slice_get m.variables i ≡ Some a → slice_get m.variables j ≡ Some b
      → Contains (copy_regions a) r → Contains (copy_regions b) q → end_of r ≤ q.address
  pub from_homes : (i j : ℕ) (a b : VariablePlace) (q : Region) → slice_get m.variables i ≡ Some a → slice_get m.variables j ≡ Some b
      → Contains (copy_regions b) q → end_of (home_region a) ≤ q.address

-- the version words of a later variable stand behind those of an earlier one, at even addresses, all where the map has the versions
pub record VersionsAreApart (m : MemoryMap) : Type 0 where
  pub from_each_other : (i j : ℕ) (a b : VariablePlace) (r q : Region) → i < j → slice_get m.variables i ≡ Some a → slice_get m.variables j ≡ Some b
      → Contains (version_regions a) r → Contains (version_regions b) q → end_of r ≤ q.address
  pub from : (i : ℕ) (a : VariablePlace) (r : Region) → slice_get m.variables i ≡ Some a → Contains (version_regions a) r → m.versions.address ≤ r.address
  pub below : (i : ℕ) (a : VariablePlace) (r : Region) → slice_get m.variables i ≡ Some a → Contains (version_regions a) r
      → end_of r ≤ end_of m.versions
  pub even : (i : ℕ) (a : VariablePlace) (r : Region) → slice_get m.variables i ≡ Some a → Contains (version_regions a) r → r.address % 2 ≡ 0
