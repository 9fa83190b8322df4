-- Where the words that a task works on stand apart from the runtime's, and for how much there is room.
use Rattle.std.specs.Prelude.{◌≡◌, ℕ, ◌+◌, ◌*◌, ◌%◌, ◌≤◌, ◌==◌, if◌then◌else◌, List, [], ◌∷◌, length, All, AllPairs}
use Rattle.address_space.specs.Limits.{fram_first, program_end}
use Rattle.memory_map.specs.declared.runtime.Logging.TheVariants.{Redo, Undo}
use Rattle.memory_map.specs.MemoryMap.{row_region}
use Rattle.memory_map.specs.Places.{end_of}
use Rattle.memory_map.specs.Spots.{Places, private_words, Element, IsCopied, Spot, IsSpot, spot_address}

-- attempts work in copies, which commits bring home
abbrev pub IsRedo : Places → Type 0
IsRedo p = p.map.runtime.logging ≡ Redo

-- attempts work in the words themselves, and first list what stood there
abbrev pub IsUndo : Places → Type 0
IsUndo p = p.map.runtime.logging ≡ Undo

-- for how many words an attempt has room: words that it emits, and words that the commit list names
pub record Room : Type 0 where
  pub emits : ℕ
  pub list : ℕ

-- the words of the runtime, the list, the emit buffer, and behind them the words that the task works on, each at an address of its own
pub record AreApart (p : Places) (room : Room) : Type 0 where
  pub row : fram_first ≤ p.map.row
  pub list : end_of (row_region p.map) ≤ p.map.list.address
  pub emits : p.map.list.address + 6 * room.list ≤ p.map.emits.address
  pub high : p.map.emits.address + 2 * room.emits ≤ program_end
  pub spots : (s : Spot) → IsSpot p s → p.map.emits.address + 2 * room.emits ≤ spot_address p s
  pub below : (s : Spot) → IsSpot p s → spot_address p s + 2 ≤ program_end
  pub distinct : (s t : Spot) → IsSpot p s → IsSpot p t → spot_address p s ≡ spot_address p t → s ≡ t

-- all places are at even addresses, as the CPU takes words
pub record AreEven (p : Places) : Type 0 where
  pub row : p.map.row % 2 ≡ 0
  pub list : p.map.list.address % 2 ≡ 0
  pub emits : p.map.emits.address % 2 ≡ 0
  pub commit : p.map.commit.address % 2 ≡ 0
  pub spots : (s : Spot) → IsSpot p s → spot_address p s % 2 ≡ 0

-- ---- elements that are listed to be copied

-- how many of these elements are of an array
abbrev pub listed_of : ℕ → List Element → ℕ
listed_of v [] = 0
listed_of v (x ∷ xs) = (if x.array == v then 1 else 0) + listed_of v xs

-- two elements, not one
abbrev pub AreDifferent : Element → Element → Type 0
AreDifferent x y = x ≡ y → ⊥

-- each of these elements has a copy, and none stands twice
pub record AreListed (p : Places) (xs : List Element) : Type 0 where
  pub copied : All (IsCopied p) xs
  pub different : AllPairs AreDifferent xs

-- the commit list has room for the words of the private scalars and for elements of which so many of each array are listed
abbrev pub HasRoom : Places → (ℕ → ℕ) → Room → Type 0
HasRoom p stores room = (xs : List Element) → AreListed p xs → ((v : ℕ) → listed_of v xs ≤ stores v) → length xs + private_words p.privates ≤ room.list

-- it has room for so many words besides, which the start lists
abbrev pub HasRoomBehind : ℕ → Places → (ℕ → ℕ) → Room → Type 0
HasRoomBehind first p stores room =
    (xs : List Element) → AreListed p xs → ((v : ℕ) → listed_of v xs ≤ stores v) → first + (length xs + private_words p.privates) ≤ room.list
