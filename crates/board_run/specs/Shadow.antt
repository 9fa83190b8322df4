-- The words of the FRAM as they were at the last done, and marks on those that were written since.
use Rattle.std.specs.Prelude.{◌≡◌, ℕ, ◌/◌, ◌<◌, ◌≤◌, ◌⊎◌, Bool, true, false, List, All, Contains, length, slice_index, slice_index_or, Option, Some, None}
use Rattle.image_text.specs.address_space.Limits.{fram_first, fram_words, place_of}

-- a shadow of the FRAM
pub record ShadowValue : Type 0 where
  pub words : List ℕ  -- the words as they were
  pub marks : List Bool  -- a mark for each word
  pub blocks : List Bool  -- for each 32 words, whether a mark is among them
  pub regions : List Bool  -- for each 1,024 words
  pub places : List ℕ  -- the first places that were marked
  pub full : Bool  -- whether others were marked behind them

-- a place for each word, with its mark, and one for each block and region
pub record HasLengths (ws : List ℕ) (ms bs rs : List Bool) : Type 0 where
  pub words : length ws ≡ fram_words
  pub marks : length ms ≡ fram_words
  pub blocks : length bs ≡ 752
  pub regions : length rs ≡ 24

-- the word at a place is marked, and so are its block and its region
pub record IsMarked (s : ShadowValue) (i : ℕ) : Type 0 where
  pub word : slice_index_or s.marks i false ≡ true
  pub block : slice_index_or s.blocks (i / 32) false ≡ true
  pub region : slice_index_or s.regions (i / 1024) false ≡ true

-- with the mark of a word its block and its region are marked; the list has all places that are marked, or says that it is full
pub record IsShadow (s : ShadowValue) : Type 0 where
  pub lengths : HasLengths s.words s.marks s.blocks s.regions
  pub inside : All (λ p. p < fram_words) s.places
  pub whole : (i : ℕ) → slice_index_or s.marks i false ≡ true → IsMarked s i
  pub listed : s.full ≡ false → (i : ℕ) → IsMarked s i → Contains s.places i

-- words that differ from the FRAM's, and marks, are at these places alone
pub record AreRest (words : List ℕ) (marks : List Bool) (fram places : List ℕ) : Type 0 where
  pub same : (i : ℕ) → i < fram_words → (Contains places i → ⊥) → slice_index words i ≡ slice_index fram i
  pub marked : (i : ℕ) → slice_index_or marks i false ≡ true → Contains places i

-- what isn't marked in the FRAM is as it was
abbrev pub Covers : ShadowValue → List ℕ → Type 0
Covers s fram = (i : ℕ) → i < fram_words → (IsMarked s i → ⊥) → slice_index s.words i ≡ slice_index fram i

-- a write at this address, if there was one, wrote the word at a place of the FRAM
abbrev pub IsWritten : Option ℕ → ℕ → Type 0
IsWritten None i = ⊥
IsWritten (Some a) i = (fram_first ≤ a) × (i ≡ place_of a)

-- the addresses that a step wrote: two at most
abbrev pub Stores : Type 0
Stores = Option ℕ × Option ℕ

-- one of them is that of the word at a place
abbrev pub IsStored : Stores → ℕ → Type 0
IsStored stores i = IsWritten stores.0 i ⊎ IsWritten stores.1 i

-- the same but for the words that a step wrote
abbrev pub CoversBut : Stores → ShadowValue → List ℕ → Type 0
CoversBut stores s fram = (i : ℕ) → i < fram_words → (IsStored stores i → ⊥) → (IsMarked s i → ⊥) → slice_index s.words i ≡ slice_index fram i
