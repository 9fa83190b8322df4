-- The entries of the list under undo: where a shared word stands, and what stood there.
use Rattle.std.specs.Prelude.{◌≡◌, ℕ, zero, suc, ◌+◌, ◌*◌, ◌⊎◌, List, [], ◌∷◌}
use Rattle.runtime_effects.specs.machine_effects.World.{put}
use Rattle.runtime_effects.specs.memory_map.MemoryMap.{MemoryMap, word_place}
use Rattle.runtime_effects.specs.memory_map.declared.words.RuntimeWord.TheVariants.{ListLength}

-- an entry: the address of a shared word, and the word that stood there
pub record Logged : Type 0 where
  pub address : ℕ
  pub word : ℕ

-- an entry's length in bytes
abbrev pub logged_bytes : ℕ
logged_bytes = 4

-- the place of an entry by its number
abbrev pub entry_place : MemoryMap → ℕ → ℕ
entry_place m n = m.list.address + logged_bytes * n

-- so many entries from an address on
abbrev pub logged_from : ℕ → ℕ → (ℕ → ℕ) → List Logged
logged_from zero p f = []
logged_from (suc n) p f = record { address = f p; word = f (p + 2) } ∷ logged_from n (p + logged_bytes) f

-- the entries of the list, CLN of them
abbrev pub logged : MemoryMap → (ℕ → ℕ) → List Logged
logged m f = logged_from (f (word_place m ListLength)) m.list.address f

-- one of the entries is of this address
abbrev pub IsLogged : List Logged → ℕ → Type 0
IsLogged [] a = ⊥
IsLogged (e ∷ es) a = (a ≡ e.address) ⊎ IsLogged es a

-- FRAM with the words of entries put back, from the last entry to the first: of two entries of one address the earlier one's word stays
abbrev pub undone : List Logged → (ℕ → ℕ) → (ℕ → ℕ)
undone [] f = f
undone (e ∷ es) f = put (undone es f) e.address e.word
