-- The boot copies, or lists, as many words for a task as its private scalars have.
use Rattle.std.proofs.Common.{◌≡◌, ℕ, zero, suc, List, [], ◌∷◌, length, map, get_or, slice_get, refl}
use Rattle.runtime_effects.proofs.Interface.{scalar_pairs_count}
use Rattle.memory_map.specs.MemoryMap.{MemoryMap, TaskPlace}
use Rattle.memory_map.specs.Spots.{private_words}
use Rattle.boot_runtime.specs.Entries.{entry_of, task_entries}
use Rattle.boot_runtime.specs.Listing.{privates_in}
use Rattle.undo_runtime.specs.Entries.{task_of}
use Rattle.undo_runtime.proofs.Interface.{homes_count}
use Rattle.compiled_model.specs.Parts.{private_homes}
use Rattle.task_needs.specs.Needs.{privates_of, own_privates}

count_in : (ts : List TaskPlace) (t : ℕ)
    → length (get_or (map entry_of ts) t (record { privates = []; code = 0 })).privates ≡ private_words (privates_of (slice_get ts t))
count_in [] t = refl
count_in (own ∷ ts) zero = scalar_pairs_count own.privates
count_in (own ∷ ts) (suc t) = count_in ts t

pub privates_count : (l : MemoryMap) (t : ℕ) → length (privates_in (task_entries l) t) ≡ private_words (own_privates l t)
privates_count l t = count_in l.tasks t

listed_in : (ts : List TaskPlace) (t : ℕ)
    → length (get_or (map task_of ts) t (record { privates = []; code = 0 })).privates ≡ private_words (privates_of (slice_get ts t))
listed_in [] t = refl
listed_in (own ∷ ts) zero = homes_count own.privates
listed_in (own ∷ ts) (suc t) = listed_in ts t

pub listed_count : (l : MemoryMap) (t : ℕ) → length (private_homes l t) ≡ private_words (own_privates l t)
listed_count l t = listed_in l.tasks t
