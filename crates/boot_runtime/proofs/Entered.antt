-- The tasks of a layout.
use Rattle.std.proofs.Common.{ℕ, List, [], ◌∷◌, map, arith}
use Rattle.std.specs.List.{All}
use Rattle.std.proofs.lemmas.List.Elements.{All-nil, All-cons, All-head, All-tail, All-weaker}
use Rattle.memory_map.specs.declared.place.PrivateScalar.{PrivateScalar}
use Rattle.memory_map.specs.MemoryMap.{MemoryMap, TaskPlace}
use Rattle.memory_map.specs.Places.{end_of, AreInOrder, HasItsPlace, IsLaidOut}
use Rattle.memory_map.proofs.Interface.{codes_in_order, parts_in_fram, private_home, private_copy}
use Rattle.runtime_code.specs.runtime_effects.Needs.{ArePairWords}
use Rattle.runtime_code.specs.LayoutPlaces.{pairs_of}
use Rattle.runtime_code.proofs.Interface.{privates_are_words}
use Rattle.boot_runtime.specs.Entries.{entry_of, EndsInMemory}
use Rattle.boot_runtime.specs.Laws.{IsEntered, TasksAreEntered}

entered : (from : ℕ) (ts : List TaskPlace) (end : ℕ) → AreInOrder from (map (λ t. t.code) ts) end → All (λ t. All ArePairWords (pairs_of t)) ts
    → All IsEntered (map entry_of ts)
entered from [] end o p = All-nil IsEntered
entered from (t ∷ ts) end o p =
    All-cons IsEntered (entry_of t) (map entry_of ts) (record { privates = All-head (λ x. All ArePairWords (pairs_of x)) t ts p; even = o.0.even })
    (entered (end_of t.code) ts end o.1 (All-tail (λ x. All ArePairWords (pairs_of x)) t ts p))

pub tasks_are_entered : TasksAreEntered
tasks_are_entered l h =
    entered l.code.address l.tasks (end_of l.code) (codes_in_order l.code.address l.tasks (end_of l.code) h.code) (privates_are_words l h)

-- the words of private scalars, and their copies, end within the memory
ends : (l : MemoryMap) → IsLaidOut l → (s : PrivateScalar) → HasItsPlace l.variables s → EndsInMemory s
ends l h s p =
    let home = (private_home l h s p).end in
    let copy = (private_copy l h s p).end in
    let homes = (parts_in_fram l h).homes.end in
    let copies = (parts_in_fram l h).copies.end in
    record { home = omega (arith, home, homes); copy = omega (arith, copy, copies) }

pub privates_end : (l : MemoryMap) → IsLaidOut l → All (λ t. All EndsInMemory t.privates) l.tasks
privates_end l h =
    All-weaker (λ t. All (HasItsPlace l.variables) t.privates) (λ t. All EndsInMemory t.privates)
    (λ t p. All-weaker (HasItsPlace l.variables) EndsInMemory (ends l h) t.privates p) l.tasks h.privates
