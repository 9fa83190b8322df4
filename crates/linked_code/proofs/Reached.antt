-- What the undo runtime needs of a layout: each task can be come to, and CLN and VER stand outside what the list has.
use Rattle.std.proofs.Common.{◌≡◌, ℕ, zero, suc, ◌+◌, ◌*◌, ◌%◌, ◌≤◌, List, [], ◌∷◌, map, inl, inr, arith}
use Rattle.std.specs.Prelude.{All}
use Rattle.std.proofs.lemmas.List.Elements.{All-nil, All-cons, All-head, All-tail, All-append}
use Rattle.boot_runtime.specs.memory_map.declared.place.PrivateScalar.{PrivateScalar}
use Rattle.boot_runtime.specs.memory_map.MemoryMap.{MemoryMap, TaskPlace}
use Rattle.boot_runtime.specs.memory_map.Places.{end_of, scalar_words, AreInOrder, HasItsPlace, IsLaidOut}
use Rattle.boot_runtime.proofs.memory_map.Interface.{apart_of, codes_in_order, parts_in_fram, private_home}
use Rattle.undo_runtime.specs.Entries.{words_from, home_words, homes_in, task_of, logged_tasks, FitsList}
use Rattle.undo_runtime.specs.Needs.{ListStands, IsLoggable}
use Rattle.undo_runtime.specs.Laws.{IsReached}
use Rattle.undo_runtime.proofs.Interface.{homes_count}

module _ (l : MemoryMap) (rules : IsLaidOut l) where
  pub list_stands : ListStands l
  list_stands =
      let a = apart_of l rules in
      let row = a.row in let list = a.list in let emits = a.emits in let versions = a.versions in
      let end = (parts_in_fram l rules).list.end in
      record {
        length = inl (omega (arith, list));
        version = inl (omega (arith, list));
        versions = inl (omega (arith, list, emits, versions));
        event_count = λ e. omega (arith, e, list, end);
      }

  -- a word of the variables is none of those by which words are logged
  loggable : (a : ℕ) → a % 2 ≡ 0 → l.homes.address ≤ a → a + 2 ≤ end_of l.homes → IsLoggable l a
  loggable a even low high =
      let k = apart_of l rules in
      let row = k.row in let list = k.list in let emits = k.emits in let versions = k.versions in let homes = k.homes in
      let end = (parts_in_fram l rules).homes.end in
      record {
        place = record { even = even; low = omega (arith, row, list, emits, versions, homes, low); high = omega (arith, high, end) };
        length = λ e. omega (arith, e, list, emits, versions, homes, low);
        list = inr (omega (arith, emits, versions, homes, low));
      }

  -- words one behind another
  words_loggable : (n a : ℕ) → a % 2 ≡ 0 → l.homes.address ≤ a → a + 2 * n ≤ end_of l.homes → All (IsLoggable l) (words_from n a)
  words_loggable zero a even low high = All-nil (IsLoggable l)
  words_loggable (suc n) a even low high =
      All-cons (IsLoggable l) a (words_from n (a + 2)) (loggable a even low (omega (arith, high)))
      (words_loggable n (a + 2) (omega (arith, even)) (omega (arith, low)) (omega (arith, high)))

  -- those of private scalars
  homes_loggable : (xs : List PrivateScalar) → All (HasItsPlace l.variables) xs → All (IsLoggable l) (homes_in xs)
  homes_loggable [] h = All-nil (IsLoggable l)
  homes_loggable (s ∷ xs) h =
      let w = private_home l rules s (All-head (HasItsPlace l.variables) s xs h) in
      All-append (IsLoggable l) (home_words s) (homes_in xs) (words_loggable (scalar_words s.width) s.home w.even w.from w.end)
      (homes_loggable xs (All-tail (HasItsPlace l.variables) s xs h))

  -- each task of a list whose code stands in order
  all_reached : (from : ℕ) (ts : List TaskPlace) (end : ℕ) → AreInOrder from (map (λ t. t.code) ts) end
      → All (λ (t : TaskPlace). All (HasItsPlace l.variables) t.privates) ts → All (FitsList l) ts → All (IsReached l) (map task_of ts)
  all_reached from [] end order places fit = All-nil (IsReached l)
  all_reached from (t ∷ ts) end order places fit =
      let Placed : TaskPlace → Type 0 = λ u. All (HasItsPlace l.variables) u.privates in
      let few = (All-head (FitsList l) t ts fit).few in
      let count = homes_count t.privates in
      All-cons (IsReached l) (task_of t) (map task_of ts)
      (record { privates = homes_loggable t.privates (All-head Placed t ts places); few = omega (arith, few, count); even = order.0.even })
      (all_reached (end_of t.code) ts end order.1 (All-tail Placed t ts places) (All-tail (FitsList l) t ts fit))

  pub tasks_are_reached : All (FitsList l) l.tasks → All (IsReached l) (logged_tasks l)
  tasks_are_reached fit =
      all_reached l.code.address l.tasks (end_of l.code) (codes_in_order l.code.address l.tasks (end_of l.code) rules.code) rules.privates fit
