-- A task's places have what its source declares.
use Rattle.layout_facts.proofs.Names.{◌<◌, subst, sym, arith, Some, None, ⊎_elim, cases_Bool, Shared, IsArray, task_places, PlacesAreAsDeclared}
use Rattle.layout_facts.proofs.Names.{WrittenArraysHaveCopies, some_path_writes, scalar_seen, array_seen, array_read, TwoWords, IsScalarPlace}
use Rattle.checked_trees.proofs.Interface.{block_assigned}
use Rattle.memory_map.specs.Spots.{words_at}
use Rattle.layout_facts.proofs.Planned.{scalar_has_place, long_declared, long_has_place, array_has_place, array_declared, array_extent}
use Rattle.layout_facts.proofs.Assigned.{stored_has_copies}

pub places_are_as_declared : PlacesAreAsDeclared
places_are_as_declared p allow plans l h t task layout k = record {
  scalars = λ v s.
      let place = scalar_has_place p allow plans l h v s in
      subst IsScalarPlace (sym (scalar_seen (some_path_writes p.functions task.body) l.variables v place.0 place.1 place.2 place.3)) tt;
  longs = λ v s.
      let d = long_declared p.shared v s in
      let place = long_has_place p allow plans l h v d.0 d.1 d.2 in
      subst (λ o. 1 < words_at o) (sym (scalar_seen (some_path_writes p.functions task.body) l.variables v place.0 place.1 TwoWords place.2)) (omega arith);
  arrays = λ v a.
      let d = array_declared p.shared v a in
      let n = array_extent d.0.extent d.2 in
      let x = array_has_place p allow plans l h v n.0 d.0 d.1 n.1 in
      ⊎_elim {C = IsArray (task_places p l task layout) (Shared v)}
      (λ w. (x.0, n.0, x.1, record { place = array_seen (some_path_writes p.functions task.body) l.variables v x.0 n.0 x.1 x.2 w }))
      (λ w. (x.0, n.0, None, record { place = array_read (some_path_writes p.functions task.body) l.variables v x.0 n.0 x.1 x.2 w }))
      (cases_Bool (some_path_writes p.functions task.body v));
}

pub written_arrays_have_copies : WrittenArraysHaveCopies
written_arrays_have_copies p allow plans l h t task layout k formed bodies v a w =
    let x = stored_has_copies p allow plans l h t task layout k v a (block_assigned v p.shared p.functions bodies task.body formed w) in
    (x.0, x.1, x.2, record { place = array_seen (some_path_writes p.functions task.body) l.variables v x.0 x.1 (Some x.2) x.3 w })
