-- The words that a task works on stand apart, behind what it lists and emits.
use Rattle.layout_facts.proofs.Names.{◌≡◌, ℕ, ◌+◌, ◌-◌, ◌*◌, ◌/◌, ◌%◌, ◌<◌, ◌≤◌, arith, emits_of, list_of, apart_of, even_of, parts_in_fram, element_is}
use Rattle.layout_facts.proofs.Names.{copy_is, version_is, version_between, spots_are_apart, TaskPlacesAreApart, TaskPlacesAreEven, ElementsStand, places_of}
use Rattle.layout_facts.proofs.Names.{element_address, copy_address, version_address, some_path_writes, map_seen, privates_seen, seen_laid_out}
use Rattle.layout_facts.proofs.Privates as privates
use Rattle.layout_facts.proofs.Chains.{at_most_greatest}
use Rattle.layout_facts.proofs.Seen.{word_of_seen}
use Rattle.layout_facts.proofs.Privates.{privates_of}
use Rattle.cost_bound.specs.Summaries.{summaries}

pub task_places_are_apart : TaskPlacesAreApart
task_places_are_apart p allow plans l h t task layout k =
    let mine = privates_of p allow plans l h t task layout k in
    let w = some_path_writes p.functions task.body in
    let stand = spots_are_apart (map_seen p.functions task.body l) layout (seen_laid_out w l h.layout.rules)
    (privates_seen w l.variables layout.privates mine.places) in
    let a = apart_of l h.layout.rules in
    let emits = a.emits in let versions = a.versions in
    let most_list = at_most_greatest (list_of (summaries p) p.shared) p.tasks t task k.is_task in
    let most_emits = at_most_greatest (emits_of (summaries p)) p.tasks t task k.is_task in
    let list_is = h.layout.list in let list_allowed = h.allowed.list in
    let emits_is = h.layout.emits in let emits_allowed = h.allowed.emits in
    let behind : l.emits.address + 2 * emits_of (summaries p) task.body ≤ l.versions.address = omega (arith, most_emits, emits_is, emits_allowed, versions) in
    let low = (parts_in_fram l h.layout.rules).versions.end in
    record {
      row = a.row;
      list = a.list;
      emits = omega (arith, most_list, list_is, list_allowed, emits);
      high = omega (arith, behind, low);
      spots = λ s m. let b = (stand.each s m).from in omega (arith, b, behind);
      below = λ s m. let b = (stand.each s m).end in omega (arith, b);
      distinct = stand.distinct;
    }

pub task_places_are_even : TaskPlacesAreEven
task_places_are_even p allow plans l h t task layout k =
    let mine = privates_of p allow plans l h t task layout k in
    let e = even_of l h.layout.rules in
    let w = some_path_writes p.functions task.body in
    let stand = spots_are_apart (map_seen p.functions task.body l) layout (seen_laid_out w l h.layout.rules)
    (privates_seen w l.variables layout.privates mine.places) in
    record {
      row = e.row;
      list = e.list;
      emits = e.emits;
      commit = e.commit;
      spots = λ s m. (stand.each s m).even;
    }

-- a word of a list, by its number
counted : (from a capacity : ℕ) → from % 2 ≡ 0 → a % 2 ≡ 0 → from ≤ a → a + 2 ≤ from + 2 * capacity → (j : ℕ) × (j < capacity) × (a ≡ from + 2 * j)
counted from a capacity e f l k = ((a - from) / 2, omega arith, omega arith)

pub elements_stand : ElementsStand
elements_stand p allow plans l h t task layout k =
    let m = map_seen p.functions task.body l in
    let rules = seen_laid_out (some_path_writes p.functions task.body) l h.layout.rules in
    record {
      word = λ x e. word_of_seen p.functions task.body l x.array x.index (element_address (places_of m layout) x) (element_is m layout x e);
      copy = λ x c.
          let at = privates.copy_is p m rules x.array x.index (copy_address (places_of m layout) x) (copy_is m layout x c) in
          record { even = at.even; from = at.from; below = at.below };
      version = λ x c.
          let b = version_between m rules x.array x.index (version_address (places_of m layout) x) (version_is m layout x c) in
          counted l.versions.address (version_address (places_of m layout) x) l.versions.words (even_of l h.layout.rules).versions b.even b.from b.end;
    }
