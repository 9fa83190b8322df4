-- The commit list has room for all that a task may list.
use Rattle.layout_facts.proofs.Names.{◌≡◌, ℕ, ◌+◌, ◌<◌, ◌≤◌, true, List, length, arith, ap, sym, ◌∙◌, Some, slice_get, All-weaker, slice_get_within}
use Rattle.layout_facts.proofs.Names.{SharedDeclaration, Allow, stores_of, CheckedProgram, list_part, TaskPlanValue, is_scalar, Scalar, Array, MemoryMap}
use Rattle.layout_facts.proofs.Names.{TaskPlace, places_of, Element, IsCopied, AreListed, listed_of, HasLayout, ElementsAreStores, ListsHaveRoom}
use Rattle.task_ast.specs.declared.Extent.TheVariants as extent
use Rattle.layout_facts.proofs.Planned.{array_has_place, scalar_has_place, scalar_at}
use Rattle.layout_facts.proofs.Room.{all_counted, sum_at_most, part_at_most, listed_none, listed_most}
use Rattle.layout_facts.proofs.Seen.{listed_seen}
use Rattle.layout_facts.proofs.Assigned.{task_matches}
use Rattle.cost_bound.specs.Summaries.{summaries}

module _ (p : CheckedProgram) (allow : Allow) (plans : List TaskPlanValue) (l : MemoryMap) (h : HasLayout p allow plans l) (layout : TaskPlace) where
  within : (x : Element) → IsCopied (places_of l layout) x → x.array < length p.shared
  within x m = let lt = slice_get_within l.variables x.array _ m.is_array.place in let count = h.layout.variables.count in omega (arith, lt, count)

  -- no element is of a scalar
  none : (v : ℕ) (d : SharedDeclaration) → slice_get p.shared v ≡ Some d → is_scalar d.extent ≡ true → (x : Element) → IsCopied (places_of l layout) x
      → x.array ≡ v → ⊥
  none v d e s x m at =
      let place = scalar_has_place p allow plans l h v (scalar_at p.shared v d e s) in
      let both : Some (Array m.elements m.length (Some m.copies)) ≡ Some (Scalar place.0 place.1 place.2) =
      sym m.is_array.place ∙ ap (slice_get l.variables) at ∙ place.3 in
      cc

  -- an element of an array is below its length
  below : (v n : ℕ) (d : SharedDeclaration) → slice_get p.shared v ≡ Some d → d.extent ≡ extent.Array n → (x : Element) → IsCopied (places_of l layout) x
      → x.array ≡ v → x.index < n
  below v n d e s x m at =
      let place = array_has_place p allow plans l h v n d e s in
      let both : Some (Array m.elements m.length (Some m.copies)) ≡ Some (Array place.0 n place.1) =
      sym m.is_array.place ∙ ap (slice_get l.variables) at ∙ place.2 in
      let length : m.length ≡ n = cc in
      let lt = m.below in
      omega (arith, length, lt)

  part : (stores : ℕ → ℕ) (xs : List Element) → AreListed (places_of l layout) xs → ((v : ℕ) → listed_of v xs ≤ stores v) → (k j : ℕ) (d : SharedDeclaration)
      → slice_get p.shared k ≡ Some d → j ≡ 0 + k
      → listed_of j xs ≤ list_part (stores j) d.extent
  part stores xs listed few k j d e at =
      part_at_most (listed_of j xs) (stores j) d.extent (few j)
      (λ s. listed_none j xs (All-weaker (IsCopied (places_of l layout)) (λ x. x.array ≡ j → ⊥) (λ x m i. none j d found s x m i) xs listed.copied))
      (λ n s. listed_most j n xs listed.different
      (All-weaker (IsCopied (places_of l layout)) (λ x. x.array ≡ j → x.index < n) (λ x m i. below j n d found s x m i) xs listed.copied))
    where
      same : j ≡ k
      same = omega (arith, at)

      found : slice_get p.shared j ≡ Some d
      found = ap (slice_get p.shared) same ∙ e

pub elements_are_stores : ElementsAreStores
elements_are_stores p allow plans l h t task layout k xs seen few =
    let listed = listed_seen p.functions task.body l layout xs seen in
    let sum =
    all_counted p.shared xs
    (All-weaker (IsCopied (places_of l layout)) (λ x. x.array < length p.shared) (within p allow plans l h layout) xs listed.copied) in
    let most =
    sum_at_most (λ i e. listed_of i xs) (λ i e. list_part (stores_of (summaries p) i task.body) e) 0 p.shared
    (part p allow plans l h layout (λ v. stores_of (summaries p) v task.body) xs listed few) in
    omega (arith, sum, most)

pub lists_have_room : ListsHaveRoom
lists_have_room p allow plans l h t task layout k xs listed few =
    let elements = elements_are_stores p allow plans l h t task layout k xs listed few in
    let count = (task_matches p allow plans l h t task layout k).count in
    omega (arith, elements, count)
