-- What a task assigns, and where it has that.
use Rattle.layout_facts.proofs.Names.{◌≡◌, ℕ, zero, suc, ◌<◌, ◌⊎◌, inl, inr, Bool, true, false, ◌||◌, List, [], ◌∷◌, length, map, get_or, arith, ap, subst, sym}
use Rattle.layout_facts.proofs.Names.{◌∙◌, Some, None, refl, Option, is_some, slice_get, Contains, ◌==◌, if◌then◌else◌, option_map, cases_Bool, eqb-true}
use Rattle.layout_facts.proofs.Names.{eq-eqb, length-map, slice_get-map, slice_get_within, get_or_from_slice_get, Allow, CheckedProgram}
use Rattle.layout_facts.proofs.Names.{CheckedTask, is_written, TaskPlanValue, IsPrivateIn, IsArrayAt, element, private_is, is_private_of, Shared}
use Rattle.layout_facts.proofs.Names.{some_path_writes, places_seen, map_seen, scalar_seen, is_private_in, HasLayout, IsTaskAt, task_places, TasksMatch}
use Rattle.layout_facts.proofs.Names.{TaskMatches, AddressesAre, AddressIs, ArrayCopies, ScalarWidth, Scalar, Array, PrivateScalar, MemoryMap, TaskPlace}
use Rattle.layout_facts.proofs.Names.{HasItsPlace, copy_among, home_of, home_in, copy_else, address_of, among_is}
use Rattle.layout_facts.proofs.Lists.{place_of, contains_at}
use Rattle.layout_facts.proofs.Privates.{Privates, privates_of, ascending_numbers}
use Rattle.layout_facts.proofs.Planned.{array_declared, array_extent, array_has_place, places_match}
use Rattle.cost_bound.specs.Summaries.{summaries}
use Rattle.cost_bound.specs.Summary.{Summary}
use Rattle.cost_bound.specs.Counts.{assigns_of}

-- what a task assigns, itself or by a function, is written by some task
or_true : (b : Bool) → (b || true) ≡ true
or_true true = refl
or_true false = refl

written_by : (known : List Summary) (ts : List CheckedTask) (t : ℕ) (task : CheckedTask) (v : ℕ) → slice_get ts t ≡ Some task
    → assigns_of known v task.body ≡ true → is_written known ts v ≡ true
written_by known [] t task v e a = let no : None ≡ Some task = e in cc
written_by known (x ∷ ts) zero task v e a =
    let same : x ≡ task = cc in
    let here : assigns_of known v x.body ≡ true = ap (λ (y : CheckedTask). assigns_of known v y.body) same ∙ a in
    rw here refl
written_by known (x ∷ ts) (suc t) task v e a = rw (written_by known ts t task v e a) (or_true (assigns_of known v x.body))

some_copies : (o : Option ArrayCopies) → is_some o ≡ true → (c : ArrayCopies) × (o ≡ Some c)
some_copies (Some c) h = (c, refl)
some_copies None h = let no : false ≡ true = h in cc

-- a variable among the private scalars has a copy there
among_found : (xs : List PrivateScalar) (k : ℕ) (s : PrivateScalar) (v : ℕ) → slice_get xs k ≡ Some s → s.number ≡ v → (c : ℕ) × (copy_among xs v ≡ Some c)
among_found [] k s v e n = let no : None ≡ Some s = e in cc
among_found (x ∷ xs) zero s v e n =
    let same : x ≡ s = cc in
    let number : x.number ≡ v = ap (λ (y : PrivateScalar). y.number) same ∙ n in
    (x.copy, rw (eq-eqb x.number v number) refl)
among_found (x ∷ xs) (suc k) s v e n = by (cases_Bool (x.number == v)) (among_found xs k s v e n)
  where
    by : ((x.number == v) ≡ true) ⊎ ((x.number == v) ≡ false) → ((c : ℕ) × (copy_among xs v ≡ Some c))
        → (c : ℕ) × ((if x.number == v then Some x.copy else copy_among xs v) ≡ Some c)
    by (inl t) r = (x.copy, rw t refl)
    by (inr f) r = (r.0, rw f r.1)

-- and what has a copy there is among them
among_member : (xs : List PrivateScalar) (v c : ℕ) → copy_among xs v ≡ Some c → (k : ℕ) × (s : PrivateScalar) × (slice_get xs k ≡ Some s) × (s.number ≡ v)
among_member [] v c e = let no : None ≡ Some c = e in cc
among_member (x ∷ xs) v c e = by (cases_Bool (x.number == v)) (among_member xs v c)
  where
    by : ((x.number == v) ≡ true) ⊎ ((x.number == v) ≡ false)
        → (copy_among xs v ≡ Some c → (k : ℕ) × (s : PrivateScalar) × (slice_get xs k ≡ Some s) × (s.number ≡ v))
        → (k : ℕ) × (s : PrivateScalar) × (slice_get (x ∷ xs) k ≡ Some s) × (s.number ≡ v)
    by (inl t) others = (0, x, refl, eqb-true x.number v t)
    by (inr f) others = let rest : copy_among xs v ≡ Some c = rw f at e in let r = others rest in (suc r.0, r.1, r.2, r.3)

number_at : (xs : List PrivateScalar) (k : ℕ) (s : PrivateScalar) (d : ℕ) → slice_get xs k ≡ Some s → get_or (map (λ s. s.number) xs) k d ≡ s.number
number_at xs k s d e =
    get_or_from_slice_get (map (λ (s : PrivateScalar). s.number) xs) k s.number d
    (slice_get-map (λ (s : PrivateScalar). s.number) xs k ∙ ap (option_map (λ (s : PrivateScalar). s.number)) e)

module _ (p : CheckedProgram) (allow : Allow) (plans : List TaskPlanValue) (l : MemoryMap) (h : HasLayout p allow plans l) (t : ℕ) (task : CheckedTask)
    (layout : TaskPlace) (k : IsTaskAt p l t task layout) where
  mine : Privates p l task layout
  mine = privates_of p allow plans l h t task layout k

  -- a private scalar is one that the paths make private
  private_is_one : (i : ℕ) (s : PrivateScalar) → slice_get layout.privates i ≡ Some s → IsPrivateIn p.functions p.shared task.body s.number
  private_is_one i s e =
      let numbers = mine.numbers in
      let lt : i < length mine.plan.private_scalars =
      omega (arith, slice_get_within layout.privates i s e, length-map layout.privates (λ (s : PrivateScalar). s.number), ap length numbers) in
      let at : get_or mine.plan.private_scalars i 0 ≡ s.number = ap (λ (xs : List ℕ). get_or xs i 0) (sym numbers) ∙ number_at layout.privates i s 0 e in
      subst (IsPrivateIn p.functions p.shared task.body) at (mine.is_plan.private_scalars.only i 0 lt)

  place_is : (i : ℕ) (s : PrivateScalar) → slice_get layout.privates i ≡ Some s → HasItsPlace l.variables s
  place_is i s e = subst (HasItsPlace l.variables) (get_or_from_slice_get layout.privates i s s e) (mine.places i s (slice_get_within layout.privates i s e))

  -- and each of those is one
  assigned_is : (v : ℕ) → IsPrivateIn p.functions p.shared task.body v → (i : ℕ) × (s : PrivateScalar) × (slice_get layout.privates i ≡ Some s) × (s.number ≡ v)
  assigned_is v a =
      let numbers = mine.numbers in
      let c = mine.is_plan.private_scalars.each v a in
      let lt = c.1 in
      let s = element layout.privates c.0 (omega (arith, lt, length-map layout.privates (λ (s : PrivateScalar). s.number), ap length numbers)) in
      let same : get_or (map (λ (s : PrivateScalar). s.number) layout.privates) c.0 v ≡ v = ap (λ (xs : List ℕ). get_or xs c.0 v) numbers ∙ c.2 in
      (c.0, s.0, s.1, sym (number_at layout.privates c.0 s.0 v s.1) ∙ same)

  -- an array that the task stores to has copies
  pub stored_has_copies : (v : ℕ) → IsArrayAt p.shared v → assigns_of (summaries p) v task.body ≡ true
      → (elements n : ℕ) × (copies : ArrayCopies) × (slice_get l.variables v ≡ Some (Array elements n (Some copies)))
  stored_has_copies v a assigned =
      let d = array_declared p.shared v a in
      let n = array_extent d.0.extent d.2 in
      let x = array_has_place p allow plans l h v n.0 d.0 d.1 n.1 in
      let c = some_copies x.1 (x.3 ∙ written_by (summaries p) p.tasks t task v k.is_task assigned) in
      (x.0, n.0, c.0, x.2 ∙ ap (λ y. Some (Array x.0 n.0 y)) c.1)

  pub task_matches : TaskMatches p l task layout
  task_matches = record {
    ascending = ascending_numbers p l task layout mine;
    only = λ s c. let i = place_of layout.privates s c in (private_is_one i.0 s i.1, place_is i.0 s i.1);
    each = λ v a. let i = assigned_is v a in (i.1, contains_at layout.privates i.0 i.1 i.2, i.3);
    count = h.few t task layout k.is_task k.is_layout;
    stored = stored_has_copies;
  }

  -- a scalar that is private by the sums has an entry
  entry_of_private : (v home copy : ℕ) (width : ScalarWidth) → slice_get l.variables v ≡ Some (Scalar home copy width)
      → is_private_in p.functions task.body v ≡ true
      → (i : ℕ) × (s : PrivateScalar) × (slice_get layout.privates i ≡ Some s) × (s.number ≡ v)
  entry_of_private v home copy width e a =
      assigned_is v (record {
        scalar = (places_match p allow plans l h).is_scalar v home copy width e;
        owed = private_is (Shared v) p.functions mine.callable task.body mine.calls a;
      })

  address_is : AddressIs p l task layout
  address_is = record { private = private; left = left; each = each }
    where
      seen : (v home copy : ℕ) (width : ScalarWidth) → slice_get l.variables v ≡ Some (Scalar home copy width)
          → slice_get (places_seen (some_path_writes p.functions task.body) 0 l.variables) v ≡ Some (Scalar home copy width)
      seen v home copy width e = scalar_seen (some_path_writes p.functions task.body) l.variables v home copy width e

      each : (v home copy : ℕ) (width : ScalarWidth) → slice_get l.variables v ≡ Some (Scalar home copy width) → is_private_in p.functions task.body v ≡ true
          → Contains layout.privates (record { number = v; home = home; copy = copy; width = width })
      each v home copy width e a =
          let i = entry_of_private v home copy width e a in
          let s = i.1 in
          let number : s.number ≡ v = i.3 in
          let both : Some (Scalar s.home s.copy s.width) ≡ Some (Scalar home copy width) =
          sym (place_is i.0 s i.2).place ∙ ap (slice_get l.variables) number ∙ e in
          let its_home : s.home ≡ home = cc in
          let its_copy : s.copy ≡ copy = cc in
          let its_width : s.width ≡ width = cc in
          let same : s ≡ record { number = v; home = home; copy = copy; width = width } =
          λ j. record { number = number j; home = its_home j; copy = its_copy j; width = its_width j } in
          contains_at layout.privates i.0 _ (i.2 ∙ ap (λ (x : PrivateScalar). Some x) same)

      private : (v home copy : ℕ) (width : ScalarWidth) → slice_get l.variables v ≡ Some (Scalar home copy width) → is_private_in p.functions task.body v ≡ true
          → address_of (task_places p l task layout) v ≡ copy
      private v home copy width e a =
          let i = entry_of_private v home copy width e a in
          let c = among_found layout.privates i.0 i.1 v i.2 i.3 in
          let its = among_is l.variables layout.privates v c.0 mine.places c.1 in
          let both : Some (Scalar its.0 c.0 its.1) ≡ Some (Scalar home copy width) = sym its.2 ∙ e in
          let same : c.0 ≡ copy = cc in
          ap (λ o. copy_else o (home_of (map_seen p.functions task.body l).variables v)) c.1 ∙ same

      left : (v home copy : ℕ) (width : ScalarWidth) → slice_get l.variables v ≡ Some (Scalar home copy width) → is_private_in p.functions task.body v ≡ false
          → address_of (task_places p l task layout) v ≡ home
      left v home copy width e a = by (copy_among layout.privates v) refl
        where
          by : (o : Option ℕ) → copy_among layout.privates v ≡ o → copy_else o (home_of (map_seen p.functions task.body l).variables v) ≡ home
          by (Some c) f =
              let i = among_member layout.privates v c f in
              let no : is_private_in p.functions task.body v ≡ true =
              subst (λ x. is_private_in p.functions task.body x ≡ true) i.3
              (is_private_of (Shared i.1.number) p.functions mine.callable task.body mine.calls (private_is_one i.0 i.1 i.2).owed) in
              let clash : true ≡ false = sym no ∙ a in cc
          by None f = ap home_in (seen v home copy width e)

pub tasks_match : TasksMatch
tasks_match p allow plans l h t task layout k = task_matches p allow plans l h t task layout k

pub addresses_are : AddressesAre
addresses_are p allow plans l h t task layout k = address_is p allow plans l h t task layout k
