-- The private scalars of tasks.
use Rattle.layout_facts.proofs.Names.{◌≡◌, ℕ, zero, suc, ◌+◌, ◌*◌, ◌<◌, ◌≤◌, ◌⊎◌, inl, inr, List, [], ◌∷◌, ◌++◌, length, map, arith, ap, subst, sym, ◌∙◌, Some}
use Rattle.layout_facts.proofs.Names.{refl, true, false, ⊎_elim, slice_get, All, AllPairs, get_or, flat_map, option_map, length-map, get_or-map, cases_lt}
use Rattle.layout_facts.proofs.Names.{cases_Bool, All-head, All-tail, slice_get-map, slice_get_within, get_or_from_slice_get, Allow, CheckedProgram}
use Rattle.layout_facts.proofs.Names.{CheckedTask, TaskPlanValue, IsTaskPlan, element, CopyPair, run_pairs, scalar_pairs, IsSharedWord, IsCopyWord, IsAmong}
use Rattle.layout_facts.proofs.Names.{AreCallable, ArePrivate, Shared, body_of, task_body, is_private_of, is_private_in, stays_in_place, program_places}
use Rattle.layout_facts.proofs.Names.{HasLayout, IsTaskAt}
use Rattle.layout_facts.proofs.Names.{PrivatesAreTheirs, ScalarsStand, PrivateScalar, ScalarWidth, OneWord, TwoWords, MemoryMap, TaskPlace, scalar_words}
use Rattle.layout_facts.proofs.Names.{HasItsPlace, copy_regions, IsLaidOut, IsIn, within, before, copies_row, scalar_copy, scalar_home}
use Rattle.runtime_code.specs.LayoutPlaces.{pairs_of}
use Rattle.boot_runtime.specs.Entries.{entry_of, task_entries}
use Rattle.boot_runtime.specs.Listing.{TaskEntry, privates_in}
use Rattle.layout_facts.proofs.Homes.{words_of_variables_are_shared, each_is_one_word}
use Rattle.task_ast.specs.Calls.{BlockCallsBelow}
use Rattle.layout_facts.proofs.InPlace.{scalar_found, found_word, in_place_not_private, calls_known, callable}
use Rattle.layout_facts.proofs.Pairs.{among_scalars}

-- ---- a scalar and its copy

pub copy_is : (p : CheckedProgram) (l : MemoryMap) → IsLaidOut l → (v i a : ℕ) → IsIn copy_regions l.variables v i a → IsCopyWord (program_places p l) a
copy_is p l h v i a c =
    let b = within (copies_row l h) v i a c in
    let end = b.end in
    record { even = b.even; from = b.from; below = omega (arith, end) }

pub scalars_stand : ScalarsStand
scalars_stand p allow plans l h v home copy width e = record {
  is_word = λ i below. scalar_home l v home copy width i e below;
  is_copy = λ i below. copy_is p l h.layout.rules v i (2 * i + copy) (scalar_copy l v home copy width i e below);
}

-- ---- the private scalars of a task

-- a task's plan
pub plan_at : (p : CheckedProgram) (plans : List TaskPlanValue) (t : ℕ) (task : CheckedTask) → length plans ≡ length p.tasks → slice_get p.tasks t ≡ Some task
    → (plan : TaskPlanValue) × (slice_get plans t ≡ Some plan)
plan_at p plans t task count e = let lt = slice_get_within p.tasks t task e in element plans t (omega (arith, lt, count))

-- numbers in ascending order: the first is below each of the others
first_below : (s : PrivateScalar) (xs : List PrivateScalar) (k : ℕ) (q : PrivateScalar) → AllPairs ◌<◌ (map (λ s. s.number) (s ∷ xs)) → slice_get xs k ≡ Some q
    → s.number < q.number
first_below s xs k q h e =
    let at : slice_get (map (λ (s : PrivateScalar). s.number) xs) k ≡ Some q.number =
    slice_get-map (λ (s : PrivateScalar). s.number) xs k ∙ ap (option_map (λ (s : PrivateScalar). s.number)) e in
    let lt : k < length (map (λ (s : PrivateScalar). s.number) xs) = slice_get_within _ k q.number at in
    let is : get_or (map (λ (s : PrivateScalar). s.number) xs) k 0 ≡ q.number = get_or_from_slice_get _ k q.number 0 at in
    subst (λ n. s.number < n) is (h 0 (suc k) 0 (omega arith) (omega (arith, lt)))

others_ascend : (s : PrivateScalar) (xs : List PrivateScalar) → AllPairs ◌<◌ (map (λ s. s.number) (s ∷ xs)) → AllPairs ◌<◌ (map (λ s. s.number) xs)
others_ascend s xs h i j d lt k = h (suc i) (suc j) d (omega arith) (omega arith)

-- no word of the copy of a scalar is one of a later scalar's copy
copies_differ : (l : MemoryMap) → IsLaidOut l → (s q : PrivateScalar) (i j : ℕ) → HasItsPlace l.variables s → HasItsPlace l.variables q
    → s.number < q.number → i < scalar_words s.width → j < scalar_words q.width
    → 2 * i + s.copy ≡ 2 * j + q.copy → ⊥
copies_differ l h s q i j a b lt is js e =
    before (copies_row l h) s.number q.number i j (2 * j + q.copy) lt
    (subst (λ c. IsIn copy_regions l.variables s.number i c) e (scalar_copy l s.number s.home s.copy s.width i a.place is))
    (scalar_copy l q.number q.home q.copy q.width j b.place js)

-- a private scalar isn't written in place
pub not_in_place : (p : CheckedProgram) (allow : Allow) (plans : List TaskPlanValue) (l : MemoryMap) → HasLayout p allow plans l → (t : ℕ) (s : PrivateScalar)
    (i : ℕ)
    → HasItsPlace l.variables s → i < scalar_words s.width → is_private_in p.functions (task_body p t) s.number ≡ true
    → (program_places p l).written_in_place t (2 * i + s.home) ≡ false
not_in_place p allow plans l h t s i place below private = ⊎_elim written (λ e. e) (cases_Bool ((program_places p l).written_in_place t a))
  where
    a : ℕ
    a = 2 * i + s.home

    written : (program_places p l).written_in_place t a ≡ true → (program_places p l).written_in_place t a ≡ false
    written w =
        let at = scalar_found (stays_in_place p.functions (task_body p t)) 0 l.variables a w in
        let word = found_word (stays_in_place p.functions (task_body p t)) 0 l a at in
        let same = each_is_one_word p allow plans l h at.behind s.number at.index i a word
        (scalar_home l s.number s.home s.copy s.width i place.place below) in
        let number : 0 + at.behind ≡ s.number = let e = same.0 in omega (arith, e) in
        let other = in_place_not_private p.functions (task_body p t) s.number (sym (ap (stays_in_place p.functions (task_body p t)) number) ∙ at.is_so) in
        let clash : true ≡ false = sym private ∙ other in absurd (cc)

-- a shared word that a task doesn't write in place, and a copy
record IsOwn (p : CheckedProgram) (l : MemoryMap) (t home copy : ℕ) : Type 0 where
  pub word : IsSharedWord (program_places p l) home
  pub not_in_place : (program_places p l).written_in_place t home ≡ false
  pub is_copy : IsCopyWord (program_places p l) copy

are_private : (p : CheckedProgram) (allow : Allow) (plans : List TaskPlanValue) (l : MemoryMap) → HasLayout p allow plans l
    → (t : ℕ) (xs : List PrivateScalar)
    → AllPairs ◌<◌ (map (λ s. s.number) xs) → All (HasItsPlace l.variables) xs → All (λ s. is_private_in p.functions (task_body p t) s.number ≡ true) xs
    → ArePrivate (program_places p l) t (flat_map scalar_pairs xs)
are_private p allow plans l h t [] ascending places private = tt
are_private p allow plans l h t (s ∷ xs) ascending places private =
    by s.width refl (are_private p allow plans l h t xs (others_ascend s xs ascending) behind
    (All-tail (λ s. is_private_in p.functions (task_body p t) s.number ≡ true) s xs private))
  where
    here : HasItsPlace l.variables s
    here = All-head (HasItsPlace l.variables) s xs places

    behind : All (HasItsPlace l.variables) xs
    behind = All-tail (HasItsPlace l.variables) s xs places

    rest : List CopyPair
    rest = flat_map scalar_pairs xs

    own : (i home copy : ℕ) → i < scalar_words s.width → home ≡ 2 * i + s.home → copy ≡ 2 * i + s.copy → IsOwn p l t home copy
    own i home copy below e f =
        let its = All-head (λ s. is_private_in p.functions (task_body p t) s.number ≡ true) s xs private in
        subst (λ a. IsOwn p l t a copy) (sym e) (subst (IsOwn p l t (2 * i + s.home)) (sym f) (record {
          word = words_of_variables_are_shared p allow plans l h s.number i (2 * i + s.home)
              (scalar_home l s.number s.home s.copy s.width i here.place below);
          not_in_place = not_in_place p allow plans l h t s i here below its;
          is_copy = copy_is p l h.layout.rules s.number i (2 * i + s.copy) (scalar_copy l s.number s.home s.copy s.width i here.place below);
        }))

    other : (i copy : ℕ) → i < scalar_words s.width → copy ≡ 2 * i + s.copy → (q : CopyPair) → IsAmong rest q → copy ≡ q.copy → ⊥
    other i copy below f q a e =
        let r = among_scalars xs q a in
        let its = subst (HasItsPlace l.variables) (get_or_from_slice_get xs r.number r.scalar r.scalar r.at)
        (behind r.number r.scalar (slice_get_within xs r.number r.scalar r.at)) in
        copies_differ l h.layout.rules s r.scalar i r.pair.index here its (first_below s xs r.number r.scalar ascending r.at) below r.pair.below
        (sym f ∙ e ∙ ap (λ (x : CopyPair). x.copy) r.pair.is)

    by : (w : ScalarWidth) → s.width ≡ w → ArePrivate (program_places p l) t rest
        → ArePrivate (program_places p l) t (run_pairs (scalar_words w) s.home s.copy ++ rest)
    by OneWord e others =
        let wide : scalar_words s.width ≡ 1 = ap scalar_words e in
        let one = own 0 s.home s.copy (omega (arith, wide)) (omega arith) (omega arith) in
        (one.word, one.not_in_place, one.is_copy, other 0 s.copy (omega (arith, wide)) (omega arith), others)
    by TwoWords e others =
        let wide : scalar_words s.width ≡ 2 = ap scalar_words e in
        let low = own 0 s.home s.copy (omega (arith, wide)) (omega arith) (omega arith) in
        let high = own 1 (s.home + 2) (s.copy + 2) (omega (arith, wide)) (omega arith) (omega arith) in
        let high_differs : (q : CopyPair) → (q ≡ record { home = s.home + 2; copy = s.copy + 2 }) ⊎ IsAmong rest q → s.copy ≡ q.copy → ⊥ =
        λ q a c. ⊎_elim {C = ⊥} (λ same. let d = ap (λ (x : CopyPair). x.copy) same in omega (arith, c, d))
        (λ k. other 0 s.copy (omega (arith, wide)) (omega arith) q k c) a in (
          low.word,
          low.not_in_place,
          low.is_copy,
          high_differs,
          (high.word, high.not_in_place, high.is_copy, other 1 (s.copy + 2) (omega (arith, wide)) (omega arith), others),
        )

-- what the plan and the layout say of a task's private scalars
pub record Privates (p : CheckedProgram) (l : MemoryMap) (task : CheckedTask) (layout : TaskPlace) : Type 0 where
  pub plan : TaskPlanValue
  pub is_plan : IsTaskPlan p.functions p.shared task.body plan
  pub callable : AreCallable p.functions
  pub calls : BlockCallsBelow (length p.functions) task.body
  pub numbers : map (λ s. s.number) layout.privates ≡ plan.private_scalars
  pub places : All (HasItsPlace l.variables) layout.privates

pub privates_of : (p : CheckedProgram) (allow : Allow) (plans : List TaskPlanValue) (l : MemoryMap) → HasLayout p allow plans l
    → (t : ℕ) (task : CheckedTask) (layout : TaskPlace) → IsTaskAt p l t task layout → Privates p l task layout
privates_of p allow plans l h t task layout k =
    let plan = plan_at p plans t task h.plan.count k.is_task in
    let is = get_or_from_slice_get l.tasks t layout layout k.is_layout in
    record {
      plan = plan.0;
      is_plan = h.plan.each t task plan.0 k.is_task plan.1;
      callable = callable p allow plans l h;
      calls = subst (λ o. BlockCallsBelow (length p.functions) (body_of o)) k.is_task (calls_known p allow plans l h t);
      numbers = (h.layout.tasks.each t task plan.0 layout k.is_task plan.1 k.is_layout).privates;
      places =
          subst (λ (x : TaskPlace). All (HasItsPlace l.variables) x.privates) is
          (h.layout.rules.privates t layout (slice_get_within l.tasks t layout k.is_layout));
    }

pub ascending_numbers : (p : CheckedProgram) (l : MemoryMap) (task : CheckedTask) (layout : TaskPlace) → Privates p l task layout
    → AllPairs ◌<◌ (map (λ s. s.number) layout.privates)
ascending_numbers p l task layout k = subst (AllPairs ◌<◌) (sym k.numbers) k.is_plan.private_scalars.ascending

-- they are those that the paths make private
pub private_numbers : (p : CheckedProgram) (l : MemoryMap) (task : CheckedTask) (layout : TaskPlace) → Privates p l task layout
    → All (λ (s : PrivateScalar). is_private_in p.functions task.body s.number ≡ true) layout.privates
private_numbers p l task layout k i d lt =
    let count = ap length k.numbers in
    let inside : i < length k.plan.private_scalars = omega (arith, lt, count, length-map layout.privates (λ (s : PrivateScalar). s.number)) in
    let numbers : get_or k.plan.private_scalars i 0 ≡ (get_or layout.privates i d).number =
    ap (λ xs. get_or xs i 0) (sym k.numbers) ∙ get_or-map (λ (s : PrivateScalar). s.number) layout.privates i d 0 lt in
    let only = k.is_plan.private_scalars.only i 0 inside in
    subst (λ n. is_private_in p.functions task.body n ≡ true) numbers
    (is_private_of (Shared (get_or k.plan.private_scalars i 0)) p.functions k.callable task.body k.calls only.owed)

-- the entry of a number, and that there is none beyond
entry_is : (l : MemoryMap) (t : ℕ) (layout : TaskPlace) → slice_get l.tasks t ≡ Some layout
    → privates_in (task_entries l) t ≡ pairs_of layout
entry_is l t layout e =
    let at : slice_get (task_entries l) t ≡ Some (entry_of layout) = slice_get-map entry_of l.tasks t ∙ ap (option_map entry_of) e in
    ap (λ (x : TaskEntry). x.privates) (get_or_from_slice_get (task_entries l) t (entry_of layout) (record { privates = []; code = 0 }) at)

entry_beyond : (ts : List TaskPlace) (t : ℕ) → length ts ≤ t → privates_in (map entry_of ts) t ≡ []
entry_beyond [] t h = refl
entry_beyond (x ∷ ts) zero h = absurd (omega arith)
entry_beyond (x ∷ ts) (suc t) h = entry_beyond ts t (omega arith)

pub privates_are_theirs : PrivatesAreTheirs
privates_are_theirs p allow plans l h t = pick (cases_lt t (length l.tasks))
  where
    there : t < length l.tasks → ArePrivate (program_places p l) t (privates_in (task_entries l) t)
    there lt =
        let count = h.layout.tasks.count in
        let layout = element l.tasks t lt in
        let task = element p.tasks t (omega (arith, lt, count)) in
        let k = privates_of p allow plans l h t task.0 layout.0 (record { is_task = task.1; is_layout = layout.1 }) in
        subst (ArePrivate (program_places p l) t) (sym (entry_is l t layout.0 layout.1))
        (are_private p allow plans l h t layout.0.privates (ascending_numbers p l task.0 layout.0 k) k.places
        (subst (λ b. All (λ s. is_private_in p.functions b s.number ≡ true) layout.0.privates) (sym (ap body_of task.1))
        (private_numbers p l task.0 layout.0 k)))

    pick : (t < length l.tasks) ⊎ (length l.tasks ≤ t) → ArePrivate (program_places p l) t (privates_in (task_entries l) t)
    pick (inl lt) = there lt
    pick (inr ge) = subst (ArePrivate (program_places p l) t) (sym (entry_beyond l.tasks t ge)) tt
