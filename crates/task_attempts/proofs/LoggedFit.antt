-- The places of a task under undo: its scalars where they stand, each listed by the start or written in place, and its elements with their version words.
use Rattle.std.proofs.Common.{◌≡◌, ℕ, zero, suc, ◌+◌, ◌*◌, ◌<◌, ◌⊎◌, ⊎_elim, inl, inr, true, false, not, List, [], ◌∷◌, ◌++◌, length, map, sym}
use Rattle.std.proofs.Common.{ap, ◌∙◌}
use Rattle.std.proofs.Common.{subst, arith, get_or, Some, slice_get}
use Rattle.std.specs.Prelude.{Contains}
use Rattle.std.proofs.lemmas.Bool.{cases_Bool}
use Rattle.std.proofs.lemmas.List.Elements.{All-nil}
use Rattle.std.proofs.lemmas.Option.{slice_get_within}
use Rattle.task_attempts.proofs.Names.{and_from, is_private_in, stays_in_place, scalar_of_seen, scalar_place, words_scalar, IsPlaceOfScalar, scalar_home}
use Rattle.task_attempts.proofs.Names.{scalar_is}
use Rattle.task_attempts.proofs.Names.{words_of_variables_are_shared, addresses_are, elements_stand, task_body, body_of, emits_of, list_of, CheckedTask}
use Rattle.task_attempts.proofs.Names.{words_at}
use Rattle.cost_bound.specs.Summaries.{summaries}
use Rattle.cost_bound.specs.declared.allowance.Allow.{Allow}
use Rattle.war_analysis.specs.PlanValue.{TaskPlanValue}
use Rattle.source_values.specs.Runs.{CheckedProgram, State}
use Rattle.task_ast.specs.Paths.{CheckedBlock}
use Rattle.memory_map.specs.declared.place.PrivateScalar.{PrivateScalar}
use Rattle.memory_map.specs.declared.runtime.Logging.TheVariants.{Undo}
use Rattle.memory_map.specs.declared.place.VariablePlace.TheVariants.{Scalar}
use Rattle.memory_map.specs.MemoryMap.{MemoryMap, TaskPlace}
use Rattle.memory_map.specs.Places.{scalar_words, HasItsPlace}
use Rattle.memory_map.specs.Spots.{Places, places_of, home_in, scalar_address, IsScalarWord, Element, IsElement, IsCopied, element_address}
use Rattle.memory_map.specs.Spots.{version_address}
use Rattle.memory_map.specs.Spots.{SpotsStand, version}
use Rattle.memory_map.proofs.Interface.{spots_are_apart}
use Rattle.lower.specs.Seen.{some_path_writes, map_seen, task_seen}
use Rattle.lower.proofs.Interface.{seen_laid_out}
use Rattle.stands_for.specs.Layout.{IsSharedWord}
use Rattle.undo_effects.specs.Entries.{IsLogged}
use Rattle.undo_states.specs.States.{entry_at}
use Rattle.stands_for.specs.Layout.{StateView}
use Rattle.undo_runtime.specs.Entries.{words_from, home_words, homes_in}
use Rattle.undo_states.proofs.Interface.{ArePairs}
use Rattle.compiled_model.specs.Places.{program_places}
use Rattle.compiled_model.specs.Parts.{private_homes}
use Rattle.layout_facts.specs.Facts.{HasLayout, IsTaskAt, task_room, task_places}
use Rattle.layout_facts.proofs.Interface.{tasks_have_room, homes_at}
use Rattle.task_attempts.proofs.LoggedActs.{IsPair, ActsFit}

-- ---- the words that a start lists

-- one of these words
abbrev pub IsOwn : List ℕ → ℕ → Type 0
IsOwn [] a = ⊥
IsOwn (x ∷ xs) a = (a ≡ x) ⊎ IsOwn xs a

-- what is listed at the start has an entry of each
pub own_logged : {St : Type 0} (v : StateView St) (s : St) (xs : List ℕ) (a : ℕ) → IsOwn xs a → IsLogged (map (entry_at v s) xs) a
own_logged v s [] a h = h
own_logged v s (x ∷ xs) a h = ⊎_elim {C = IsLogged (map (entry_at v s) (x ∷ xs)) a} (λ e. inl e) (λ k. inr (own_logged v s xs a k)) h

own_front : (xs ys : List ℕ) (a : ℕ) → IsOwn xs a → IsOwn (xs ++ ys) a
own_front [] ys a h = absurd h
own_front (x ∷ xs) ys a h = ⊎_elim {C = IsOwn ((x ∷ xs) ++ ys) a} (λ e. inl e) (λ k. inr (own_front xs ys a k)) h

own_back : (xs ys : List ℕ) (a : ℕ) → IsOwn ys a → IsOwn (xs ++ ys) a
own_back [] ys a h = h
own_back (x ∷ xs) ys a h = inr (own_back xs ys a h)

-- the words of a scalar
word_own : (n a i : ℕ) → i < n → IsOwn (words_from n a) (2 * i + a)
word_own zero a i h = absurd (omega (arith, h))
word_own (suc n) a zero h = inl (omega arith)
word_own (suc n) a (suc i) h =
    let there : 2 * i + (a + 2) ≡ 2 * suc i + a = omega arith in
    inr (subst (λ b. IsOwn (words_from n (a + 2)) b) there (word_own n (a + 2) i (omega (arith, h))))

-- those of private scalars
pub scalar_own : (xs : List PrivateScalar) (s : PrivateScalar) (i : ℕ) → Contains xs s → i < scalar_words s.width → IsOwn (homes_in xs) (2 * i + s.home)
scalar_own xs s i h below = go xs h.0 h.1 h.2
  where
    go : (xs : List PrivateScalar) (k : ℕ) → k < length xs → get_or xs k s ≡ s → IsOwn (homes_in xs) (2 * i + s.home)
    go [] k l e = absurd (omega (arith, l))
    go (u ∷ more) zero l e =
        own_front (home_words u) (homes_in more) (2 * i + s.home)
        (subst (λ (x : PrivateScalar). IsOwn (home_words x) (2 * i + s.home)) (sym e) (word_own (scalar_words s.width) s.home i below))
    go (u ∷ more) (suc k) l e = own_back (home_words u) (homes_in more) (2 * i + s.home) (go more k (omega (arith, l)) e)

-- ---- a task of a source with its layout

module _ (p : CheckedProgram) (allow : Allow) (plans : List TaskPlanValue) (l : MemoryMap) (h : HasLayout p allow plans l) (s : State) (task : CheckedTask)
    (layout : TaskPlace) (at : IsTaskAt p l s.task task layout) where
  abbrev code : CheckedBlock
  code = task.body

  -- what it works on
  abbrev pub undo_places : Places
  undo_places = places_of (map_seen p.functions code l) (task_seen Undo layout)

  abbrev here : Places
  here = undo_places

  abbrev Own : ℕ → Type 0
  Own a = IsOwn (private_homes l s.task) a

  body_is : task_body p s.task ≡ code
  body_is = ap body_of at.is_task

  -- a word of a scalar
  module _ (v i : ℕ) (word : IsScalarWord here v i) (written : some_path_writes p.functions code v ≡ true) where
    its : IsPlaceOfScalar (slice_get (map_seen p.functions code l).variables v)
    its = scalar_place (slice_get (map_seen p.functions code l).variables v) (words_scalar (slice_get (map_seen p.functions code l).variables v) i word)

    below : i < scalar_words its.width
    below = subst (λ k. i < k) (ap words_at its.place) word

    in_map : slice_get l.variables v ≡ Some (Scalar its.home its.copy its.width)
    in_map = scalar_of_seen p.functions code l v its.home its.copy its.width its.place

    address_is : scalar_address here v i ≡ 2 * i + its.home
    address_is = ap (λ o. 2 * i + home_in o) its.place

    is_shared : IsSharedWord (program_places p l) (2 * i + its.home)
    is_shared =
        words_of_variables_are_shared p allow plans l h v i (2 * i + its.home) (scalar_home l v its.home its.copy its.width i in_map below)

    listed : is_private_in p.functions code v ≡ true → Own (2 * i + its.home)
    listed is =
        let a = addresses_are p allow plans l h s.task task layout at in
        let entry : PrivateScalar = record { number = v; home = its.home; copy = its.copy; width = its.width } in
        subst (λ xs. IsOwn xs (2 * i + its.home)) (sym (homes_at l s.task layout at.is_layout))
        (scalar_own layout.privates entry i (a.each v its.home its.copy its.width in_map is) below)

    in_place : is_private_in p.functions code v ≡ false → (program_places p l).written_in_place s.task (2 * i + its.home) ≡ true
    in_place not_private =
        let stays : stays_in_place p.functions code v ≡ true =
        and_from (some_path_writes p.functions code v) (not (is_private_in p.functions code v)) written (ap not not_private) in
        let number : v ≡ 0 + v = omega arith in
        scalar_is (stays_in_place p.functions (task_body p s.task)) 0 l.variables v its.home its.copy its.width i in_map below
        (sym (ap (stays_in_place p.functions (task_body p s.task)) number) ∙ ap (λ b. stays_in_place p.functions b v) body_is ∙ stays)

    scalar_fits : IsSharedWord (program_places p l) (scalar_address here v i)
        × (Own (scalar_address here v i) ⊎ ((program_places p l).written_in_place s.task (scalar_address here v i) ≡ true))
    scalar_fits =
        let Fits : ℕ → Type 0 = λ a. IsSharedWord (program_places p l) a × (Own a ⊎ ((program_places p l).written_in_place s.task a ≡ true)) in
        subst Fits (sym address_is) (is_shared, ⊎_elim (λ is. inl (listed is)) (λ is. inr (in_place is)) (cases_Bool (is_private_in p.functions code v)))

  -- elements, as the task's places under redo have them
  as_redo : (x : Element) → IsCopied here x → IsCopied (task_places p l task layout) x
  as_redo x c = record { elements = c.elements; length = c.length; copies = c.copies; is_array = record { place = c.is_array.place }; below = c.below }

  an_element : (x : Element) → IsCopied here x → IsElement (task_places p l task layout) x
  an_element x c = record { elements = c.elements; length = c.length; copies = Some c.copies; is_array = record { place = c.is_array.place }; below = c.below }

  spots : SpotsStand here
  spots =
      spots_are_apart (map_seen p.functions code l) (task_seen Undo layout) (seen_laid_out (some_path_writes p.functions code) l h.layout.rules)
      (All-nil (HasItsPlace (map_seen p.functions code l).variables))

  same_element : (x y : Element) → IsCopied here x → IsCopied here y → version_address here x ≡ version_address here y → x ≡ y
  same_element x y c d e =
      let same : version x ≡ version y = spots.distinct (version x) (version y) c d e in cc

  are_pairs : ArePairs (program_places p l) (IsPair here)
  are_pairs =
      let e = elements_stand p allow plans l h s.task task layout at in
      record {
        shared = λ element number k. subst (IsSharedWord (program_places p l)) (sym k.at)
            (words_of_variables_are_shared p allow plans l h k.item.array k.item.index (element_address here k.item)
            (e.word k.item (an_element k.item k.copied)));
        index = λ element number k. (e.version k.item (as_redo k.item k.copied)).0;
        below = λ element number k. (e.version k.item (as_redo k.item k.copied)).1;
        is = λ element number k. k.version_at ∙ (e.version k.item (as_redo k.item k.copied)).2;
        one = λ element other number k q.
            let same = same_element k.item q.item k.copied q.copied (sym k.version_at ∙ q.version_at) in
            k.at ∙ ap (element_address here) same ∙ sym q.at;
      }

  pub acts_fit : ActsFit p l s here (some_path_writes p.functions code) (task_room p task) Own
  acts_fit =
      let room = tasks_have_room p allow plans l h in
      let emits = ap (emits_of (summaries p)) body_is in let lists = ap (list_of (summaries p) p.shared) body_is in
      let few = room.emits s.task (slice_get_within p.tasks s.task task at.is_task) in
      record {
        scalars = scalar_fits;
        pairs = are_pairs;
        emits = omega (arith, emits, few);
        list = omega (arith, lists);
      }
