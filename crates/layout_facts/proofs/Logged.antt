-- What the undo runtime's start lists of a task: the words of its private scalars.
use Rattle.layout_facts.proofs.Names.{◌≡◌, ℕ, zero, suc, ◌+◌, ◌*◌, ◌<◌, ◌≤◌, ◌⊎◌, inl, inr, true, false, List, [], ◌∷◌, ◌++◌, length, map, refl, sym, ap, ◌∙◌}
use Rattle.layout_facts.proofs.Names.{arith, subst, Some, slice_get, option_map, slice_get-map, get_or_from_slice_get, cases_lt, All, All-head, All-tail}
use Rattle.layout_facts.proofs.Names.{Allow, CheckedProgram, CheckedTask, TaskPlanValue, element, body_of, task_body, is_private_in, program_places}
use Rattle.layout_facts.proofs.Names.{IsSharedWord}
use Rattle.layout_facts.proofs.Names.{HasLayout, IsTaskAt, PrivateScalar, MemoryMap, TaskPlace, scalar_words, HasItsPlace, scalar_home}
use Rattle.std.proofs.Common.{zero-le}
use Rattle.std.proofs.lemmas.List.Elements.{All-nil, All-cons, All-append}
use Rattle.cost_bound.specs.Summaries.{summaries}
use Rattle.cost_bound.specs.Allowance.{list_of, scalars_of}
use Rattle.memory_map.specs.Spots.{private_words}
use Rattle.undo_runtime.specs.Entries.{words_from, home_words, homes_in, task_of, logged_tasks}
use Rattle.undo_runtime.specs.Listing.{LoggedTask, privates_in}
use Rattle.undo_runtime.proofs.Interface.{homes_count}
use Rattle.undo_states.specs.States.{AreLogged}
use Rattle.compiled_model.specs.Parts.{private_homes}
use Rattle.layout_facts.specs.Laws.{PrivatesAreLogged}
use Rattle.layout_facts.proofs.Homes.{words_of_variables_are_shared}
use Rattle.layout_facts.proofs.Privates.{not_in_place, privates_of, private_numbers}

module _ (p : CheckedProgram) (allow : Allow) (plans : List TaskPlanValue) (l : MemoryMap) (h : HasLayout p allow plans l) (t : ℕ) where
  -- a shared word that the task doesn't write in place
  abbrev IsHome : ℕ → Type 0
  IsHome a = IsSharedWord (program_places p l) a × ((program_places p l).written_in_place t a ≡ false)

  abbrev IsPrivate : PrivateScalar → Type 0
  IsPrivate s = is_private_in p.functions (task_body p t) s.number ≡ true

  -- so many words of a private scalar, from one of them on
  words_are : (s : PrivateScalar) → HasItsPlace l.variables s → IsPrivate s → (n i : ℕ) → i + n ≡ scalar_words s.width
      → All IsHome (words_from n (2 * i + s.home))
  words_are s place private zero i count = All-nil IsHome
  words_are s place private (suc n) i count =
      let below : i < scalar_words s.width = omega (arith, count) in
      let next : 2 * suc i + s.home ≡ 2 * i + s.home + 2 = omega arith in
      All-cons IsHome (2 * i + s.home) (words_from n (2 * i + s.home + 2)) (
        words_of_variables_are_shared p allow plans l h s.number i (2 * i + s.home) (scalar_home l s.number s.home s.copy s.width i place.place below),
        not_in_place p allow plans l h t s i place below private,
      ) (subst (λ a. All IsHome (words_from n a)) next (words_are s place private n (suc i) (omega (arith, count))))

  scalar_words_are : (s : PrivateScalar) → HasItsPlace l.variables s → IsPrivate s → All IsHome (home_words s)
  scalar_words_are s place private =
      let first : 2 * 0 + s.home ≡ s.home = omega arith in
      subst (λ a. All IsHome (words_from (scalar_words s.width) a)) first (words_are s place private (scalar_words s.width) 0 (omega arith))

  homes_are : (xs : List PrivateScalar) → All (HasItsPlace l.variables) xs → All IsPrivate xs → All IsHome (homes_in xs)
  homes_are [] places private = All-nil IsHome
  homes_are (s ∷ xs) places private =
      All-append IsHome (home_words s) (homes_in xs)
      (scalar_words_are s (All-head (HasItsPlace l.variables) s xs places) (All-head IsPrivate s xs private))
      (homes_are xs (All-tail (HasItsPlace l.variables) s xs places) (All-tail IsPrivate s xs private))

  of_task : (task : CheckedTask) (layout : TaskPlace) → slice_get p.tasks t ≡ Some task → slice_get l.tasks t ≡ Some layout
      → AreLogged (program_places p l) t (homes_in layout.privates)
  of_task task layout at at_layout =
      let k = privates_of p allow plans l h t task layout (record { is_task = at; is_layout = at_layout }) in
      let body = ap body_of at in
      let count = homes_count layout.privates in
      let few = h.few t task layout at at_layout in
      let same = ap (scalars_of (summaries p) p.shared) body in
      record {
        each = homes_are layout.privates k.places
            (subst (λ b. All (λ s. is_private_in p.functions b s.number ≡ true) layout.privates) (sym body) (private_numbers p l task layout k));
        few = omega (arith, count, few, same);
      }

-- the words of a task by its number, and that there are none beyond
pub homes_at : (l : MemoryMap) (t : ℕ) (layout : TaskPlace) → slice_get l.tasks t ≡ Some layout → private_homes l t ≡ homes_in layout.privates
homes_at l t layout e =
    let at : slice_get (logged_tasks l) t ≡ Some (task_of layout) = slice_get-map task_of l.tasks t ∙ ap (option_map task_of) e in
    ap (λ (x : LoggedTask). x.privates) (get_or_from_slice_get (logged_tasks l) t (task_of layout) (record { privates = []; code = 0 }) at)

homes_beyond : (l : MemoryMap) (t : ℕ) → length l.tasks ≤ t → private_homes l t ≡ []
homes_beyond l t h = beyond l.tasks t h
  where
    beyond : (ts : List TaskPlace) (n : ℕ) → length ts ≤ n → privates_in (map task_of ts) n ≡ []
    beyond [] n h = refl
    beyond (x ∷ ts) zero h = absurd (omega (arith, h))
    beyond (x ∷ ts) (suc n) h = beyond ts n (omega (arith, h))

pub privates_are_logged : PrivatesAreLogged
privates_are_logged p allow plans l h t = pick (cases_lt t (length l.tasks))
  where
    there : t < length l.tasks → AreLogged (program_places p l) t (private_homes l t)
    there lt =
        let count = h.layout.tasks.count in
        let layout = element l.tasks t lt in
        let task = element p.tasks t (omega (arith, lt, count)) in
        subst (AreLogged (program_places p l) t) (sym (homes_at l t layout.0 layout.1)) (of_task p allow plans l h t task.0 layout.0 task.1 layout.1)

    pick : (t < length l.tasks) ⊎ (length l.tasks ≤ t) → AreLogged (program_places p l) t (private_homes l t)
    pick (inl lt) = there lt
    pick (inr ge) =
        subst (AreLogged (program_places p l) t) (sym (homes_beyond l t ge)) (record { each = All-nil (IsHome p allow plans l h t); few = zero-le })
