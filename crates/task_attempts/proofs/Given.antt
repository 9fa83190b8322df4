-- What the proofs take of a source with its layout.
use Rattle.task_attempts.proofs.Names.{◌≡◌, ℕ, ◌+◌, ◌*◌, ◌<◌, ◌≤◌, true, false, List, [], Contains, length, Some, slice_get, slice_index, slice_index_or}
use Rattle.task_attempts.proofs.Names.{is_private_of, Shared, IsScalarIn, CheckedBlock, stores_of, CheckedTask, CheckedProgram, ScalarWidth, VariablePlace}
use Rattle.task_attempts.proofs.Names.{Scalar, PrivateScalar, MemoryMap, TaskPlace, end_of, scalar_words, HasItsPlace, AreVariables, task_entries, privates_in}
use Rattle.task_attempts.proofs.Names.{apart_of, IsSharedWord, IsCopyWord, HaveRoom, ArePrivate, places_of, address_of, Element, IsCopied, copy_address}
use Rattle.task_attempts.proofs.Names.{version_address, IsWordOf, AreApart, AreEven, HasRoom, some_path_writes, map_seen, place_length}
use Rattle.task_attempts.proofs.Names.{AsDeclared, HasCopies, is_private_in, program_places, shared_word, are_rows, HasLayout, IsTaskAt, task_room, task_places}
use Rattle.task_attempts.proofs.Names.{each_is_one_word, scalar_declared, places_are_declared, addresses_are, tasks_match, places_are_apart, tasks_have_room}
use Rattle.task_attempts.proofs.Names.{places_are_as_declared, written_arrays_have_copies, shared_words_are_of_variables, words_of_variables_are_shared}
use Rattle.task_attempts.proofs.Names.{AreListed, listed_of, list_of, scalars_of, elements_are_stores}
use Rattle.task_attempts.proofs.Names.{lists_have_room, privates_are_theirs, elements_stand, task_places_are_apart, task_places_are_even, view_has_their_words}
use Rattle.task_attempts.proofs.Names.{rows_fit_places, WellFormedBlock, AdmitsBlock, ap, tasks_are_admitted}
use Rattle.memory_map.specs.Laws as memory
use Rattle.cost_bound.specs.Summaries.{summaries}
use Rattle.cost_bound.specs.declared.allowance.Allow.{Allow}
use Rattle.war_analysis.specs.PlanValue.{TaskPlanValue}
use Rattle.source_values.specs.Running.{IsRunnable}
use Rattle.array_versions.specs.Form.{IsWhole, OfWords}
use Rattle.whole_programs.specs.Laws.{IsLaidOutText}
use Rattle.checked_trees.proofs.Interface.{task_checked, function_checked, all_of}
use Rattle.whole_programs.proofs.Interface.{tasks_are_whole, privates_are_few}
use Rattle.war_analysis.proofs.Interface.{each_returns}
use Rattle.task_attempts.proofs.Names.{redo_seen, Redo, Undo, subst, arith, ◌∙◌, emits_of, body_of, scalar_seen, slice_get_within, State, private_words}
use Rattle.std.proofs.lemmas.List.Elements.{All-weaker}
use Rattle.std.specs.Prelude.{All}
use Rattle.memory_map.specs.Spots.{SpotsStand, home_in}
use Rattle.memory_map.proofs.Interface.{spots_are_apart}
use Rattle.lower.specs.Seen.{task_seen}
use Rattle.lower.specs.Spots.{HasRoomBehind}
use Rattle.lower.proofs.Interface.{AreCallable, first_seen, functions_are_admitted, routines_seen, seen_all, seen_laid_out, privates_seen}
use Rattle.memory_map.specs.declared.place.RoutinePlace.{RoutinePlace}
use Rattle.task_ast.specs.Paths.{CheckedFunction}
use Rattle.checked_trees.proofs.Interface.{all_at}
use Rattle.undo_runtime.proofs.Interface.{homes_count}
use Rattle.undo_states.specs.States.{AreLogged}
use Rattle.compiled_model.specs.Parts.{private_homes}
use Rattle.layout_facts.proofs.Interface.{homes_at, privates_are_logged}
use Rattle.memory_map.specs.Spots.{IsScalarWord, scalar_address, words_at}
use Rattle.task_attempts.proofs.Names.{scalar_home, scalar_place, words_scalar, scalar_of_seen, sym, ⊎_elim, cases_Bool}
use Rattle.task_attempts.proofs.Tasks.{IsAt, own_program, private_copy}
use Rattle.task_attempts.proofs.LoggedActs.{ActsFit}
use Rattle.task_attempts.proofs.LoggedFit.{IsOwn, acts_fit}
use Rattle.task_attempts.proofs.Held.{scalar_block}
use Rattle.task_ast.specs.Calls.{BlockCallsBelow}
use Rattle.layout_facts.proofs.Interface.{calls_known, callable, locals_are_low}

-- rows have the places' lengths
abbrev pub FitPlaces : MemoryMap → List (List ℕ) → Type 0
FitPlaces l rows = (v : ℕ) (place : VariablePlace) → slice_get l.variables v ≡ Some place
    → (v < length rows) × (length (slice_index_or rows v []) ≡ place_length place)

-- the shared words are the words of the variables
pub record AreSharedWords (p : CheckedProgram) (l : MemoryMap) : Type 0 where
  pub each : (a : ℕ) → IsSharedWord (program_places p l) a → (v : ℕ) × (i : ℕ) × IsWordOf l v i a
  pub is_shared : (v i a : ℕ) → IsWordOf l v i a → IsSharedWord (program_places p l) a
  pub one : (v w i j a : ℕ) → IsWordOf l v i a → IsWordOf l w j a → (v ≡ w) × (i ≡ j)
  pub is_word : (rows : List (List ℕ)) (v i a : ℕ) → IsWordOf l v i a → shared_word l.variables rows a ≡ slice_index (slice_index_or rows v []) i
  pub fit : (rows : List (List ℕ)) → are_rows p.shared rows ≡ true → FitPlaces l rows

-- one of the version words
pub record IsVersionWord (l : MemoryMap) (a : ℕ) : Type 0 where
  pub number : ℕ
  pub below : number < l.versions.words
  pub is : a ≡ l.versions.address + 2 * number

-- of a scalar that is private in it a task has the copy, of each other scalar the words themselves
pub record ArePrivates (fs : List CheckedFunction) (l : MemoryMap) (body : CheckedBlock) (t : TaskPlace) : Type 0 where
  pub private : (v home copy : ℕ) (width : ScalarWidth) → slice_get l.variables v ≡ Some (Scalar home copy width) → is_private_in fs body v ≡ true
      → address_of (places_of (map_seen fs body l) t) v ≡ copy
  pub left : (v home copy : ℕ) (width : ScalarWidth) → slice_get l.variables v ≡ Some (Scalar home copy width) → is_private_in fs body v ≡ false
      → address_of (places_of (map_seen fs body l) t) v ≡ home
  pub each : (v home copy : ℕ) (width : ScalarWidth) → slice_get l.variables v ≡ Some (Scalar home copy width) → is_private_in fs body v ≡ true
      → Contains t.privates (record { number = v; home = home; copy = copy; width = width })
  pub only : (s : PrivateScalar) → Contains t.privates s → (is_private_in fs body s.number ≡ true) × HasItsPlace l.variables s

-- what is asked of a task by the place that is its own, under each runtime: its places are apart, even, and as declared; it is
-- well-formed, scalars are given all their words, as in the functions; their locals have numbers of a word; and its word program is whole, and of words
pub record IsTaskSeen (p : CheckedProgram) (l : MemoryMap) (task : CheckedTask) (own : TaskPlace) : Type 0 where
  pub apart : AreApart (task_places p l task own) (task_room p task)
  pub even : AreEven (task_places p l task own)
  pub variables : (v i : ℕ) → IsScalarWord (task_places p l task own) v i → scalar_address (task_places p l task own) v i < end_of l.copies
  pub copies : (x : Element) → IsCopied (task_places p l task own) x → IsCopyWord (program_places p l) (copy_address (task_places p l task own) x)
  pub versions : (x : Element) → IsCopied (task_places p l task own) x → IsVersionWord l (version_address (task_places p l task own) x)
  pub declared : AsDeclared p.shared (task_places p l task own)
  pub copied : HasCopies p.shared (task_places p l task own) (some_path_writes p.functions task.body)
  pub formed : WellFormedBlock p.shared task.body
  pub bodies : All (λ (f : CheckedFunction). WellFormedBlock p.shared f.body) p.functions
  pub callable : AreCallable p.functions
  pub calls : BlockCallsBelow (length p.functions) task.body
  pub admits : AdmitsBlock l.runtime.events task.body
  pub admitted : All (λ (f : CheckedFunction). AdmitsBlock l.runtime.events f.body) p.functions
  pub own_low : own.first + 256 ≤ 65536
  pub low : All (λ (r : RoutinePlace). r.first + 256 ≤ 65536) own.routines
  pub scalars : (v home copy : ℕ) (width : ScalarWidth) → slice_get l.variables v ≡ Some (Scalar home copy width)
      → IsScalarIn v (scalar_words width) task.body × All (λ (f : CheckedFunction). IsScalarIn v (scalar_words width) f.body) p.functions
  pub whole : IsWhole (own_program p l task own)
  pub of_words : OfWords (own_program p l task own)

-- under redo besides: there is room, and private scalars have their copies
pub record IsTaskGiven (p : CheckedProgram) (l : MemoryMap) (task : CheckedTask) (t : TaskPlace) : Type 0 where
  pub seen : IsTaskSeen p l task t
  pub redo : l.runtime.logging ≡ Redo
  pub has_room : HasRoom (task_places p l task t) (λ v. stores_of (summaries p) v task.body) (task_room p task)
  pub elements : (xs : List Element) → AreListed (task_places p l task t) xs → ((v : ℕ) → listed_of v xs ≤ stores_of (summaries p) v task.body)
      → length xs + scalars_of (summaries p) p.shared task.body ≤ list_of (summaries p) p.shared task.body
  pub privates : ArePrivates p.functions l task.body t

-- under undo: there is room behind the words that the start lists, and each scalar stands where it is
pub record IsTaskLogged (p : CheckedProgram) (l : MemoryMap) (k : ℕ) (task : CheckedTask) (t : TaskPlace) : Type 0 where
  pub seen : IsTaskSeen p l task (task_seen Undo t)
  pub has_room : HasRoomBehind (length (private_homes l k)) (task_places p l task (task_seen Undo t)) (λ v. stores_of (summaries p) v task.body)
      (task_room p task)
  pub home : (v home copy : ℕ) (width : ScalarWidth) → slice_get l.variables v ≡ Some (Scalar home copy width)
      → address_of (task_places p l task (task_seen Undo t)) v ≡ home

-- what is asked of a source with its layout, under each runtime
pub record IsSource (p : CheckedProgram) (l : MemoryMap) : Type 0 where
  pub runnable : IsRunnable p
  pub variables : AreVariables p l.variables
  pub words : AreSharedWords p l
  pub apart : memory.AreApart l
  pub room : HaveRoom (program_places p l)
  pub code : end_of l.copies ≤ l.boot.address
  pub count : length l.tasks ≡ length p.tasks

-- under redo
pub record IsGiven (p : CheckedProgram) (l : MemoryMap) : Type 0 where
  pub source : IsSource p l
  pub privates : (k : ℕ) → ArePrivate (program_places p l) k (privates_in (task_entries l) k)
  pub tasks : (k : ℕ) (task : CheckedTask) (t : TaskPlace) → slice_get p.tasks k ≡ Some task → slice_get l.tasks k ≡ Some t
      → IsTaskGiven p l task t

-- under undo
pub record IsLoggedGiven (p : CheckedProgram) (l : MemoryMap) : Type 0 where
  pub source : IsSource p l
  pub undo : l.runtime.logging ≡ Undo
  pub privates : (k : ℕ) → AreLogged (program_places p l) k (private_homes l k)
  pub tasks : (k : ℕ) (task : CheckedTask) (t : TaskPlace) → slice_get p.tasks k ≡ Some task → slice_get l.tasks k ≡ Some t → IsTaskLogged p l k task t
  pub fits : (s : State) (task : CheckedTask) (t : TaskPlace) → slice_get p.tasks s.task ≡ Some task → slice_get l.tasks s.task ≡ Some t
      → ActsFit p l s (task_places p l task (task_seen Undo t)) (some_path_writes p.functions task.body) (task_room p task) (IsOwn (private_homes l s.task))

module _ (text : List ℕ) (p : CheckedProgram) (allow : Allow) (plans : List TaskPlanValue) (l : MemoryMap) (laid : IsLaidOutText text p allow plans l) where
  has : HasLayout p allow plans l
  has = record {
    allowed = laid.accepted.allowed;
    plan = laid.plan;
    logging = laid.logging;
    layout = laid.layout;
    few = privates_are_few text p allow plans l laid;
    returning = (let c = laid.accepted.checks.checks in each_returns p c.named.placed c.paths.returns);
  }

  -- ---- a task

  module _ (k : ℕ) (task : CheckedTask) (t : TaskPlace) (is_task : slice_get p.tasks k ≡ Some task) (is_layout : slice_get l.tasks k ≡ Some t) where
    at : IsTaskAt p l k task t
    at = record { is_task = is_task; is_layout = is_layout }

    formed : WellFormedBlock p.shared task.body
    formed = (task_checked text p laid.accepted.checks k task is_task).statements

    -- so are the functions
    bodies : All (λ (f : CheckedFunction). WellFormedBlock p.shared f.body) p.functions
    bodies = all_of (λ (f : CheckedFunction). WellFormedBlock p.shared f.body) p.functions
        (λ k f is. (function_checked text p laid.accepted.checks k f is).statements)

    -- it calls functions of the source
    calls : BlockCallsBelow (length p.functions) task.body
    calls = subst (λ o. BlockCallsBelow (length p.functions) (body_of o)) is_task (calls_known p allow plans l has k)

    may : AreCallable p.functions
    may = callable p allow plans l has

    room : HasRoom (task_places p l task t) (λ v. stores_of (summaries p) v task.body) (task_room p task)
    room = lists_have_room p allow plans l has k task t at

    privates_of : ArePrivates p.functions l task.body t
    privates_of =
        let a = addresses_are p allow plans l has k task t at in
        let m = tasks_match p allow plans l has k task t at in
        record {
          private = a.private;
          left = a.left;
          each = a.each;
          only = λ s c. let o = m.only s c in (is_private_of (Shared s.number) p.functions may task.body calls o.0.owed, o.1);
        }

    -- the buffer of emitted words ends in front of the version words
    emits_end : l.emits.address + 2 * emits_of (summaries p) task.body ≤ l.versions.address
    emits_end =
        let room = (tasks_have_room p allow plans l has).emits k (slice_get_within p.tasks k task is_task) in
        let apart = places_are_apart p allow plans l has in
        let same = ap (λ o. emits_of (summaries p) (body_of o)) is_task in
        omega (arith, room, apart, same)

    -- by the place that is the task's own
    module _ (own : TaskPlace) (own_is : task_seen l.runtime.logging t ≡ own) where
      places : All (HasItsPlace l.variables) own.privates
      places =
          subst (λ o. All (HasItsPlace l.variables) o.privates) own_is
          (seen_all (HasItsPlace l.variables) l.runtime.logging t
          (all_at (λ t. All (HasItsPlace l.variables) t.privates) l.tasks k t laid.layout.rules.privates is_layout))

      stand : SpotsStand (task_places p l task own)
      stand =
          let w = some_path_writes p.functions task.body in
          spots_are_apart (map_seen p.functions task.body l) own (seen_laid_out w l laid.layout.rules) (privates_seen w l.variables own.privates places)

      -- what is copied by one place is so by the other
      copied_as : (x : Element) → IsCopied (task_places p l task own) x → IsCopied (task_places p l task t) x
      copied_as x c = record {
        elements = c.elements;
        length = c.length;
        copies = c.copies;
        is_array = record { place = c.is_array.place };
        below = c.below;
      }

      listed_as : (xs : List Element) → AreListed (task_places p l task own) xs → AreListed (task_places p l task t) xs
      listed_as xs h = record {
        copied = All-weaker (IsCopied (task_places p l task own)) (IsCopied (task_places p l task t)) copied_as xs h.copied;
        different = h.different;
      }

      -- where each scalar stands in front of the code
      abbrev VariablesBelow : Type 0
      VariablesBelow = (v i : ℕ) → IsScalarWord (task_places p l task own) v i → scalar_address (task_places p l task own) v i < end_of l.copies

      pub task_is_seen : VariablesBelow → IsTaskSeen p l task own
      task_is_seen variables =
          let e = elements_stand p allow plans l has k task t at in
          let apart = task_places_are_apart p allow plans l has k task t at in
          let even = task_places_are_even p allow plans l has k task t at in
          let declared = places_are_as_declared p allow plans l has k task t at in
          let copied = written_arrays_have_copies p allow plans l has k task t at formed bodies in
          let same = ap (λ o. own_program p l task o) own_is in
          let w = tasks_are_whole text p allow plans l laid k task t is_task is_layout in
          let behind = emits_end in
          let low = locals_are_low p allow plans l has k task t at in
          record {
            apart = record {
              row = apart.row;
              list = apart.list;
              emits = apart.emits;
              high = apart.high;
              spots = λ s is. let b = (stand.each s is).from in omega (arith, b, behind);
              below = λ s is. let b = (stand.each s is).end in omega (arith, b);
              distinct = stand.distinct;
            };
            even = record {
              row = even.row;
              list = even.list;
              emits = even.emits;
              commit = even.commit;
              spots = λ s is. (stand.each s is).even;
            };
            variables = variables;
            copies = λ x c. e.copy x (copied_as x c);
            versions = λ x c. let v = e.version x (copied_as x c) in record { number = v.0; below = v.1; is = v.2 };
            declared = record {
              scalars = declared.scalars;
              longs = declared.longs;
              arrays = λ v h. let a = declared.arrays v h in (a.0, a.1, a.2, record { place = a.3.place });
            };
            copied = λ v h written. let a = copied v h written in (a.0, a.1, a.2, record { place = a.3.place });
            formed = formed;
            bodies = bodies;
            callable = may;
            calls = calls;
            admits = tasks_are_admitted l.runtime.events p k task is_task (ap (λ r. r.events) laid.layout.runtime);
            admitted = functions_are_admitted l.runtime.events p (ap (λ r. r.events) laid.layout.runtime);
            own_low = subst (λ n. n + 256 ≤ 65536) (sym (first_seen l.runtime.logging t) ∙ ap (λ (o : TaskPlace). o.first) own_is) low.own;
            low = subst (All (λ (r : RoutinePlace). r.first + 256 ≤ 65536))
                (sym (routines_seen l.runtime.logging t) ∙ ap (λ (o : TaskPlace). o.routines) own_is) low.routines;
            scalars = λ v home copy width is.
                let match = places_are_declared p allow plans l has in
                let scalar = match.is_scalar v home copy width is in
                let d = scalar_declared p.shared v scalar in
                let wide = match.is_wide v home copy width d.0 is d.1 in (
                  scalar_block p.shared v scalar d.0 d.1 d.2 (scalar_words width) wide task.body formed,
                  All-weaker (λ (f : CheckedFunction). WellFormedBlock p.shared f.body) (λ (f : CheckedFunction). IsScalarIn v (scalar_words width) f.body)
                      (λ (f : CheckedFunction) g. scalar_block p.shared v scalar d.0 d.1 d.2 (scalar_words width) wide f.body g) p.functions bodies,
                );
            whole = subst IsWhole same w.0;
            of_words = subst OfWords same w.1;
          }

    -- a word of a scalar in its place
    home_below : (v home copy i : ℕ) (width : ScalarWidth) → slice_get l.variables v ≡ Some (Scalar home copy width) → i < scalar_words width
        → 2 * i + home < end_of l.copies
    home_below v home copy i width e below =
        let word = words_of_variables_are_shared p allow plans l has v i (2 * i + home) (scalar_home l v home copy width i e below) in
        let apart = places_are_apart p allow plans l has in
        omega (arith, word, apart)

    -- of a scalar that the task has, by its place
    by_place : (own : TaskPlace)
        → ((v home copy i : ℕ) (width : ScalarWidth) → slice_get l.variables v ≡ Some (Scalar home copy width) → i < scalar_words width
        → 2 * i + address_of (task_places p l task own) v < end_of l.copies)
        → (v i : ℕ) → IsScalarWord (task_places p l task own) v i → scalar_address (task_places p l task own) v i < end_of l.copies
    by_place own h v i word =
        let o = slice_get (map_seen p.functions task.body l).variables v in
        let its = scalar_place o (words_scalar o i word) in
        h v its.home its.copy i its.width (scalar_of_seen p.functions task.body l v its.home its.copy its.width its.place)
        (subst (λ n. i < n) (ap words_at its.place) word)

    given_below : (v home copy i : ℕ) (width : ScalarWidth) → slice_get l.variables v ≡ Some (Scalar home copy width) → i < scalar_words width
        → 2 * i + address_of (task_places p l task t) v < end_of l.copies
    given_below v home copy i width e below =
        let Below : ℕ → Type 0 = λ a. 2 * i + a < end_of l.copies in
        let entry : PrivateScalar = record { number = v; home = home; copy = copy; width = width } in
        let at_task : IsAt p l k = record { task = task; layout = t; task_is = is_task; layout_is = is_layout } in
        ⊎_elim {C = Below (address_of (task_places p l task t) v)}
        (λ is.
        let word = private_copy p l (privates_are_theirs p allow plans l has) k at_task entry i (privates_of.each v home copy width e is) below in
        subst Below (sym (privates_of.private v home copy width e is)) (omega (arith, word)))
        (λ left. subst Below (sym (privates_of.left v home copy width e left)) (home_below v home copy i width e below))
        (cases_Bool (is_private_in p.functions task.body v))

    task_given : l.runtime.logging ≡ Redo → IsTaskGiven p l task t
    task_given redo = record {
      seen = task_is_seen t (redo_seen l.runtime.logging t redo) (by_place t given_below);
      redo = redo;
      has_room = room;
      elements = elements_are_stores p allow plans l has k task t at;
      privates = privates_of;
    }

    task_logged : l.runtime.logging ≡ Undo → IsTaskLogged p l k task t
    task_logged undo =
        let own = task_seen Undo t in
        let own_is : task_seen l.runtime.logging t ≡ own = ap (λ logging. task_seen logging t) undo in
        let count : length (private_homes l k) ≡ private_words t.privates = ap length (homes_at l k t is_layout) ∙ homes_count t.privates in
        let home : (v home copy : ℕ) (width : ScalarWidth) → slice_get l.variables v ≡ Some (Scalar home copy width)
        → address_of (task_places p l task own) v ≡ home = λ v home copy width e.
        ap home_in (scalar_seen (some_path_writes p.functions task.body) l.variables v home copy width e) in
        record {
          seen = task_is_seen own own_is (by_place own (λ v at copy i width e below.
              subst (λ a. 2 * i + a < end_of l.copies) (sym (home v at copy width e)) (home_below v at copy i width e below)));
          has_room = λ xs are few.
              let h = room xs (listed_as own own_is xs are) few in omega (arith, h, count);
          home = home;
        }

  -- ---- the source

  source : IsRunnable p → IsSource p l
  source runnable =
      record {
        runnable = runnable;
        variables = has.layout.variables;
        words = record {
          each = shared_words_are_of_variables p allow plans l has;
          is_shared = words_of_variables_are_shared p allow plans l has;
          one = each_is_one_word p allow plans l has;
          is_word = view_has_their_words p allow plans l has;
          fit = λ rows h v place e. rows_fit_places p allow plans l has rows v place h e;
        };
        apart = places_are_apart p allow plans l has;
        room = tasks_have_room p allow plans l has;
        code = (apart_of l has.layout.rules).boot;
        count = has.layout.tasks.count;
      }

  pub given : l.runtime.logging ≡ Redo → IsRunnable p → IsGiven p l
  given redo runnable = record {
    source = source runnable;
    privates = privates_are_theirs p allow plans l has;
    tasks = λ k task t e f. task_given k task t e f redo;
  }

  pub given_logged : l.runtime.logging ≡ Undo → IsRunnable p → IsLoggedGiven p l
  given_logged undo runnable = record {
    source = source runnable;
    undo = undo;
    privates = privates_are_logged p allow plans l has;
    tasks = λ k task t e f. task_logged k task t e f undo;
    fits = λ s task t e f. acts_fit p allow plans l has s task t (record { is_task = e; is_layout = f });
  }
