-- One more task gets its layout.
use Rattle.std.proofs.Common.{◌≡◌, ℕ, zero, suc, ◌+◌, ◌*◌, ◌%◌, ◌<◌, ◌≤◌, true, false, List, [], ◌∷◌, ◌++◌, length, take, drop, map, get_or, refl, sym, ◌∙◌}
use Rattle.std.proofs.Common.{ap, subst}
use Rattle.std.proofs.Common.{arith, Option, Some, None}
use Rattle.std.proofs.Math.Seq.{drop-length}
use Rattle.std.specs.Prelude.{slice_get, All, IsSomeAnd}
use Rattle.std.specs.Option.{option_map}
use Rattle.std.proofs.lemmas.List.{append-nil, length_push, length-map, map-append, take_more, take_all}
use Rattle.std.proofs.lemmas.List.Elements.{All-nil, All-push}
use Rattle.std.proofs.lemmas.Option.{slice_get_read, slice_get-map, slice_get_within, same_Some}
use Rattle.task_ast.specs.View.{task_of}
use Rattle.task_ast.specs.declared.SharedDeclaration.{SharedDeclaration}
use Rattle.task_ast.specs.declared.TaskDeclaration.{TaskDeclaration}
use Rattle.task_ast.specs.declared.names.VariableName.{VariableName}
use Rattle.task_ast.specs.declared.names.TaskName.{TaskName}
use Rattle.task_ast.specs.declared.names.FunctionName.{FunctionName}
use Rattle.cost_bound.specs.Allowance.{CheckedTask, total}
use Rattle.war_analysis.specs.PlanValue.{TaskPlanValue}
use Rattle.memory_map.specs.address_space.Limits.{program_end}
use Rattle.memory_map.specs.declared.place.VariablePlace.{VariablePlace}
use Rattle.memory_map.specs.declared.place.PrivateScalar.{PrivateScalar}
use Rattle.memory_map.specs.MemoryMap.{TaskPlace}
use Rattle.memory_map.specs.Places.{AreInOrder, HasItsPlace, code_regions, end_of}
use Rattle.std.specs.List.{flat_map}
use Rattle.std.proofs.lemmas.Grind.{flat_map-append}
use Rattle.cost_bound.specs.Counts.{routine_words}
use Rattle.cost_bound.specs.Allowance.{own_words}
use Rattle.cost_bound.specs.Frames.{stack_of}
use Rattle.privatise.specs.Sizes.{body_words}
use Rattle.privatise.specs.Routines.{KnownFunctions, task_routines}
use Rattle.privatise.specs.View.{functions_in}
use Rattle.privatise.specs.declared.routines.Functions.{Functions}
use Rattle.cost_bound.specs.Counts.{CheckedBlock}
use Rattle.cost_bound.proofs.Interface.{known_length}
use Rattle.privatise.specs.Layouts.{IsTaskLayout}
use Rattle.privatise.specs.Placing.{is_scalar_place, IsScalarPlaceAt, ArePrivates, IsPlacedTask, ArePlacedTasks}
use Rattle.memory_map.proofs.Interface.{in_order_append, in_order_higher}
use Rattle.privatise.proofs.RoutinesPlaced.{task_in_order}
use Rattle.privatise.proofs.Sums.{total_step, total_part}
use Rattle.privatise.proofs.VariablesPlaced.{each_push, even_behind}

-- ---- private scalars

-- the variable is there, and is a scalar
pub record IsScalarWith (places : List VariablePlace) (i : ℕ) : Type 0 where
  pub place : VariablePlace
  pub at : slice_get places i ≡ Some place
  pub scalar : is_scalar_place place ≡ true

some_with : (o : Option VariablePlace) → IsSomeAnd o (λ place. is_scalar_place place ≡ true) → (place : VariablePlace) × (o ≡ Some place)
    × (is_scalar_place place ≡ true)
some_with (Some place) h = (place, refl, h)
some_with None h = absurd h

scalar_with : (places : List VariablePlace) (i : ℕ) → IsScalarPlaceAt places i → IsScalarWith places i
scalar_with places i h = let w = some_with (slice_get places i) h in record { place = w.0; at = w.1; scalar = w.2 }

pub scalar_within : (places : List VariablePlace) (i : ℕ) → IsScalarPlaceAt places i → i < length places
scalar_within places i h = let w = scalar_with places i h in slice_get_within places i w.place w.at

pub no_array : (places : List VariablePlace) (i : ℕ) (place : VariablePlace) → IsScalarPlaceAt places i → slice_get places i ≡ Some place
    → is_scalar_place place ≡ false → ⊥
no_array places i place h at other =
    let w = scalar_with places i h in
    let same : place ≡ w.place = same_Some place w.place (sym at ∙ w.at) in
    let clash : true ≡ false = sym w.scalar ∙ ap is_scalar_place (sym same) ∙ other in cc

pub no_privates : (places : List VariablePlace) (numbers : List ℕ) → ArePrivates places (take 0 numbers) []
no_privates places numbers = record { numbers = refl; places = All-nil (HasItsPlace places) }

pub next_private : (places : List VariablePlace) (numbers : List ℕ) (i : ℕ) (s : PrivateScalar) (xs ys : List PrivateScalar)
    → i < length numbers → s.number ≡ get_or numbers i 0 → HasItsPlace places s
    → ys ≡ xs ++ s ∷ [] → ArePrivates places (take i numbers) xs → ArePrivates places (take (i + 1) numbers) ys
next_private places numbers i s xs ys l at has e h = subst (λ zs. ArePrivates places (take (i + 1) numbers) zs) (sym e) (record {
  numbers = map-append (λ s. s.number) xs (s ∷ []) ∙ ap (λ ns. ns ++ s.number ∷ []) h.numbers ∙ ap (λ n. take i numbers ++ n ∷ []) at
      ∙ sym (take_more numbers i 0 l);
  places = All-push (HasItsPlace places) xs s h.places has;
})

pub all_privates : (places : List VariablePlace) (numbers : List ℕ) (i : ℕ) (privates : List PrivateScalar) → length numbers ≤ i
    → ArePrivates places (take i numbers) privates → ArePrivates places numbers privates
all_privates places numbers i privates l h = subst (λ ns. ArePrivates places ns privates) (take_all i numbers l) h

-- ---- tasks

-- what tasks are placed by: what is known of the functions, the shared variables with their places, the plan of each task, and where the code begins
pub record TasksToPlace : Type 0 where
  pub known : KnownFunctions
  pub shared : List SharedDeclaration
  pub places : List VariablePlace
  pub tasks : List (TaskDeclaration VariableName TaskName FunctionName)
  pub plans : List TaskPlanValue
  pub address : ℕ

abbrev pub to_place : (functions : Functions) (shared : List SharedDeclaration) (places : List VariablePlace)
    (tasks : List (TaskDeclaration VariableName TaskName FunctionName)) (plans : List TaskPlanValue) (address : ℕ) → TasksToPlace
to_place functions shared places tasks plans address =
    record { known = functions_in functions; shared = shared; places = places; tasks = tasks; plans = plans; address = address }

module _ (s : TasksToPlace) where
  abbrev words : CheckedBlock → ℕ
  words = body_words s.known.summaries s.shared

  abbrev pub all_words : ℕ
  all_words = total words (map task_of s.tasks)

  -- the layouts of the first tasks, and the address for the next
  pub record TasksBelow (i at : ℕ) (layouts : List TaskPlace) : Type 0 where
    pub count : length layouts ≡ i
    pub each : (k : ℕ) (t : TaskPlace) → slice_get layouts k ≡ Some t → (task : CheckedTask) (plan : TaskPlanValue)
        → slice_get (map task_of s.tasks) k ≡ Some task → slice_get s.plans k ≡ Some plan → IsTaskLayout s.known s.shared task.body plan t
    pub privates : All (λ t. All (HasItsPlace s.places) t.privates) layouts
    pub code : AreInOrder s.address (flat_map code_regions layouts) at
    pub room : at + 2 * total words (map task_of (drop i s.tasks)) ≡ s.address + 2 * all_words
    pub even : at % 2 ≡ 0

  pub no_tasks : s.address % 2 ≡ 0 → TasksBelow 0 s.address []
  no_tasks even = record {
    count = refl;
    each = λ k t e. let no : None ≡ Some t = e in cc;
    privates = All-nil (λ t. All (HasItsPlace s.places) t.privates);
    code = omega arith;
    room = refl;
    even = even;
  }

  -- those before a task, which is there
  pub record Turn : Type 0 where
    pub i : ℕ
    pub at : ℕ
    pub layouts : List TaskPlace
    pub below : TasksBelow i at layouts
    pub task : TaskDeclaration VariableName TaskName FunctionName
    pub within : i < length s.tasks
    pub is : task ≡ get_or s.tasks i task

get_or_mapped : (tasks : List (TaskDeclaration VariableName TaskName FunctionName)) (i : ℕ) (task : TaskDeclaration VariableName TaskName FunctionName)
    → task_of (get_or tasks i task) ≡ get_or (map task_of tasks) i (task_of task)
get_or_mapped [] i task = refl
get_or_mapped (t ∷ tasks) zero task = refl
get_or_mapped (t ∷ tasks) (suc i) task = get_or_mapped tasks i task

part_fits : (at part rest all : ℕ) → at + 2 * (part + rest) ≡ all → all ≤ program_end → at + 2 * part < 65536
part_fits at part rest all e room = omega (arith, e, room)

part_within : (at part rest all : ℕ) → at + 2 * (part + rest) ≡ all → all ≤ program_end → at + 2 * part ≤ program_end
part_within at part rest all e room = omega (arith, e, room)

behind_part : (at later part rest all : ℕ) → later ≡ at + 2 * part → at + 2 * (part + rest) ≡ all → later + 2 * rest ≡ all
behind_part at later part rest all behind e = omega (arith, behind, e)

module _ (s : TasksToPlace) (turn : Turn s) where
  abbrev its_task : CheckedTask
  its_task = task_of turn.task

  abbrev pub its_words : ℕ
  its_words = words s its_task.body

  pub small_task : all_words s ≤ 22000 → its_words ≤ 22000
  small_task small = let part = total_part (words s) s.tasks turn.i turn.task turn.within turn.is in omega (arith, part, small)

  -- a task's stack is among those of all
  pub low_stack : All (λ t. stack_of s.known.summaries t.body ≤ 1000) (map task_of s.tasks) → stack_of s.known.summaries its_task.body ≤ 1000
  low_stack all =
      let within : turn.i < length (map task_of s.tasks) = let n = length-map s.tasks task_of in let l = turn.within in omega (arith, n, l) in
      subst (λ t. stack_of s.known.summaries t.body ≤ 1000) (sym (ap task_of turn.is ∙ get_or_mapped s.tasks turn.i turn.task))
      (all turn.i its_task within)

  step : total (words s) (map task_of (drop turn.i s.tasks)) ≡ its_words + total (words s) (map task_of (drop (turn.i + 1) s.tasks))
  step = total_step (words s) s.tasks turn.i turn.task turn.within turn.is

  abbrev words_left : ℕ
  words_left = total (words s) (map task_of (drop (turn.i + 1) s.tasks))

  room_left : turn.at + 2 * (its_words + words_left) ≡ s.address + 2 * all_words s
  room_left = ap (λ n. turn.at + 2 * n) (sym step) ∙ turn.below.room

  pub task_fits : (n : ℕ) → s.address + 2 * all_words s ≤ program_end → n ≡ its_words → turn.at + 2 * n < 65536
  task_fits n room e = subst (λ w. turn.at + 2 * w < 65536) (sym e) (part_fits turn.at its_words words_left (s.address + 2 * all_words s) room_left room)

  pub room_task : s.address + 2 * all_words s ≤ program_end → turn.at + 2 * its_words ≤ program_end
  room_task room = part_within turn.at its_words words_left (s.address + 2 * all_words s) room_left room

  -- a task at its place, behind those before it
  pub one_task : (plan : TaskPlanValue) (t : TaskPlace) (later : ℕ) (more : List TaskPlace) → slice_get s.plans turn.i ≡ Some plan
      → length s.known.locals ≡ length s.known.summaries → IsPlacedTask s.known s.shared s.places its_task plan turn.at t
      → later ≡ turn.at + 2 * its_words → more ≡ turn.layouts ++ t ∷ [] → TasksBelow s (turn.i + 1) later more
  one_task plan t later more planned same placed behind e = subst (λ zs. TasksBelow s (turn.i + 1) later zs) (sym e)
      (record {
        count = length_push turn.layouts t ∙ ap (λ k. k + 1) turn.below.count;
        each = each_push (λ k x. (task : CheckedTask) (plan : TaskPlanValue) → slice_get (map task_of s.tasks) k ≡ Some task → slice_get s.plans k ≡ Some plan
            → IsTaskLayout s.known s.shared task.body plan x) turn.layouts t turn.below.each here;
        privates = All-push (λ t. All (HasItsPlace s.places) t.privates) turn.layouts t turn.below.privates placed.privates;
        code = subst (λ rs. AreInOrder s.address rs later) (sym (flat_map-append code_regions turn.layouts (t ∷ [])))
            (in_order_append s.address (flat_map code_regions turn.layouts) turn.at (flat_map code_regions (t ∷ [])) later turn.below.code
            (subst (λ rs. AreInOrder turn.at rs later) (sym (append-nil (code_regions t))) in_order));
        room = behind_part turn.at later its_words words_left (s.address + 2 * all_words s) behind room_left;
        even = even_behind turn.at its_words later turn.below.even behind;
      })
    where
      in_order : AreInOrder turn.at (code_regions t) later
      in_order =
          let own = placed.layout.words in
          let at_t = placed.address in
          let even = turn.below.even in
          let start : end_of t.code ≡ turn.at + 2 * own_words s.known.summaries s.shared its_task.body = omega (arith, own, at_t) in
          let end : end_of t.code + 2 * routine_words s.known.summaries its_task.body ≡ later = omega (arith, start, behind) in
          let even_start : end_of t.code % 2 ≡ 0 = omega (arith, start, even) in (
            record { from = omega (arith, at_t); even = omega (arith, at_t, even) },
            subst (λ rs. AreInOrder (end_of t.code) (map (λ r. r.code) rs) later) (sym placed.layout.routines)
                (subst (λ n. AreInOrder (end_of t.code) (map (λ r. r.code) (task_routines s.known its_task.body (end_of t.code))) n) end
                (task_in_order s.known.summaries s.known.locals its_task.body (end_of t.code) same even_start)),
          )

      there : slice_get (map task_of s.tasks) turn.i ≡ Some its_task
      there = slice_get-map task_of s.tasks turn.i ∙ ap (option_map task_of) (slice_get_read s.tasks (length s.tasks) turn.i turn.task refl turn.within turn.is)

      here : (k : CheckedTask) (q : TaskPlanValue) → slice_get (map task_of s.tasks) (length turn.layouts) ≡ Some k
          → slice_get s.plans (length turn.layouts) ≡ Some q → IsTaskLayout s.known s.shared k.body q t
      here k q f g =
          let count = turn.below.count in
          let same : its_task ≡ k = same_Some its_task k (sym there ∙ ap (λ n. slice_get (map task_of s.tasks) n) (sym count) ∙ f) in
          let planned_so : plan ≡ q = same_Some plan q (sym planned ∙ ap (λ n. slice_get s.plans n) (sym count) ∙ g) in
          subst (λ x. IsTaskLayout s.known s.shared x.body q t) same
          (subst (λ x. IsTaskLayout s.known s.shared its_task.body x t) planned_so placed.layout)

over : (at rest all : ℕ) → rest ≡ 0 → at + 2 * rest ≡ all → at ≤ all
over at rest all e h = omega (arith, e, h)

pub all_tasks : (s : TasksToPlace) (i at : ℕ) (layouts : List TaskPlace) → i ≡ length s.tasks → TasksBelow s i at layouts
    → ArePlacedTasks s.known s.shared s.places (map task_of s.tasks) s.plans s.address layouts
all_tasks s i at layouts e h = record {
  count = h.count ∙ e ∙ sym (length-map s.tasks task_of);
  each = λ k task plan t f g p. h.each k t p task plan f g;
  privates = h.privates;
  code = in_order_higher s.address (flat_map code_regions layouts) at _ (over at _ _ none_left h.room) h.code;
}
  where
    none_left : total (words s) (map task_of (drop i s.tasks)) ≡ 0
    none_left = subst (λ k. total (words s) (map task_of (drop k s.tasks)) ≡ 0) (sym e) (ap (λ ds. total (words s) (map task_of ds)) (drop-length s.tasks))

-- as many functions have locals as have summaries
pub known_count : (fs : Functions) → length fs.locals.now ≡ length fs.summaries.now
    → length (functions_in fs).locals ≡ length (functions_in fs).summaries
known_count fs e = e ∙ sym (known_length fs.summaries.now)
