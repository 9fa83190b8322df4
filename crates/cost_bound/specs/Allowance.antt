-- The allowance of a source with its names looked up: the bound of a charge in cycles, the size of its image in words, and the room
-- that its tasks need at most. All are numbers without an end.
use Rattle.std.specs.Prelude.{◌≡◌, ℕ, ◌+◌, ◌*◌, ◌^◌, ◌<◌, ◌≤◌, ◌||◌, Bool, false, nat_lt, min, max, if◌then◌else◌}
use Rattle.std.specs.Prelude.{List, [], ◌∷◌, All, Some, slice_get, slice_index, take}
use Rattle.alp_text.specs.declared.lines.Span.{Span}
pub use Rattle.task_ast.specs.Paths.{CheckedTask, CheckedProgram}
use Rattle.task_ast.specs.Paths.{CheckedFunction}
use Rattle.task_ast.specs.declared.Extent.{Extent}
use Rattle.task_ast.specs.declared.Extent.TheVariants.{Scalar, Long, Array}
use Rattle.task_ast.specs.declared.SharedDeclaration.{SharedDeclaration}
use Rattle.cost_bound.specs.Table.{capped, cycles_column, words_column, events_column, block_price}
use Rattle.cost_bound.specs.Summary.{Summary}
use Rattle.cost_bound.specs.Counts.{CheckedBlock, emits_of, stores_of, assigns_of, routine_words}
use Rattle.cost_bound.specs.Frames.{stack_of}
use Rattle.cost_bound.specs.Summaries.{summaries}
use Rattle.cost_bound.specs.declared.fault.Over.{Over}
use Rattle.cost_bound.specs.declared.fault.Over.TheVariants.{TooManyEmits, BoundTooLarge, TooLarge, StackTooLarge}
use Rattle.cost_bound.specs.declared.allowance.Allow.{Allow}

-- a sum over the shared variables, of a number and an extent each
abbrev pub shared_sum_from : (ℕ → Extent → ℕ) → ℕ → List SharedDeclaration → ℕ
shared_sum_from part i [] = 0
shared_sum_from part i (d ∷ ds) = part i d.extent + shared_sum_from part (i + 1) ds

abbrev pub shared_sum : (ℕ → Extent → ℕ) → List SharedDeclaration → ℕ
shared_sum part shared = shared_sum_from part 0 shared

-- the scalars that stand on the left of an assignment in a task or in what it calls, a long as two
abbrev pub scalar_part : Bool → Extent → ℕ
scalar_part assigned (Scalar _) = if assigned then 1 else 0
scalar_part assigned (Long _) = if assigned then 2 else 0
scalar_part assigned (Array _) = 0

abbrev pub scalars_of : List Summary → List SharedDeclaration → CheckedBlock → ℕ
scalars_of known shared code = shared_sum (λ i extent. scalar_part (assigns_of known i code) extent) shared

-- the entries of a task's commit list: its scalars, and of each array the counted stores, but no more than it has elements
abbrev pub list_part : ℕ → Extent → ℕ
list_part stores (Scalar _) = 0
list_part stores (Long _) = 0
list_part stores (Array length) = min length stores

abbrev pub list_of : List Summary → List SharedDeclaration → CheckedBlock → ℕ
list_of known shared code = scalars_of known shared code + shared_sum (λ i extent. list_part (stores_of known i code) extent) shared

-- whether a variable stands on the left of an assignment in some task or in what it calls
abbrev pub is_written : List Summary → List CheckedTask → ℕ → Bool
is_written known [] i = false
is_written known (t ∷ ts) i = assigns_of known i t.body || is_written known ts i

-- a version word for each element of an array that some task writes
abbrev pub version_part : Bool → Extent → ℕ
version_part written (Scalar _) = 0
version_part written (Long _) = 0
version_part written (Array length) = if written then length else 0

abbrev pub versions_of : CheckedProgram → ℕ
versions_of p = shared_sum (λ i extent. version_part (is_written (summaries p) p.tasks i) extent) p.shared

-- the words of a shared variable: two for a scalar, four for a long; of an array that some task writes each element has a copy and a version
abbrev pub place_part : Bool → Extent → ℕ
place_part written (Scalar _) = 2
place_part written (Long _) = 4
place_part written (Array length) = if written then 3 * length else length

abbrev pub places_of : CheckedProgram → ℕ
places_of p = shared_sum (λ i extent. place_part (is_written (summaries p) p.tasks i) extent) p.shared

abbrev pub greatest : (CheckedBlock → ℕ) → List CheckedTask → ℕ
greatest f [] = 0
greatest f (t ∷ ts) = max (f t.body) (greatest f ts)

abbrev pub total : (CheckedBlock → ℕ) → List CheckedTask → ℕ
total f [] = 0
total f (t ∷ ts) = f t.body + total f ts

-- whether `next_event()` stands in a text
abbrev pub has_event : CheckedBlock → Bool
has_event code = nat_lt 0 (block_price [] events_column code)

-- whether it stands in some task, be it never reached
abbrev pub use_events : List CheckedTask → Bool
use_events [] = false
use_events (t ∷ ts) = has_event t.body || use_events ts

-- whether it stands in some function, be it never called
abbrev pub functions_use_events : List CheckedFunction → Bool
functions_use_events [] = false
functions_use_events (f ∷ fs) = has_event f.body || functions_use_events fs

abbrev pub uses_events : CheckedProgram → Bool
uses_events p = functions_use_events p.functions || use_events p.tasks

-- what a source costs more where it uses events
abbrev pub for_events : Bool → ℕ → ℕ
for_events used price = if used then price else 0

-- the cycles of a boot, the clearing of the versions, an attempt of a task and its commit
abbrev pub task_bound : List Summary → Bool → ℕ → List SharedDeclaration → CheckedBlock → ℕ
task_bound known events versions shared code = for_events events 60 + 400 + 12 * versions + 72 * scalars_of known shared code
    + block_price known cycles_column code + 40 * list_of known shared code + 40 * emits_of known code

-- the bound, in cycles: events add their 60 to the greatest of the tasks' once, as they add them to each
abbrev pub bound_of : CheckedProgram → ℕ
bound_of p = greatest (task_bound (summaries p) (uses_events p) (versions_of p) p.shared) p.tasks

-- the words of a task's code by itself
abbrev pub own_words : List Summary → List SharedDeclaration → CheckedBlock → ℕ
own_words known shared code = block_price known (words_column (scalars_of known shared code)) code

-- the words of a task's code: its own, and that of the functions that it reaches, of which each task has a copy
abbrev pub task_words : List Summary → List SharedDeclaration → CheckedBlock → ℕ
task_words known shared code = 200 + 16 * scalars_of known shared code + own_words known shared code + routine_words known code

-- the size without what events need, in words
abbrev pub plain_words_of : CheckedProgram → ℕ
plain_words_of p = 600 + total (task_words (summaries p) p.shared) p.tasks + places_of p + 3 * greatest (list_of (summaries p) p.shared) p.tasks
    + greatest (emits_of (summaries p)) p.tasks

-- the size, in words
abbrev pub words_of : CheckedProgram → ℕ
words_of p = plain_words_of p + for_events (uses_events p) 200

-- the greatest stack of a task, in words
abbrev pub stack_words : CheckedProgram → ℕ
stack_words p = greatest (stack_of (summaries p)) p.tasks

abbrev pub FewEmits : List Summary → CheckedTask → Type 0
FewEmits known t = emits_of known t.body ≤ 256

-- the task of a number counts more than 256 emits, and none before it does
pub record IsFirstOver (known : List Summary) (ts : List CheckedTask) (number : ℕ) : Type 0 where
  pub task : CheckedTask
  pub at : slice_get ts number ≡ Some task
  pub over : 256 < emits_of known task.body
  pub first : All (FewEmits known) (take number ts)

-- a task counts too many emits, and is the first: its line and its name are kept, and the count, 2^64 - 1 where it is more
pub record IsTooManyEmits (p : CheckedProgram) (lines : List ℕ) (line : ℕ) (name : Span) (count : ℕ) : Type 0 where
  pub number : ℕ
  pub first : IsFirstOver (summaries p) p.tasks number
  pub line_is : line ≡ slice_index lines number
  pub name_is : name ≡ first.task.name
  pub count_is : count ≡ capped (emits_of (summaries p) first.task.body)

-- no task counts too many emits
abbrev pub AllFewEmits : CheckedProgram → Type 0
AllFewEmits p = All (FewEmits (summaries p)) p.tasks

-- a source costs too much. Emits come first, then the bound, then the size, then the stack, and the number is kept, 2^64 - 1 where it is more
abbrev pub IsOver : CheckedProgram → List ℕ → Over → Type 0
IsOver p lines (TooManyEmits line name count) = IsTooManyEmits p lines line name count
IsOver p lines (BoundTooLarge number) = AllFewEmits p × (2 ^ 32 ≤ bound_of p) × (number ≡ capped (bound_of p))
IsOver p lines (TooLarge number) = AllFewEmits p × (bound_of p < 2 ^ 32) × (22000 < words_of p) × (number ≡ capped (words_of p))
IsOver p lines (StackTooLarge number) =
    AllFewEmits p × (bound_of p < 2 ^ 32) × (words_of p ≤ 22000) × (1000 < stack_words p) × (number ≡ capped (stack_words p))

-- a source costs no more than it may, and this is its allowance
pub record IsAllowed (p : CheckedProgram) (allow : Allow) : Type 0 where
  pub few_emits : AllFewEmits p
  pub within_bound : bound_of p < 2 ^ 32
  pub within_size : words_of p ≤ 22000
  pub within_stack : stack_words p ≤ 1000
  pub cycles : allow.cycles ≡ bound_of p
  pub words : allow.words ≡ words_of p
  pub list : allow.list ≡ greatest (list_of (summaries p) p.shared) p.tasks
  pub emits : allow.emits ≡ greatest (emits_of (summaries p)) p.tasks
  pub versions : allow.versions ≡ versions_of p
