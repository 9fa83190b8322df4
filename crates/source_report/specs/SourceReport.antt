-- The report of a source run: for each transition its line, a line for each word that it emitted and one for each shared
-- word that it changed; and the report of `mean`, with its end line.
use Rattle.std.specs.Prelude.{◌≡◌, ◌≤◌, ◌<◌, take, drop, ℕ, ◌+◌, ◌-◌, ◌==◌, List, [], ◌∷◌, ◌++◌, length, flat_map, map, sum_by, slice_get, slice_index}
use Rattle.std.specs.Prelude.{Option, Some, None, true, if◌then◌else◌}
use Rattle.std.specs.Option.{option_map}
use Rattle.alp_text.specs.declared.lines.Span.{Span}
use Rattle.alp_io.specs.declared.report.Reason.{Reason}
use Rattle.alp_io.specs.declared.report.Reason.TheVariants.{Charges, Readings, Off, Limit}
use Rattle.alp_io.specs.Report.{step_line, accepted_line, value_line, end_line}
use Rattle.task_ast.specs.declared.SharedDeclaration.{SharedDeclaration}
use Rattle.task_ast.specs.declared.Extent.{Extent}
use Rattle.task_ast.specs.declared.Extent.TheVariants.{Scalar, Long, Array}
use Rattle.source_values.specs.Values.{shown}
use Rattle.source_values.specs.Statements.{Outcome, short}
use Rattle.source_values.specs.Runs.{CheckedProgram, Transition, TaskInputs, without_answers, first_state, state_behind, attempt_of, source_run}

-- the piece of a text that a span says
abbrev pub spelled : List ℕ → Span → List ℕ
spelled text span = take (span.to - span.from) (drop span.from text)

-- the name of a task by its number
abbrev pub task_name : List ℕ → CheckedProgram → ℕ → Option (List ℕ)
task_name text program task = option_map (λ t. spelled text t.name) (slice_get program.tasks task)

-- a line where the word isn't what it was
abbrev pub change_line : List ℕ → Option ℕ → ℕ → ℕ → List ℕ
change_line name index before now = if before == now then [] else value_line name index now

-- a line for each element from index i on that isn't what it was
abbrev pub element_lines : List ℕ → ℕ → List ℕ → List ℕ → List ℕ
element_lines name i (b ∷ before) (w ∷ now) = change_line name (Some i) b w ++ element_lines name (i + 1) before now
element_lines name i before now = []

-- the lines of a shared variable: a scalar is printed without an index, a long as one number
abbrev pub variable_lines : List ℕ → Extent → List ℕ → List ℕ → List ℕ
variable_lines name (Scalar w) before now = change_line name None (slice_index before 0) (slice_index now 0)
variable_lines name (Long n) before now = change_line name None (shown true before 0) (shown true now 0)
variable_lines name (Array n) before now = element_lines name 0 before now

-- a line for each shared word that isn't what it was, in order of declaration and index
abbrev pub change_lines : List ℕ → List SharedDeclaration → List (List ℕ) → List (List ℕ) → List ℕ
change_lines text (d ∷ ds) (b ∷ before) (w ∷ now) = variable_lines (spelled text d.name) d.extent b w ++ change_lines text ds before now
change_lines text ds before now = []

-- a line for each word that was emitted, in order
abbrev pub emitted_lines : List ℕ → List ℕ
emitted_lines words = flat_map accepted_line words

-- committed readings: those from one position up to and without another, counted from 0
pub record Committed : Type 0 where
  pub from : ℕ
  pub to : ℕ

-- the lines of transition k
unfoldable pub transition_lines : List ℕ → CheckedProgram → ℕ → Committed → Transition → List ℕ
transition_lines text program k span t =
    step_line k (task_name text program t.from) (task_name text program t.next) span.from span.to
    ++ (emitted_lines t.emitted ++ change_lines text program.shared t.before t.after)

-- the lines of transitions with the positions of their readings, from transition k on
unfoldable pub source_report : List ℕ → CheckedProgram → ℕ → List Committed → List Transition → List ℕ
source_report text program k (span ∷ spans) (t ∷ ts) = transition_lines text program k span t ++ source_report text program (k + 1) spans ts
source_report text program k spans ts = []

-- the readings between two positions
abbrev pub readings_of : List ℕ → Committed → List ℕ
readings_of readings span = take (span.to - span.from) (drop span.from readings)

-- what a task is given that takes these: no report carries answers of `next_event()`, and it is given none
abbrev pub given_of : List ℕ → Committed → TaskInputs
given_of readings span = without_answers (readings_of readings span)

-- each span begins where the one before it ended, at first at `from`, and none passes the end
abbrev pub IsConsecutive : ℕ → ℕ → List Committed → Type 0
IsConsecutive from end [] = from ≤ end
IsConsecutive from end (span ∷ spans) = (span.from ≡ from) × (from ≤ span.to) × IsConsecutive span.to end spans

-- where the last span ends
abbrev pub position_after : ℕ → List Committed → ℕ
position_after at [] = at
position_after at (span ∷ spans) = position_after span.to spans

-- how many words transitions emit
abbrev pub words_in : List Transition → ℕ
words_in ts = sum_by (λ t. length t.emitted) ts

-- the end is `limit` where as many transitions are made as there may be, else `readings`: the next attempt is short
abbrev pub IsEnding : Reason → ℕ → ℕ → Outcome → Type 0
IsEnding Limit most made next = made ≡ most
IsEnding Readings most made next = (made < most) × (next ≡ short)
IsEnding Charges most made next = ⊥
IsEnding Off most made next = ⊥

-- what `mean` reports of a source and its text: a run from the first state on consecutive spans of the readings, each of
-- which one task takes exactly, where each `next_event()` is 0; and why it ended, with the transitions made and the words that they emitted
pub record IsMeanReport (source_text : List ℕ) (program : CheckedProgram) (readings text : List ℕ) : Type 0 where
  pub spans : List Committed
  pub transitions : List Transition
  pub reason : Reason
  pub consecutive : IsConsecutive 0 (length readings) spans
  pub run : source_run program (first_state program) (map (given_of readings) spans) ≡ Some transitions
  pub ending : let end = state_behind (first_state program) transitions in
      IsEnding reason 10000 (length spans) (attempt_of program end.task end.shared (without_answers (drop (position_after 0 spans) readings)))
  pub lines : text ≡ source_report source_text program 1 spans transitions
      ++ end_line reason (length spans) (words_in transitions) 0
