-- What the values of the code stand for.
use Rattle.std.specs.Prelude.{◌≤◌, ◌+◌, ℕ, Bool, true, false, List, [], ◌∷◌, map, Option, Some, None, slice_index_or, slice_set}
use denote.Bor.{Bor}
pub use Rattle.source_values.specs.Rows.{rows_of}
use Rattle.task_ast.specs.Answers.{answers}
use Rattle.task_ast.specs.Paths.{CheckedBlock}
use Rattle.task_ast.specs.Tree.{choice_of}
use Rattle.task_ast.specs.View.{function_of}
use Rattle.task_ast.specs.declared.FunctionDeclaration.{FunctionDeclaration}
use Rattle.task_ast.specs.declared.names.VariableName.{VariableName}
use Rattle.task_ast.specs.declared.names.TaskName.{TaskName}
use Rattle.task_ast.specs.declared.names.FunctionName.{FunctionName}
use Rattle.source_values.specs.Values.{Variables, Evaluated, EvaluatedWords, Meaning, evaluated, new_locals}
use Rattle.source_values.specs.Numbers.{number_value}
use Rattle.source_values.specs.Statements.{Attempt, Outcome, goes_on, to_task, returns, short, run_choice, meaning_of, function_emits}
use Rattle.source_values.specs.declared.scratch.Scratch.{Scratch}
use Rattle.source_values.specs.declared.values.Value.{Value}
use Rattle.source_values.specs.declared.statements.End.{End}
use Rattle.source_values.specs.declared.statements.End.TheVariants.{GoesOn, ToTask, Returns}
use Rattle.source_values.specs.declared.statements.Ran.{Ran}
use Rattle.source_values.specs.declared.statements.Chosen.{Chosen}
use Rattle.source_values.specs.declared.statements.Chosen.TheVariants.{Behind, NoneHolds}

-- the variables of an attempt
abbrev pub variables_of : Scratch → Variables
variables_of s = record { shared = s.shared.rows; locals = s.locals }

-- an attempt that has these readings left, and no answers
abbrev pub attempt_in : Scratch → List ℕ → Attempt
attempt_in s left = record { variables = variables_of s; emitted = s.emitted.items; left = left; answers = [] }

-- a value that left an attempt
abbrev pub evaluated_in : Scratch → Value → Evaluated
evaluated_in s x = evaluated (number_value x.number) (attempt_in s x.left.now)

-- the functions in front of what runs
abbrev pub FunctionsInFront : Type 0
FunctionsInFront = List (FunctionDeclaration VariableName TaskName FunctionName)

-- what they are, and how many words each emits at most
abbrev pub meanings_of : FunctionsInFront → List Meaning
meanings_of fs = answers meaning_of (map function_of fs)

abbrev pub counts_of : FunctionsInFront → List ℕ
counts_of fs = answers function_emits (map function_of fs)

-- the locals of a function whose parameters from this number on have these words
abbrev pub placed : ℕ → List ℕ → List ℕ
placed k [] = new_locals
placed k (w ∷ ws) = slice_set (placed (k + 1) ws) k w

-- the locals that wait in the first frame, and the attempt behind the values that they are made of
abbrev pub waiting_in : Scratch → List (List ℕ) → Bor (List ℕ) → List ℕ × Attempt
waiting_in s frames left = (slice_index_or frames 0 [], attempt_in s left.now)

abbrev pub placed_words : ℕ → EvaluatedWords → List ℕ × Attempt
placed_words k x = (placed k x.words, x.behind)

-- the word that a function gives, and the attempt behind it
abbrev pub given_in : Scratch → ℕ × Bor (List ℕ) → Evaluated
given_in s x = evaluated x.0 (attempt_in s x.1.now)

-- the outcome of statements that ended so, and left this attempt
abbrev pub ended : End → Attempt → Outcome
ended GoesOn s = goes_on s
ended (ToTask t) s = to_task t s
ended (Returns w) s = returns w s

-- whether what stands behind doesn't run
abbrev pub leaves : End → Bool
leaves GoesOn = false
leaves (ToTask t) = true
leaves (Returns w) = true

-- the task of a transition
abbrev pub task_of_end : End → Option ℕ
task_of_end GoesOn = None
task_of_end (ToTask t) = Some t
task_of_end (Returns w) = None

-- the word of a `return`
abbrev pub word_of_end : End → Option ℕ
word_of_end GoesOn = None
word_of_end (ToTask t) = None
word_of_end (Returns w) = Some w

-- the outcome of statements that left this
abbrev pub outcome_of : Option Ran → Scratch → Outcome
outcome_of None s = short
outcome_of (Some r) s = ended r.end (attempt_in s r.left.now)

-- the outcome of conditions with their blocks, behind which this last block stands
abbrev pub chosen_outcome : List Meaning → Option Chosen → Option CheckedBlock → Scratch → Outcome
chosen_outcome known None last s = short
chosen_outcome known (Some (Behind r)) last s = ended r.end (attempt_in s r.left.now)
chosen_outcome known (Some (NoneHolds left)) last s = run_choice known (choice_of [] last) (attempt_in s left.now)

-- how many words there are at most behind the conditions: where none holds those of the conditions, else those of a block too
abbrev pub ChosenEmits : Option Chosen → (before now conditions most : ℕ) → Type 0
ChosenEmits None before now conditions most = Unit {0}
ChosenEmits (Some (Behind r)) before now conditions most = now ≤ before + (conditions + most)
ChosenEmits (Some (NoneHolds left)) before now conditions most = now ≤ before + conditions
