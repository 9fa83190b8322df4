-- The tasks of a compiled source's model are the source's.
use Rattle.image_reports.proofs.Names.{◌≡◌, ℕ, ◌<◌, refl, sym, ap, subst, List, [], ◌++◌, length, Option, Some, get_or, CheckedProgram, State, Transition}
use Rattle.image_reports.proofs.Names.{None, TaskInputs}
use Rattle.image_reports.proofs.Names.{Completion, TransitionComes, EndsWell, body_of, fresh_attempt, attempt_of, completion_of, exactly, transition_of}
use Rattle.image_reports.proofs.Names.{state_after, IsRunnable, Given, nothing_given, Ends, Short, outcome_of, whole_task}
use Rattle.source_runs.specs.Sources.{inputs_of}
use Rattle.std.proofs.lemmas.List.Elements.{All-get_or}
use Rattle.std.proofs.lemmas.Option.{slice_get-get_or}
use Rattle.std.specs.Prelude.{slice_get}
use Rattle.task_ast.specs.Tree.{end}
use Rattle.task_ast.specs.Paths.{CheckedTask}
use Rattle.task_ast.specs.declared.names.TaskName.{TaskName}
use Rattle.source_values.specs.Values.{◌>>?◌}
use Rattle.source_values.specs.Statements.{Outcome, goes_on, to_task, returns, short, run_block, meanings}

-- a transition of a task that takes all its readings
abbrev pub IsTransitionTo : State → State → Option Transition → Type 0
IsTransitionTo s u o = (t : Transition) × (o ≡ Some t) × (u ≡ state_after s t)

completed : (s u : State) (c : Completion) → outcome_of s (Some c) ≡ Ends u nothing_given → IsTransitionTo s u (exactly s c)
completed s u c e =
    let next : State = record { shared = c.shared; task = c.next; emitted = s.emitted ++ c.emitted } in
    let a : next ≡ u = cc e in
    let rest : ◌≡◌ {A = Given} (record { readings = c.left; answers = c.answers }) nothing_given = cc e in
    let left : c.left ≡ [] = ap (λ g. g.readings) rest in
    let none : c.answers ≡ [] = ap (λ g. g.answers) rest in
    let t : Transition = record { from = s.task; next = c.next; before = s.shared; after = c.shared; emitted = c.emitted } in
    let P : List ℕ → Type 0 = λ readings. exactly s (record c { left = readings }) ≡ Some t in
    let Q : List ℕ → Type 0 = λ answers. exactly s (record c { left = []; answers = answers }) ≡ Some t in
    (t, subst P (sym left) (subst Q (sym none) refl), sym a)

transits_by : (s u : State) (o : Option Completion) → outcome_of s o ≡ Ends u nothing_given → IsTransitionTo s u (o >>? exactly s)
transits_by s u None e = absurd (cc e)
transits_by s u (Some c) e = completed s u c e

-- a task that comes to a state with nothing left of what it was given makes a transition to it
pub transits : (p : CheckedProgram) (s u : State) (given : Given) → whole_task p s given ≡ Ends u nothing_given
    → IsTransitionTo s u (transition_of p s (inputs_of given))
transits p s u given e = transits_by s u (completion_of (attempt_of p s.task s.shared (inputs_of given))) e

short_by : (s : State) (tasks : ℕ) (o : Outcome) → EndsWell tasks o → outcome_of s (completion_of o) ≡ Short → o ≡ short
short_by s tasks (goes_on m) w e = absurd w
short_by s tasks (to_task t m) w e = absurd (cc e)
short_by s tasks (returns u m) w e = absurd w
short_by s tasks short w e = refl

-- an attempt of one of the tasks ends well
comes : (p : CheckedProgram) → IsRunnable p → (s : State) (given : TaskInputs) → s.task < length p.tasks
    → EndsWell (length p.tasks) (attempt_of p s.task s.shared given)
comes p ok s given below =
    let d : CheckedTask = get_or p.tasks s.task (empty_task p.entry) in
    let own : CheckedTask = get_or p.tasks s.task d in
    let at : slice_get p.tasks s.task ≡ Some own = slice_get-get_or p.tasks s.task d below in
    let good : TransitionComes p own = All-get_or (TransitionComes p) p.tasks s.task d below ok.transition_comes in
    let P : Option CheckedTask → Type 0 = λ o. EndsWell (length p.tasks) (run_block (meanings p) (body_of o) (fresh_attempt s.shared given)) in
    subst P (sym at) (good (fresh_attempt s.shared given))
  where
    empty_task : TaskName → CheckedTask
    empty_task n = record { name = n.span; body = end }

-- where a task is short its attempt is
pub is_short : (p : CheckedProgram) → IsRunnable p → (s : State) (given : Given) → s.task < length p.tasks → whole_task p s given ≡ Short
    → attempt_of p s.task s.shared (inputs_of given) ≡ short
is_short p ok s given below e =
    short_by s (length p.tasks) (attempt_of p s.task s.shared (inputs_of given)) (comes p ok s (inputs_of given) below) e
