-- The laws of expressions and statements, and the programs of tasks by their numbers.
use Rattle.lower.proofs.Names.{◌≡◌, ℕ, zero, suc, ◌+◌, ◌≤◌, List, [], ◌∷◌, Some, Option, ap, ◌∙◌, arith, le_refl, CheckedExpression, CheckedFunction}
use Rattle.lower.proofs.Names.{CheckedTask}
use Rattle.lower.proofs.Names.{Evaluated, Unsigned, Long, truth, one, stacked, Program, WordState, behaviour, Places, MemoryMap, TaskPlace, Element, listed_of}
use Rattle.lower.proofs.Names.{lowered_expression, lowered_long, lowered_test, lowered_task, lowered_tasks, no_programs, Scene, code_places, by_answers}
use Rattle.lower.proofs.Names.{converted_to, truth_of, expression_lists, value_of, ValuesAgree, ExpressionsAgree, LongsAgree, TestsAgree, BlocksAgree}
use Rattle.std.proofs.Common.{get_or, slice_get}
use Rattle.cost_bound.specs.Counts.{stores_of}
use Rattle.source_values.specs.Values.{type_of}
use Rattle.lower.proofs.Sequence.{Keeping, none_spare, agrees_with}
use Rattle.lower.proofs.Values.{single}
use Rattle.lower.proofs.EachExpression.{LeaveValues, expression_leaves, long_leaves, tests_leave}
use Rattle.lower.proofs.Elements.{Start}
use Rattle.lower.proofs.Blocks.{block_does}
use Rattle.lower.proofs.Routines.{functions_agree}

values_agree : (words : ℕ → List ℕ) (program : Places → List Program → CheckedExpression → Program)
    (value : CheckedExpression → Option Evaluated → Option Evaluated) → LeaveValues words program value → ValuesAgree words program value
values_agree words program value leave z fs e m listed w are number fits writes stands emits lists =
    let k : Keeping = record { z = z; most = λ v. listed_of v listed + expression_lists z.fs v e; within = lists; free = none_spare } in
    agrees_with k words w (behaviour (program (code_places z) z.fs.bodies e) w) (by_answers m (λ s. value e (value_of z.fs.meanings e s)))
    (leave k (functions_agree z fs are) e m w (record {
      listed = listed;
      stands = record { variables = stands.variables; emitted = stands.emitted; list = stands.list; readings = stands.readings };
      number = number;
      emits = omega (arith, emits);
      lists = λ v. omega arith;
    }) fits writes)

pub expressions_agree : ExpressionsAgree
expressions_agree = values_agree single lowered_expression (λ e o. converted_to (type_of e) Unsigned o) expression_leaves

pub longs_agree : LongsAgree
longs_agree = values_agree stacked lowered_long (λ e o. converted_to (type_of e) Long o) long_leaves

pub tests_agree : TestsAgree
tests_agree = values_agree single (λ p rs e. one (truth (lowered_test p rs e))) (λ e o. truth_of o) tests_leave

pub blocks_agree : BlocksAgree
unfolding stores_of
blocks_agree z fs block m listed w are number fits admits writes stands emits lists =
    let most : ℕ → ℕ = λ v. listed_of v listed + stores_of z.fs.summaries v block in
    block_does z (functions_agree z fs are) block (record {
      m = m;
      listed = listed;
      w = w;
      most = most;
      stands = stands;
      number = number;
      emits = emits;
      lists = λ v. le_refl (most v);
      within = lists;
    }) fits admits writes

-- the program of a task, by its number
pub program_at : (fs : List CheckedFunction) (l : MemoryMap) (tasks : List CheckedTask) (layouts : List TaskPlace) (k : ℕ) (task : CheckedTask)
    (t : TaskPlace) → slice_get tasks k ≡ Some task → slice_get layouts k ≡ Some t
    → get_or (lowered_tasks fs l tasks layouts) k no_programs ≡ lowered_task fs l t task.body
program_at fs l [] layouts k task t e h = cc e
program_at fs l (u ∷ tasks) [] k task t e h = cc h
program_at fs l (u ∷ tasks) (v ∷ layouts) zero task t e h =
    let a : u ≡ task = cc in
    let b : v ≡ t = cc in
    ap (λ z. lowered_task fs l v z.body) a ∙ ap (λ z. lowered_task fs l z task.body) b
program_at fs l (u ∷ tasks) (v ∷ layouts) (suc k) task t e h = program_at fs l tasks layouts k task t e h
