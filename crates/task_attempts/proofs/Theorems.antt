-- The laws of compiled tasks, under the runtime of the memory map.
use Rattle.task_attempts.proofs.Names.{sym, subst, ⊎_elim, World, Inputs, InputsAreWords, behaviour, started, AttemptContract, model_by, started_under}
use Rattle.task_attempts.proofs.Names.{task_program, effects_of, AttemptsStore, State, keeps_the_laws, blocks_agree, program_places, state_view, Model}
use Rattle.task_attempts.proofs.Names.{ModelLaws}
use Rattle.task_attempts.proofs.Names.{program_parts, TasksKeepTheirContract, CompiledSourcesKeepTheLaws, IsBelowCode, AttemptsStoreBelowCode}
use Rattle.task_attempts.proofs.Names.{TasksLeaveForTheCommit, Redo, Undo}
use Rattle.memory_map.specs.declared.runtime.Logging.{Logging}
use Rattle.memory_map.specs.declared.runtime.Role.{Role}
use Rattle.memory_map.specs.declared.runtime.Role.TheVariants.{Alone}
use Rattle.compiled_model.specs.Parts.{compiled_model, logged_parts, private_homes}
use Rattle.compiled_model.specs.Needs.{LeavesFor}
use Rattle.compiled_model.proofs.Interface.{either_logging, is_redo, is_logged, under_map, from_map}
use Rattle.event_rules.specs.Taking.{ScriptsTakeInOrder}
use Rattle.undo_states.proofs.Interface.{undo_keeps_the_laws}
use Rattle.task_attempts.specs.Laws.{SourcesTakeInOrder, TasksListFewWords}
use Rattle.task_attempts.proofs.Given.{given, given_logged}
use Rattle.task_attempts.proofs.Started.{attempt_at, redo_run, logged_at, undo_run}
use Rattle.task_attempts.proofs.Contracts.{program_leaves}
use Rattle.task_attempts.proofs.RedoLaws as by_redo
use Rattle.task_attempts.proofs.LoggedLaws as by_undo

pub tasks_contract : TasksKeepTheirContract
tasks_contract text p allow plans l laid runnable =
    let P : Logging → Role → Type 0 = λ logging role. (s : State) (x : World) (inputs : Inputs) → InputsAreWords inputs → started_under logging p l s x
    → AttemptContract (model_by logging role p l) s inputs x (effects_of (behaviour (task_program p l s.task) (started x.fram inputs))) in
    ⊎_elim {C = P l.runtime.logging l.runtime.role}
    (λ redo. under_map l P redo (by_redo.keeps p l (given text p allow plans l laid redo runnable)))
    (λ undo. under_map l P undo (by_undo.keeps p l (given_logged text p allow plans l laid undo runnable)))
    (either_logging l.runtime.logging)

pub compiled_laws : CompiledSourcesKeepTheLaws
compiled_laws text p allow plans l laid runnable =
    let P : Model State → Type 0 = λ m. ModelLaws m in
    let sites = program_places p l in
    let view = state_view p l in
    ⊎_elim {C = ModelLaws (compiled_model p l)}
    (λ redo.
    let g = given text p allow plans l laid redo runnable in
    subst P (sym (is_redo p l redo))
    (keeps_the_laws State sites view (by_redo.privates p l g) (program_parts p l) g.source.apart g.source.room (by_redo.start p l g) (by_redo.keeps p l g)))
    (λ undo.
    let g = given_logged text p allow plans l laid undo runnable in
    subst P (sym (is_logged p l undo))
    (undo_keeps_the_laws State sites view (private_homes l) (logged_parts p l) g.source.apart g.source.room (by_undo.start p l g) (by_undo.keeps p l g)))
    (either_logging l.runtime.logging)

pub stores_below_code : AttemptsStoreBelowCode
stores_below_code text p allow plans l laid runnable =
    let P : Model State → Type 0 = λ m. AttemptsStore m (IsBelowCode l) in
    ⊎_elim {C = P (compiled_model p l)}
    (λ redo. subst P (sym (is_redo p l redo)) (by_redo.stores p l (given text p allow plans l laid redo runnable)))
    (λ undo. subst P (sym (is_logged p l undo)) (by_undo.stores p l (given_logged text p allow plans l laid undo runnable)))
    (either_logging l.runtime.logging)

pub tasks_leave : TasksLeaveForTheCommit
tasks_leave text p allow plans l laid runnable = record {
  leave = λ s x inputs small st.
      let P : Logging → Role → Type 0 = λ logging role. started_under logging p l s x in
      ⊎_elim {C = LeavesFor l.commit.address (behaviour (task_program p l s.task) (started x.fram inputs)).end}
      (λ redo.
      let a = attempt_at p l (given text p allow plans l laid redo runnable) s x inputs (from_map l P redo st) in
      program_leaves Redo Alone (redo_run a) (by_redo.redo_keeps a) blocks_agree small)
      (λ undo.
      let a = logged_at p l (given_logged text p allow plans l laid undo runnable) s x inputs (from_map l P undo st) in
      program_leaves Undo Alone (undo_run a) (by_undo.logged_keeps a) blocks_agree small)
      (either_logging l.runtime.logging);
}

pub tasks_list_few : TasksListFewWords
tasks_list_few text p allow plans l laid runnable redo = record {
  few = λ s x inputs small st.
      let P : Logging → Role → Type 0 = λ logging role. started_under logging p l s x in
      by_redo.lists p l (given text p allow plans l laid redo runnable) s x inputs small (from_map l P redo st);
}

pub scripts_in_order : SourcesTakeInOrder
scripts_in_order text p allow plans l laid runnable on =
    let P : Model State → Type 0 = λ m. ScriptsTakeInOrder m in
    ⊎_elim {C = P (compiled_model p l)}
    (λ redo. subst P (sym (is_redo p l redo)) (by_redo.in_order p l (given text p allow plans l laid redo runnable) on))
    (λ undo. subst P (sym (is_logged p l undo)) (by_undo.in_order p l (given_logged text p allow plans l laid undo runnable) on))
    (either_logging l.runtime.logging)
