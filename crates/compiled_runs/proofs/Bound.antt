-- The code keeps to each task's part of the bound.
use Rattle.std.proofs.Common.{◌≡◌, ◌<◌, ◌≤◌, ℕ, true, ⊎_elim, length, sym, subst, arith}
use Rattle.std.proofs.lemmas.List.Elements.{All-nil}
use Rattle.machine_effects.specs.World.{World, fram_after}
use Rattle.machine_effects.specs.Inputs.{Look, Inputs, InputsAreWords, no_inputs}
use Rattle.cost_bound.specs.Summaries.{summaries}
use Rattle.cost_bound.specs.Allowance.{list_of}
use Rattle.cost_bound.specs.Counts.{emits_of}
use Rattle.source_values.specs.Runs.{CheckedProgram, State, task_body}
use Rattle.array_versions.specs.Behaviour.{started}
use Rattle.word_code.specs.Code.{code_spent}
use Rattle.memory_map.specs.declared.runtime.Logging.TheVariants.{Redo}
use Rattle.memory_map.specs.MemoryMap.{MemoryMap}
use Rattle.lower.specs.Lowered.{lowered}
use Rattle.crash_rules.specs.Model.{Model, ModelLaws}
use Rattle.crash_rules.specs.Runs.{ProgramLaws}
use Rattle.stands_for.specs.StandsFor.{HoldsWords}
use Rattle.compiled_model.specs.Parts.{task_program, redo_model, compiled_model}
use Rattle.compiled_model.specs.Needs.{whole_cycles}
use Rattle.compiled_model.proofs.Interface.{either_logging, is_redo}
use Rattle.linked_code.proofs.Interface.{body_there}
use Rattle.linked_code.specs.Watch.{keeps_stacks}
use Rattle.compiled_runs.specs.Program.{placed_code, stack_lows, compiled_program}
use Rattle.compiled_runs.specs.Laws.{CanRun, CodeKeepsTheLaws}
use Rattle.compiled_runs.proofs.Steps.{watched_takes, watched_changes}
use Rattle.compiled_runs.proofs.Costs.{FitsCommit, BodyWithin, Costs, by_redo, programs_are, are_whole, has_stack, decided_behind, fits_commit}
use Rattle.compiled_runs.proofs.Program.{code_makes}
use Rattle.compiled_runs.proofs.Logged.{under_undo}

module _ (p : CheckedProgram) (l : MemoryMap) (logs : l.runtime.logging ≡ Redo) (r : CanRun p l) (laws : ModelLaws (redo_model p l)) where
  abbrev m : Model State
  m = redo_model p l

  abbrev list : ℕ → ℕ
  list k = list_of (summaries p) p.shared (task_body p k)

  body : (k : ℕ) (g : ℕ → ℕ) (inputs : Inputs) → k < length p.tasks → HoldsWords g → InputsAreWords inputs
      → BodyWithin p l (m.task_cost k) (list k) (list k) k g inputs
  body k g inputs named words ready =
      let count = programs_are p l r in
      let there : k < length (lowered l p) = omega (arith, named, count) in
      let whole : whole_cycles p l k g inputs ≤ m.task_cost k = (by_redo p l logs r).costs.within k g inputs named words ready in
      record {
        most = code_spent (task_program p l k) (started g inputs);
        comes = λ v enters. body_there l (lowered l p) r.fits (are_whole p l r) (stack_lows p l) k there (has_stack p l r k there) v g inputs enters words
            ready;
        within = omega (arith, whole);
      }

  lists : (s : State) (x : World) (inputs : Inputs) → InputsAreWords inputs → m.Undecided s x → let q = m.attempt x.fram inputs in
      q.ends ≡ true → FitsCommit l (list s.task) (list s.task) (emits_of (summaries p) (task_body p s.task)) (fram_after q.effects x.fram)
  lists s x inputs ready und ends =
      let d = decided_behind m s x inputs (m.attempt x.fram inputs) (laws.attempts s x inputs ready und) ends in
      subst (FitsCommit l (list s.task) (list s.task) (emits_of (summaries p) (task_body p s.task))) d.fram (fits_commit p l r laws s d.next d.world d.decided)

  abbrev bound_costs : Costs p l
  bound_costs = record {
    cost = m.task_cost;
    entries = list;
    words = list;
    body = body;
    commits = λ k named.
        let zeros : ℕ → ℕ = λ a. 0 in
        let whole : whole_cycles p l k zeros no_inputs ≤ m.task_cost k = (by_redo p l logs r).costs.within k zeros no_inputs named (λ a. omega arith) (record {
          readings = All-nil (λ w. w < 0x10000);
          looks = All-nil (λ (look : Look). (n : ℕ) → look n < 0x10000);
        }) in
        omega (arith, whole);
    lists = lists;
  }

under_redo : (p : CheckedProgram) (l : MemoryMap) → l.runtime.logging ≡ Redo → CanRun p l → ModelLaws (compiled_model p l)
    → ProgramLaws (compiled_model p l) (compiled_program p l)
under_redo p l logs r laws =
    let L : Model State → Type 0 = λ m. ModelLaws m in
    let P : Model State → Type 0 = λ m. ProgramLaws m (compiled_program p l) in
    let own = subst L (is_redo p l logs) laws in
    let makes = code_makes p l logs r own (bound_costs p l logs r own) in
    subst P (sym (is_redo p l logs)) (record {
      changes = λ s. watched_changes (keeps_stacks l (stack_lows p l)) (placed_code p l) s;
      takes_cycles = λ s. watched_takes (keeps_stacks l (stack_lows p l)) (placed_code p l) s;
      makes_boot = makes.boot;
      makes_attempt = makes.attempt;
      makes_decided = λ s next x b k e d. makes.decided s next x b k e d (fits_commit p l r own s next x d);
      makes_commit = λ to x b k e d. makes.commit to x b k e d _ ((by_redo p l logs r).costs.commits to.task d.rests.is_open.is_task);
    })

pub code_keeps_the_laws : CodeKeepsTheLaws
code_keeps_the_laws p l r laws =
    ⊎_elim {C = ProgramLaws (compiled_model p l) (compiled_program p l)} (λ logs. under_redo p l logs r laws) (λ logs. under_undo p l logs r laws)
    (either_logging l.runtime.logging)
