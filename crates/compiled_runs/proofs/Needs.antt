-- The code keeps to each task's need.
use Rattle.std.proofs.Common.{◌≡◌, ◌+◌, ◌<◌, ◌≤◌, ◌-◌, ⊎_elim, ℕ, true, length, sym, ap, ◌∙◌, subst, arith}
use Rattle.std.proofs.lemmas.Bool.{cases_lt}
use Rattle.machine_effects.specs.World.{World, fram_after}
use Rattle.machine_effects.specs.Inputs.{Inputs, InputsAreWords}
use Rattle.machine_effects.specs.Machine.{MachineBoard}
use Rattle.cost_bound.specs.Summaries.{summaries}
use Rattle.cost_bound.specs.Counts.{emits_of}
use Rattle.source_values.specs.Runs.{CheckedProgram, State, task_body}
use Rattle.array_versions.specs.Behaviour.{started}
use Rattle.word_code.specs.Code.{code_spent}
use Rattle.code_costs.specs.Dearest.{most_spent}
use Rattle.memory_map.specs.declared.runtime.Logging.{Logging}
use Rattle.memory_map.specs.declared.runtime.Logging.TheVariants.{Redo, Undo}
use Rattle.memory_map.specs.MemoryMap.{MemoryMap}
use Rattle.lower.specs.Lowered.{lowered}
use Rattle.crash_rules.specs.Model.{Model, ModelLaws, ProgramEffects, bound}
use Rattle.crash_rules.specs.Runs.{Program, ProgramLaws, Makes}
use Rattle.stands_for.specs.StandsFor.{HoldsWords}
use Rattle.compiled_model.specs.Parts.{task_program, program_parts, redo_model, logged_model, compiled_model}
use Rattle.compiled_model.specs.Needs.{boot_cycles}
use Rattle.compiled_model.proofs.Interface.{either_logging, is_redo, is_logged}
use Rattle.linked_code.proofs.Interface.{body_there}
use Rattle.task_needs.specs.Needs.{own_entries, own_words, beside_path, need_under}
use Rattle.task_needs.specs.Lists.{ListsWithin, TasksListFew, NeedsAreWithin, with_needs}
use Rattle.task_needs.specs.Laws.{full_cycles}
use Rattle.task_needs.proofs.Interface.{tasks_keep_to_their_ways, attempts_are_counted, own_commits_are_counted, own_cost, pending_commits_are_counted}
use Rattle.linked_code.specs.Watch.{keeps_stacks}
use Rattle.compiled_runs.specs.Program.{placed_code, stack_lows, compiled_program}
use Rattle.compiled_runs.specs.Laws.{CanRun, CodeKeepsToNeeds}
use Rattle.compiled_runs.proofs.Steps.{watched_takes, watched_changes}
use Rattle.compiled_runs.proofs.Costs.{FitsCommit, BodyWithin, Costs, programs_are, are_whole, has_stack, decided_behind, fits_commit}
use Rattle.compiled_runs.proofs.NeedsModel.{lists_there}
use Rattle.compiled_runs.proofs.Program.{code_makes}
use Rattle.compiled_runs.proofs.Logged.{LoggedBodyWithin, LoggedCosts, logged_code_makes}

-- a task's cost is its need under the runtime that the map names
need_is_cost : (p : CheckedProgram) (l : MemoryMap) (logging : Logging) → l.runtime.logging ≡ logging → (m : Model State) (t : ℕ)
    → t < length p.tasks → need_under logging p l t ≡ (with_needs p l m).task_cost t
need_is_cost p l logging logs m t below = ap (λ g. need_under g p l t) (sym logs) ∙ own_cost p l m t below

-- the greatest of the costs has a commit of a full list and a full buffer
pending_paid : (p : CheckedProgram) (l : MemoryMap) (logging : Logging) → l.runtime.logging ≡ logging
    → boot_cycles l + full_cycles logging l ≤ bound (with_needs p l (compiled_model p l))
pending_paid p l logging logs =
    subst (λ g. boot_cycles l + full_cycles g l ≤ bound (with_needs p l (compiled_model p l))) logs (pending_commits_are_counted p l)

-- ---- under redo

module _ (p : CheckedProgram) (l : MemoryMap) (logs : l.runtime.logging ≡ Redo) (r : CanRun p l) (few : TasksListFew p l)
    (within : NeedsAreWithin Redo p l) (laws : ModelLaws (redo_model p l)) where
  abbrev m : Model State
  m = redo_model p l

  abbrev n : Model State
  n = with_needs p l m

  abbrev entries : ℕ → ℕ
  entries = own_entries p l

  abbrev words : ℕ → ℕ
  words = own_words p l

  -- by the dearest way; or as the table has it, where that is less
  body : (k : ℕ) (g : ℕ → ℕ) (inputs : Inputs) → k < length p.tasks → HoldsWords g → InputsAreWords inputs
      → BodyWithin p l (need_under Redo p l k) (entries k) (words k) k g inputs
  body k g inputs named are_words ready =
      let count = programs_are p l r in
      let there : k < length (lowered l p) = omega (arith, named, count) in
      let most = most_spent (task_program p l k) in
      let left = (program_parts p l).cost k - beside_path Redo p l k in
      let table = within.within k g inputs named are_words ready in
      ⊎_elim {C = BodyWithin p l (need_under Redo p l k) (entries k) (words k) k g inputs}
      (λ less. record {
        most = code_spent (task_program p l k) (started g inputs);
        comes = λ v enters. body_there l (lowered l p) r.fits (are_whole p l r) (stack_lows p l) k there (has_stack p l r k there) v g inputs enters are_words
            ready;
        within = attempts_are_counted Redo p l k (code_spent (task_program p l k) (started g inputs)) (omega (arith, less, table));
      })
      (λ enough. record {
        most = most;
        comes = λ v enters.
            tasks_keep_to_their_ways l (lowered l p) r.fits (are_whole p l r) (stack_lows p l) k there (has_stack p l r k there) v g inputs enters are_words
            ready;
        within = attempts_are_counted Redo p l k most (omega (arith, enough));
      })
      (cases_lt left most)

  lists : (s : State) (x : World) (inputs : Inputs) → InputsAreWords inputs → m.Undecided s x → let q = m.attempt x.fram inputs in
      q.ends ≡ true → FitsCommit l (entries s.task) (words s.task) (emits_of (summaries p) (task_body p s.task)) (fram_after q.effects x.fram)
  lists s x inputs ready und ends =
      let d = decided_behind m s x inputs (m.attempt x.fram inputs) (laws.attempts s x inputs ready und) ends in
      let own : ListsWithin p l s.task d.world.fram = subst (ListsWithin p l s.task) (sym d.fram) (lists_there p l logs r few s x inputs ready und ends) in
      subst (FitsCommit l (entries s.task) (words s.task) (emits_of (summaries p) (task_body p s.task))) d.fram (own_fits s d.next d.world d.decided own)
    where
      own_fits : (s next : State) (x : World) → m.Decided s next x → ListsWithin p l s.task x.fram
          → FitsCommit l (entries s.task) (words s.task) (emits_of (summaries p) (task_body p s.task)) x.fram
      own_fits s next x d own =
          let k = fits_commit p l r laws s next x d in record { can = k.can; list = own.entries; named = own.words; sent = k.sent; base = k.base }

  abbrev need_costs : Costs p l
  need_costs = record {
    cost = need_under Redo p l;
    entries = entries;
    words = words;
    body = body;
    commits = λ k named. own_commits_are_counted Redo p l k;
    lists = lists;
  }

  abbrev c : Program
  c = compiled_program p l

  -- what is made within a task's need is within its cost
  so : (s : State) (q : ProgramEffects) (b : MachineBoard) → s.task < length p.tasks → Makes c m.delay (need_under Redo p l s.task) q b
      → Makes c m.delay (n.task_cost s.task) q b
  so s q b below made = subst (λ most. Makes c m.delay most q b) (need_is_cost p l Redo logs m s.task below) made

  code_needs : ProgramLaws n c
  code_needs =
      let makes = code_makes p l logs r laws need_costs in
      record {
        changes = λ s. watched_changes (keeps_stacks l (stack_lows p l)) (placed_code p l) s;
        takes_cycles = λ s. watched_takes (keeps_stacks l (stack_lows p l)) (placed_code p l) s;
        makes_boot = λ s x b k e ready und. so s _ b und.is_open.is_task (makes.boot s x b k e ready und);
        makes_attempt = λ s x b k e ready und. so s _ b und.is_open.is_task (makes.attempt s x b k e ready und);
        makes_decided = λ s next x b k e d.
            let f = fits_commit p l r laws s next x d.decided in
            so s _ b d.decided.decided.sends.is_task (makes.decided s next x b k e d.decided
            (record { can = f.can; list = (d.lists logs).entries; named = (d.lists logs).words; sent = f.sent; base = f.base }));
        makes_commit = λ to x b k e d. makes.commit to x b k e d _ (pending_paid p l Redo logs);
      }

-- ---- under undo

module _ (p : CheckedProgram) (l : MemoryMap) (logs : l.runtime.logging ≡ Undo) (r : CanRun p l) (within : NeedsAreWithin Undo p l)
    (laws : ModelLaws (logged_model p l)) where
  abbrev mu : Model State
  mu = logged_model p l

  logged_body : (k : ℕ) (g : ℕ → ℕ) (inputs : Inputs) → k < length p.tasks → HoldsWords g → InputsAreWords inputs
      → LoggedBodyWithin p l (need_under Undo p l k) k g inputs
  logged_body k g inputs named are_words ready =
      let count = programs_are p l r in
      let there : k < length (lowered l p) = omega (arith, named, count) in
      let most = most_spent (task_program p l k) in
      let left = (program_parts p l).cost k - beside_path Undo p l k in
      let table = within.within k g inputs named are_words ready in
      ⊎_elim {C = LoggedBodyWithin p l (need_under Undo p l k) k g inputs}
      (λ less. record {
        most = code_spent (task_program p l k) (started g inputs);
        comes = λ v enters. body_there l (lowered l p) r.fits (are_whole p l r) (stack_lows p l) k there (has_stack p l r k there) v g inputs enters are_words
            ready;
        within = attempts_are_counted Undo p l k (code_spent (task_program p l k) (started g inputs)) (omega (arith, less, table));
      })
      (λ enough. record {
        most = most;
        comes = λ v enters.
            tasks_keep_to_their_ways l (lowered l p) r.fits (are_whole p l r) (stack_lows p l) k there (has_stack p l r k there) v g inputs enters are_words
            ready;
        within = attempts_are_counted Undo p l k most (omega (arith, enough));
      })
      (cases_lt left most)

  abbrev logged_costs : LoggedCosts p l
  logged_costs = record {
    cost = need_under Undo p l;
    body = logged_body;
    commits = λ k named. own_commits_are_counted Undo p l k;
  }

  logged_so : (s : State) (q : ProgramEffects) (b : MachineBoard) → s.task < length p.tasks
      → Makes (compiled_program p l) mu.delay (need_under Undo p l s.task) q b
      → Makes (compiled_program p l) mu.delay ((with_needs p l mu).task_cost s.task) q b
  logged_so s q b below made =
      subst (λ most. Makes (compiled_program p l) mu.delay most q b) (need_is_cost p l Undo logs mu s.task below) made

  logged_needs : ProgramLaws (with_needs p l mu) (compiled_program p l)
  logged_needs =
      let makes = logged_code_makes p l logs r laws logged_costs in
      record {
        changes = λ s. watched_changes (keeps_stacks l (stack_lows p l)) (placed_code p l) s;
        takes_cycles = λ s. watched_takes (keeps_stacks l (stack_lows p l)) (placed_code p l) s;
        makes_boot = λ s x b k e ready und. logged_so s _ b und.behind.is_open.is_task (makes.boot s x b k e ready und);
        makes_attempt = λ s x b k e ready settled. logged_so s _ b settled.undecided.behind.is_open.is_task (makes.attempt s x b k e ready settled);
        makes_decided = λ s next x b k e d. logged_so s _ b d.decided.closes.sends.is_task (makes.decided s next x b k e d.decided);
        makes_commit = λ to x b k e d. makes.commit to x b k e d _ (pending_paid p l Undo logs);
      }

pub code_keeps_to_needs : CodeKeepsToNeeds
code_keeps_to_needs p l r few within laws =
    let L : Model State → Type 0 = λ m. ModelLaws m in
    let N : Logging → Type 0 = λ g. NeedsAreWithin g p l in
    let P : Model State → Type 0 = λ m. ProgramLaws (with_needs p l m) (compiled_program p l) in
    ⊎_elim {C = P (compiled_model p l)}
    (λ logs. subst P (sym (is_redo p l logs)) (code_needs p l logs r (few logs) (subst N logs within) (subst L (is_redo p l logs) laws)))
    (λ logs. subst P (sym (is_logged p l logs)) (logged_needs p l logs r (subst N logs within) (subst L (is_logged p l logs) laws)))
    (either_logging l.runtime.logging)
