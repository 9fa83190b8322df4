-- What tasks cost, as the code's laws take it: for each any number that has its cycles, so that the same proof has the bound and the need.
use Rattle.std.proofs.Common.{◌≡◌, ◌<◌, ◌≤◌, ◌+◌, ℕ, true, List, [], ◌∷◌, length, sym, ap, ◌∙◌, subst, arith}
use Rattle.std.specs.Option.{option_map}
use Rattle.std.proofs.lemmas.Option.{slice_get-map}
use Rattle.fram_board.specs.Effects.{Effect, Store}
use Rattle.machine_effects.specs.World.{World, put, fram_after, world_after, world_after_one}
use Rattle.machine_effects.specs.Inputs.{Inputs, InputsAreWords}
use Rattle.machine_effects.proofs.Interface.{fram_after-append}
use Rattle.code_forms.specs.Forms.{Core}
use Rattle.crash_rules.proofs.Interface.{world_fram}
use Rattle.cost_bound.specs.Summaries.{summaries}
use Rattle.cost_bound.specs.Allowance.{CheckedTask, list_of}
use Rattle.cost_bound.specs.Counts.{emits_of}
use Rattle.war_analysis.proofs.Interface.{element}
use Rattle.source_values.specs.Runs.{CheckedProgram, State, task_body}
use Rattle.array_versions.specs.Behaviour.{behaviour, started}
use Rattle.memory_map.specs.declared.runtime.Logging.TheVariants.{Redo, Undo}
use Rattle.memory_map.specs.declared.words.RuntimeWord.TheVariants.{ListLength, EmitCount, SentBase}
use Rattle.memory_map.specs.MemoryMap.{MemoryMap, word_place, with_events}
use Rattle.runtime_effects.specs.Places.{listed}
use Rattle.runtime_effects.specs.Needs.{CanCommit}
use Rattle.runtime_code.specs.Addresses.{stack_top}
use Rattle.runtime_code.specs.Comes.{Enters}
use Rattle.boot_runtime.specs.Entries.{task_entries}
use Rattle.boot_runtime.specs.Listing.{entry_at, privates_in, start_cycles}
use Rattle.commit_runtime.specs.Listing.{commit_cycles}
use Rattle.lower.specs.Lowered.{lowered}
use Rattle.crash_rules.specs.Model.{Model, ProgramEffects, ModelLaws, AttemptContract, Decides as DecidesTo, Comes as Decides, Lacks}
use Rattle.stands_for.specs.StandsFor.{HoldsWords}
use Rattle.stands_for.proofs.Interface.{pending_can_commit}
use Rattle.compiled_model.specs.Places.{program_places}
use Rattle.compiled_model.specs.Parts.{task_program, redo_model}
use Rattle.compiled_model.specs.Needs.{boot_cycles}
use Rattle.linked_code.specs.Linked.{ProgramsAreWhole}
use Rattle.linked_code.specs.Watch.{HasStack, StackedTo}
use Rattle.linked_code.proofs.Interface.{programs_count}
use Rattle.compiled_runs.specs.Program.{stack_low, stack_lows}
use Rattle.compiled_runs.specs.Laws.{RunsByRedo, RunsByUndo, RunsBy, CanRun}

-- a list and a buffer within so much, with which the commit of FRAM can be made
pub record FitsCommit (l : MemoryMap) (entries words emits : ℕ) (f : ℕ → ℕ) : Type 0 where
  pub can : CanCommit l f
  pub list : f (word_place l ListLength) ≤ entries
  pub named : length (listed l f) ≤ words
  pub sent : f (word_place l EmitCount) ≤ emits
  pub base : f (word_place l SentBase) < 0x10000

-- the code of a task on FRAM and inputs keeps to so many cycles, for which its cost has room beside a boot, the clearing and a commit of so many entries
-- and words
pub record BodyWithin (p : CheckedProgram) (l : MemoryMap) (cost entries words k : ℕ) (g : ℕ → ℕ) (inputs : Inputs) : Type 0 where
  pub most : ℕ
  pub comes : (v : Core) → Enters (entry_at (task_entries l) k).code stack_top g inputs v
      → let b = behaviour (task_program p l k) (started g inputs) in StackedTo l (lowered l p) (stack_lows p l) most v b.effects b.end
  pub within : with_events l.runtime.events 3 + 6
      + start_cycles l.runtime.events true l.versions.words (length (privates_in (task_entries l) k)) + most
      + commit_cycles l.runtime.events entries words (emits_of (summaries p) (task_body p k)) ≤ cost

-- what each task costs, and what its list has at most: its cost has its body's cycles, those of a commit that it left pending, and where it decides its
-- list is such
pub record Costs (p : CheckedProgram) (l : MemoryMap) : Type 0 where
  pub cost : ℕ → ℕ
  pub entries : ℕ → ℕ
  pub words : ℕ → ℕ
  pub body : (k : ℕ) (g : ℕ → ℕ) (inputs : Inputs) → k < length p.tasks → HoldsWords g → InputsAreWords inputs
      → BodyWithin p l (cost k) (entries k) (words k) k g inputs
  pub commits : (k : ℕ) → k < length p.tasks
      → boot_cycles l + commit_cycles l.runtime.events (entries k) (words k) (emits_of (summaries p) (task_body p k)) ≤ cost k
  pub lists : (s : State) (x : World) (inputs : Inputs) → InputsAreWords inputs → (redo_model p l).Undecided s x
      → let q = (redo_model p l).attempt x.fram inputs in
      q.ends ≡ true → FitsCommit l (entries s.task) (words s.task) (emits_of (summaries p) (task_body p s.task)) (fram_after q.effects x.fram)

-- what each runtime asks for
pub by_redo : (p : CheckedProgram) (l : MemoryMap) → l.runtime.logging ≡ Redo → CanRun p l → RunsByRedo p l
by_redo p l logs r = subst (λ g. RunsBy g p l) logs r.own

pub by_undo : (p : CheckedProgram) (l : MemoryMap) → l.runtime.logging ≡ Undo → CanRun p l → RunsByUndo p l
by_undo p l logs r = subst (λ g. RunsBy g p l) logs r.own

-- as many programs as tasks
pub programs_are : (p : CheckedProgram) (l : MemoryMap) → CanRun p l → length (lowered l p) ≡ length p.tasks
programs_are p l r = let a = programs_count l.tasks (lowered l p) r.fits.tasks in a ∙ r.count

-- so each program is a task's
pub of_task : (p : CheckedProgram) (l : MemoryMap) → CanRun p l → (k : ℕ) → k < length (lowered l p) → k < length p.tasks
of_task p l r k h = let n = programs_are p l r in omega (arith, h, n)

abbrev pub are_whole : (p : CheckedProgram) (l : MemoryMap) → CanRun p l → ProgramsAreWhole (lowered l p)
are_whole p l r = record { whole = λ k h. r.programs.whole k (of_task p l r k h); of_words = λ k h. r.programs.of_words k (of_task p l r k h) }

-- and each has its stack
pub has_stack : (p : CheckedProgram) (l : MemoryMap) (r : CanRun p l) (k : ℕ) (named : k < length (lowered l p))
    → HasStack l (lowered l p) (are_whole p l r) (stack_lows p l) k named
has_stack p l r k named =
    let below = of_task p l r k named in
    let count = r.count in
    let low : CheckedTask → ℕ = stack_low (summaries p) in
    let task = element p.tasks k below in
    let place = element l.tasks k (omega (arith, below, count)) in
    record {
      place = place.0;
      at = place.1;
      low = low task.0;
      is_low = slice_get-map low p.tasks k ∙ ap (option_map low) task.1;
      lowest = r.stacks k below task.0 task.1;
    }

-- ---- what an attempt decides

-- the FRAM of the world that an attempt decides
pub decided_fram : (m : Model State) (s next : State) (inputs : Inputs) (x : World) (q : ProgramEffects) → (d : DecidesTo m s next inputs x q)
    → (world_after_one (Store m.marks.gate 1) (world_after d.before x)).fram ≡ fram_after q.effects x.fram
decided_fram m s next inputs x q d =
    let es : List Effect = Store m.marks.gate 1 ∷ [] in
    ap (λ g. put g m.marks.gate 1) (world_fram d.before x)
    ∙ sym (fram_after-append d.before es x.fram)
    ∙ ap (λ k. fram_after k.effects x.fram) (sym d.is)

-- an attempt that comes to its end is decided
pub record IsDecidedBehind (m : Model State) (s : State) (f : ℕ → ℕ) (es : List Effect) : Type 0 where
  pub next : State
  pub world : World
  pub decided : m.Decided s next world
  pub fram : world.fram ≡ fram_after es f

pub decided_behind : (m : Model State) (s : State) (x : World) (inputs : Inputs) (q : ProgramEffects) → AttemptContract m s inputs x q → q.ends ≡ true
    → IsDecidedBehind m s x.fram q.effects
decided_behind m s x inputs q (Decides next d) t = record {
  next = next;
  world = world_after_one (Store m.marks.gate 1) (world_after d.before x);
  decided = d.decided;
  fram = decided_fram m s next inputs x q d;
}
decided_behind m s x inputs q (Lacks d) t = absurd (let e = d.is in cc (t, e))

-- a decided world's list and words to send have the room that its task has
pub fits_commit : (p : CheckedProgram) (l : MemoryMap) → CanRun p l → ModelLaws (redo_model p l) → (s next : State) (x : World)
    → (redo_model p l).Decided s next x
    → FitsCommit l (list_of (summaries p) p.shared (task_body p s.task)) (list_of (summaries p) p.shared (task_body p s.task))
    (emits_of (summaries p) (task_body p s.task)) x.fram
fits_commit p l r laws s next x d =
    let e = d.decided.sends.emit_count in let k = d.decided.sends.within_emits in
    record {
      can = pending_can_commit (program_places p l) x r.apart (laws.decided_committing s next x d).pending;
      list = d.decided.home.within_list;
      named = d.decided.home.within_words;
      sent = omega (arith, e, k);
      base = d.decided.sends.words (word_place l SentBase);
    }
