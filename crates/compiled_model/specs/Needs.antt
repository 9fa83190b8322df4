-- What the code of a compiled source needs of its tasks, beyond the laws of the model: their cycles, and where they leave for.
use Rattle.std.specs.Prelude.{◌≡◌, ℕ, ◌+◌, ◌<◌, ◌≤◌, ◌⊎◌, true, length}
use Rattle.machine_effects.specs.World.{World, EachStore}
use Rattle.machine_effects.specs.Inputs.{Inputs, InputsAreWords}
use Rattle.cost_bound.specs.Summaries.{summaries}
use Rattle.cost_bound.specs.Allowance.{task_bound, uses_events, versions_of, list_of}
use Rattle.cost_bound.specs.Counts.{emits_of}
use Rattle.source_values.specs.Runs.{CheckedProgram, State, task_body}
use Rattle.array_versions.specs.Behaviour.{End, GoesOn, Jumps, Gives, Short, Strays, Broken, behaviour, started}
use Rattle.array_versions.specs.Form.{IsWhole, OfWords}
use Rattle.word_code.specs.Code.{code_spent}
use Rattle.memory_map.specs.MemoryMap.{MemoryMap, with_events}
use Rattle.runtime_effects.specs.Needs.{IsEventWord}
use Rattle.boot_runtime.specs.Entries.{task_entries}
use Rattle.boot_runtime.specs.Listing.{privates_in, start_cycles}
use Rattle.commit_runtime.specs.Listing.{commit_cycles}
use Rattle.undo_runtime.specs.Listing.{recovery_cycles, start_cycles as logged_start, commit_cycles as logged_commit}
use Rattle.crash_rules.specs.Model.{Model, bound}
use Rattle.stands_for.specs.StandsFor.{HoldsWords}
use Rattle.compiled_model.specs.Parts.{task_program, private_homes, compiled_model, IsStarted}

-- a boot, at most
abbrev pub boot_cycles : MemoryMap → ℕ
boot_cycles l = with_events l.runtime.events 3 + 9

-- a task, from a power-up up to the end of its commit: a boot, a start with the clearing of the version words, the body and the commit, of as many
-- entries as words: each may be a run of its own
abbrev pub whole_cycles : CheckedProgram → MemoryMap → ℕ → (ℕ → ℕ) → Inputs → ℕ
whole_cycles p l t fram inputs =
    boot_cycles l + start_cycles l.runtime.events true l.versions.words (length (privates_in (task_entries l) t))
    + code_spent (task_program p l t) (started fram inputs)
    + commit_cycles l.runtime.events (list_of (summaries p) p.shared (task_body p t)) (list_of (summaries p) p.shared (task_body p t))
    (emits_of (summaries p) (task_body p t))

-- the same under undo: a boot that puts back as much as the task may list, a start that lists the words of its private scalars, the body, the commit
abbrev pub logged_cycles : CheckedProgram → MemoryMap → ℕ → (ℕ → ℕ) → Inputs → ℕ
logged_cycles p l t fram inputs =
    with_events l.runtime.events 3 + 6 + recovery_cycles (list_of (summaries p) p.shared (task_body p t))
    + logged_start l.runtime.events true l.versions.words (length (private_homes l t))
    + code_spent (task_program p l t) (started fram inputs)
    + logged_commit l.runtime.events (emits_of (summaries p) (task_body p t))

-- each task keeps to its bound, whatever FRAM holds and whatever the inputs are; and where there is a task, a boot with the commit of a
-- full list and full buffer keeps to the greatest
pub record CostsAreWithin (p : CheckedProgram) (l : MemoryMap) : Type 0 where
  pub within : (t : ℕ) (fram : ℕ → ℕ) (inputs : Inputs) → t < length p.tasks → HoldsWords fram → InputsAreWords inputs
      → whole_cycles p l t fram inputs ≤ task_bound (summaries p) (uses_events p) (versions_of p) p.shared (task_body p t)
  pub commits : (t : ℕ) → t < length p.tasks
      → boot_cycles l + commit_cycles l.runtime.events l.entries l.entries l.emits.words ≤ bound (compiled_model p l)

-- so under undo
pub record LoggedCostsAreWithin (p : CheckedProgram) (l : MemoryMap) : Type 0 where
  pub within : (t : ℕ) (fram : ℕ → ℕ) (inputs : Inputs) → t < length p.tasks → HoldsWords fram → InputsAreWords inputs
      → logged_cycles p l t fram inputs ≤ task_bound (summaries p) (uses_events p) (versions_of p) p.shared (task_body p t)
  pub commits : (t : ℕ) → t < length p.tasks → boot_cycles l + logged_commit l.runtime.events l.emits.words ≤ bound (compiled_model p l)

-- a program's end: it leaves for an address, or is short of readings
abbrev pub LeavesFor : ℕ → End → Type 0
LeavesFor address (Jumps to s) = to ≡ address
LeavesFor address Short = Unit {0}
LeavesFor address (GoesOn s) = ⊥
LeavesFor address (Gives v s) = ⊥
LeavesFor address Strays = ⊥
LeavesFor address Broken = ⊥

-- from a started attempt on, each task leaves for the commit, or is short of readings
pub record TasksLeave (p : CheckedProgram) (l : MemoryMap) : Type 0 where
  pub leave : (s : State) (x : World) (inputs : Inputs) → InputsAreWords inputs → IsStarted p l s x
      → LeavesFor l.commit.address (behaviour (task_program p l s.task) (started x.fram inputs)).end

-- each task's program is one of which code can be made, with room for its stack
pub record ProgramsAreWhole (p : CheckedProgram) (l : MemoryMap) : Type 0 where
  pub whole : (t : ℕ) → t < length p.tasks → IsWhole (task_program p l t)
  pub of_words : (t : ℕ) → t < length p.tasks → OfWords (task_program p l t)

-- each attempt of a model stores only so
abbrev pub AttemptsStore : Model State → (ℕ → ℕ → Type 0) → Type 0
AttemptsStore m P = (s : State) (x : World) (inputs : Inputs) → InputsAreWords inputs → m.Settled s x → EachStore P (m.attempt x.fram inputs).effects

-- a store below an address, or to a word that counts events
abbrev pub StoresBelow : MemoryMap → ℕ → ℕ → ℕ → Type 0
StoresBelow l end a w = (a < end) ⊎ IsEventWord l a

-- each attempt of a source stores below an address alone, or to a word that counts events
abbrev pub AttemptsStoreBelow : CheckedProgram → MemoryMap → ℕ → Type 0
AttemptsStoreBelow p l end = AttemptsStore (compiled_model p l) (StoresBelow l end)
