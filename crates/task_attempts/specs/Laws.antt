-- What the word programs of a source's tasks owe the crash theorem.
use Rattle.std.specs.Prelude.{◌≡◌, ℕ, ◌≤◌, true, List}
use Rattle.machine_effects.specs.World.{World}
use Rattle.machine_effects.specs.Inputs.{Inputs, InputsAreWords}
use Rattle.cost_bound.specs.declared.allowance.Allow.{Allow}
use Rattle.source_values.specs.Runs.{CheckedProgram, State}
use Rattle.source_values.specs.Running.{IsRunnable}
use Rattle.war_analysis.specs.PlanValue.{TaskPlanValue}
use Rattle.address_space.specs.Limits.{fram_first}
use Rattle.memory_map.specs.declared.runtime.Logging.TheVariants.{Redo}
use Rattle.memory_map.specs.declared.words.RuntimeWord.TheVariants.{ListLength, EmitCount}
use Rattle.memory_map.specs.MemoryMap.{MemoryMap, word_place}
use Rattle.array_versions.specs.Behaviour.{behaviour, started}
use Rattle.crash_rules.specs.Model.{ModelLaws, AttemptContract}
use Rattle.compiled_model.specs.Parts.{compiled_model, IsStarted, task_program, effects_of}
use Rattle.compiled_model.specs.Needs.{TasksLeave, AttemptsStore, StoresBelow}
use Rattle.whole_programs.specs.Laws.{IsLaidOutText}
use Rattle.task_needs.specs.Lists.{TasksListFew}
use Rattle.event_rules.specs.Taking.{ScriptsTakeInOrder}

-- what holds of each accepted text with a plan and a layout, whose runs go on
abbrev OfTexts : (CheckedProgram → MemoryMap → Type 0) → Type 0
OfTexts F = (text : List ℕ) (p : CheckedProgram) (allow : Allow) (plans : List TaskPlanValue) (l : MemoryMap)
    → IsLaidOutText text p allow plans l → IsRunnable p → F p l

-- the word programs keep the tasks' contract: from a started attempt on they decide, or are short exactly where the source is
abbrev pub TasksKeepTheirContract : Type 0
TasksKeepTheirContract = OfTexts (λ p l. (s : State) (x : World) (inputs : Inputs) → InputsAreWords inputs → IsStarted p l s x
    → AttemptContract (compiled_model p l) s inputs x (effects_of (behaviour (task_program p l s.task) (started x.fram inputs))))

-- so a compiled source has all that the crash theorem needs
abbrev pub CompiledSourcesKeepTheLaws : Type 0
CompiledSourcesKeepTheLaws = OfTexts (λ p l. ModelLaws (compiled_model p l))

-- a store to the runtime's words, to its lists, or to copies: behind the beginning of FRAM and before the code, or at a word that counts events; to CLN
-- and EN within the capacities of the list and the buffer
pub record IsBelowCode (l : MemoryMap) (a w : ℕ) : Type 0 where
  pub from : fram_first ≤ a
  pub below : StoresBelow l l.boot.address a w
  pub list : a ≡ word_place l ListLength → w ≤ l.entries
  pub emits : a ≡ word_place l EmitCount → w ≤ l.emits.words

-- an attempt stores nothing to the code
abbrev pub AttemptsStoreBelowCode : Type 0
AttemptsStoreBelowCode = OfTexts (λ p l. AttemptsStore (compiled_model p l) (IsBelowCode l))

-- from a started attempt on each task leaves for the commit, or is short of readings
abbrev pub TasksLeaveForTheCommit : Type 0
TasksLeaveForTheCommit = OfTexts TasksLeave

-- and where it leaves under redo, the commit list is within what the task needs cycles for
abbrev pub TasksListFewWords : Type 0
TasksListFewWords = OfTexts (λ p l. l.runtime.logging ≡ Redo → TasksListFew p l)

-- where a source takes events, its attempts and commits take words of the ring in order
abbrev pub SourcesTakeInOrder : Type 0
SourcesTakeInOrder = OfTexts (λ p l. l.runtime.events ≡ true → ScriptsTakeInOrder (compiled_model p l))
