-- What holds of each accepted source that is compiled, whatever its runs.
use Rattle.std.specs.Prelude.{◌≡◌, ℕ, ◌+◌, ◌*◌, ◌≤◌, List, [], ◌∷◌, length}
use Rattle.msp_step.specs.declared.machine.Stop.{Stop}
use Rattle.msp_step.specs.declared.machine.Stop.TheVariants as stop
use Rattle.machine_effects.specs.World.{World}
use Rattle.machine_effects.specs.Going.{Halted, going}
use Rattle.machine_effects.specs.Machine.{MachineBoard}
use Rattle.code_forms.specs.Placed.{words_of}
use Rattle.cost_bound.specs.declared.allowance.Allow.{Allow}
use Rattle.cost_bound.specs.Allowance.{bound_of}
use Rattle.war_analysis.specs.PlanValue.{TaskPlanValue}
use Rattle.source_values.specs.Runs.{CheckedProgram, State}
use Rattle.memory_map.specs.MemoryMap.{MemoryMap}
use Rattle.crash_rules.specs.Model.{ModelLaws, Short}
use Rattle.crash_rules.specs.History.{History, observe, behind_boot, first_history, given_since}
use Rattle.crash_rules.specs.Runs.{ProgramLaws, Charge, IsSpentFrom}
use Rattle.crash_rules.specs.Laws.{Origin, Resting, StandsFor, IsLawful, Matches, Begins, HasRun, PowersUpBehind, AcceptedWords, AreConsecutive}
use Rattle.run_charges.specs.Fronts.{AlwaysLeaves}
use Rattle.compiled_model.specs.Parts.{compiled_model}
use Rattle.compiled_runs.specs.Program.{source_code, compiled_program}
use Rattle.whole_programs.specs.Laws.{IsLaidOutText}

-- what holds of each accepted text with a plan and a layout of its source
abbrev OfSources : (CheckedProgram → MemoryMap → Type 0) → Type 0
OfSources F = (text : List ℕ) (p : CheckedProgram) (allow : Allow) (plans : List TaskPlanValue) (l : MemoryMap)
    → IsLaidOutText text p allow plans l → F p l

-- its tasks, its runtime and what FRAM stands for owe the crash theorem nothing
abbrev pub SourcesKeepTheLaws : Type 0
SourcesKeepTheLaws = OfSources (λ p l. ModelLaws (compiled_model p l))

-- nor does its code
abbrev pub CodeKeepsTheLaws : Type 0
CodeKeepsTheLaws = OfSources (λ p l. ProgramLaws (compiled_model p l) (compiled_program p l))

-- no run changes the code
abbrev pub CodeStays : Type 0
CodeStays = OfSources (λ p l. (readings : List ℕ) (origin : Origin State) (x : World) (s : MachineBoard) → Begins (compiled_model p l) readings origin x s
    → AlwaysLeaves (compiled_program p l) l.boot.address (length (words_of (source_code p l))) (compiled_model p l).marks s
    (first_history (compiled_model p l).marks x))

-- After any charges, each cut behind any number of instructions, from any boards that power-ups leave: the board stands for a run of
-- the source, and the effects since the last boot or done are a prefix of the start, the task and the commit there
abbrev pub RunsStandForTheSource : Type 0
RunsStandForTheSource = OfSources (λ p l. (readings : List ℕ) (origin : Origin State) (t : MachineBoard) (h : History)
    → HasRun (compiled_model p l) (compiled_program p l) readings origin t h
    → IsLawful (compiled_model p l) readings origin h × Matches readings t h)

-- it stops for want of a reading alone, and only where the source is short
abbrev pub RunsStopWhereTheSourceIsShort : Type 0
RunsStopWhereTheSourceIsShort = OfSources (λ p l. (readings : List ℕ) (origin : Origin State) (b : MachineBoard)
    → (up : PowersUpBehind (compiled_model p l) (compiled_program p l) readings origin b)
    → (n price : ℕ) (e : Stop) → (going (compiled_program p l).step n b).status ≡ Halted price e
    → let k = observe (compiled_model p l).marks (going (compiled_program p l).step n b).effects (behind_boot up.history) in
    (e ≡ stop.NoReading) × ((st : StandsFor (compiled_model p l) readings origin k)
    × ((compiled_model p l).task st.state (given_since (compiled_model p l).marks readings k) ≡ Short)))

-- words are accepted only between a decide and its done, each once
abbrev pub WordsAreSentOnce : Type 0
WordsAreSentOnce = OfSources (λ p l. (readings : List ℕ) (origin : Origin State) (h : History) → (stands : StandsFor (compiled_model p l) readings origin h)
    → AcceptedWords (compiled_model p l) readings origin h stands.state h.decided)

-- in one charge the committed readings of the transitions follow one another, from the first reading on
abbrev pub OneChargeReadsInOrder : Type 0
OneChargeReadsInOrder = OfSources (λ p l. (readings : List ℕ) (s : State) (t : MachineBoard) (h : History)
    → (run : HasRun (compiled_model p l) (compiled_program p l) readings (Resting s) t h)
    → (compiled_model p l).Undecided s run.world → (e : Charge) → run.charges ≡ e ∷ [] → AreConsecutive 0 h.completed h.since)

-- a charge of at least n bounds that is spent has at least n dones
abbrev pub BoundsPayForTransitions : Type 0
BoundsPayForTransitions = OfSources (λ p l. (readings : List ℕ) (origin : Origin State) (b : MachineBoard)
    → (up : PowersUpBehind (compiled_model p l) (compiled_program p l) readings origin b)
    → (n amount : ℕ) → n * bound_of p ≤ amount → (spent : IsSpentFrom (compiled_program p l).step amount b)
    → n + length up.history.completed
    ≤ length (observe (compiled_model p l).marks (going (compiled_program p l).step spent.steps b).effects (behind_boot up.history)).completed)
