-- Laws of a board's run and a model.
use Rattle.std.specs.Prelude.{◌≡◌, ℕ, ◌+◌, ◌≤◌, List, [], ◌∷◌, ◌++◌, length}
use Rattle.msp_step.specs.declared.machine.Stop.{Stop}
use Rattle.msp_step.specs.declared.machine.Stop.TheVariants as stop
use Rattle.fram_board.specs.Board.{BoardValue}
use Rattle.fram_board.specs.Run.{Moment, Stopped, RunOutcome, BoardCharge}
use Rattle.machine_effects.specs.World.{World}
use Rattle.machine_effects.specs.Runs.{last_board}
use Rattle.crash_rules.specs.Model.{Model, Marks, bound}
use Rattle.crash_rules.specs.History.{History, first_history}
use Rattle.crash_rules.specs.Runs.{Program}
use Rattle.crash_rules.specs.Laws.{Origin, Resting, Pending, IsLawful, Matches, TaskCosts, CoversTasks, ScriptsStore}
use Rattle.run_charges.specs.View.{outside_of}
use Rattle.run_charges.specs.Charges.{observed}
use Rattle.run_charges.specs.Laws.{IsRunOfWords, IsProgramRun}
use Rattle.model_runs.specs.Runs.{history_behind, IsShort, Progresses, all_amounts, AreInOrder, AreInOrderPast}
use Rattle.model_runs.specs.Bears.{BearsModel}

-- what is known behind each front of a run stands for a run of the source, and the board is so
abbrev pub FrontsAreLawful : {St : Type 0} → Model St → Program → Type 0
FrontsAreLawful {St} m c = (readings : List ℕ) (origin : Origin St) (x : World) (cs : List BoardCharge) (b : BoardValue) (r : RunOutcome)
    → IsRunOfWords cs b r → BearsModel m c readings origin x b → (ms rest : List Moment) → r.moments ≡ ms ++ rest
    → IsLawful m readings origin (history_behind m x ms) × Matches readings (outside_of (last_board b ms)) (history_behind m x ms)

-- a run stops for want of a reading alone, and only where the source is short
abbrev pub StopsWhereShort : {St : Type 0} → Model St → Program → Type 0
StopsWhereShort {St} m c = (readings : List ℕ) (origin : Origin St) (x : World) (cs : List BoardCharge) (b : BoardValue) (r : RunOutcome)
    → IsRunOfWords cs b r → BearsModel m c readings origin x b → (e : Stop) → r.ending ≡ Stopped e
    → (e ≡ stop.NoReading) × IsShort m readings origin (history_behind m x r.moments)

-- each charge that is spent has as many dones as it has bounds beside what events take; and is less than that and what its transitions cost and
-- the one that was to come
abbrev pub MakesProgress : {St : Type 0} → Model St → Program → Type 0
MakesProgress {St} m c = (readings : List ℕ) (origin : Origin St) (x : World) (cs : List BoardCharge) (b : BoardValue) (r : RunOutcome)
    → IsRunOfWords cs b r → BearsModel m c readings origin x b → (costs : TaskCosts) → CoversTasks m origin costs
    → Progresses m.marks (bound m) costs m.delay cs b (first_history m.marks x) r

-- in one charge from a state on the spans follow one another, from the first reading on
abbrev pub SpansAreInOrder : {St : Type 0} → Model St → Program → Type 0
SpansAreInOrder {St} m c = (readings : List ℕ) (s : St) (x : World) (charge : BoardCharge) (b : BoardValue) (r : RunOutcome)
    → IsRunOfWords (charge ∷ []) b r → BearsModel m c readings (Resting s) x b → m.Undecided s x
    → AreInOrder 0 (history_behind m x r.moments).since (history_behind m x r.moments).completed

-- and in one charge from a pending commit on those behind its done
abbrev pub SpansPastAreInOrder : {St : Type 0} → Model St → Program → Type 0
SpansPastAreInOrder {St} m c = (readings : List ℕ) (to : St) (x : World) (charge : BoardCharge) (b : BoardValue) (r : RunOutcome)
    → IsRunOfWords (charge ∷ []) b r → BearsModel m c readings (Pending to) x b
    → AreInOrderPast (history_behind m x r.moments).since (history_behind m x r.moments).completed

-- where recoveries, attempts and commits store at an address only words up to a most, it never holds more
abbrev pub WordsStayWithin : {St : Type 0} → Model St → Program → (ℕ → ℕ → Type 0) → Type 0
WordsStayWithin {St} m c P = (readings : List ℕ) (origin : Origin St) (x : World) (cs : List BoardCharge) (b : BoardValue) (r : RunOutcome)
    → IsRunOfWords cs b r → BearsModel m c readings origin x b
    → ScriptsStore m P → (a most : ℕ) → ((w : ℕ) → P a w → w ≤ most) → x.fram a ≤ most
    → (ms rest : List Moment) → r.moments ≡ ms ++ rest → (outside_of (last_board b ms)).fram a ≤ most

-- no more readings are taken than there are
abbrev pub TakesWhatIsThere : Type 0
TakesWhatIsThere = (cs : List BoardCharge) (b : BoardValue) (r : RunOutcome) → IsProgramRun cs b r → (marks : Marks) (h : History) → h.taken ≡ b.taken
    → h.since ≤ h.taken
    → (observed marks r.moments h).since ≤ length b.readings

-- a run has no more dones than its charges have cycles or instructions
abbrev pub DonesAreFew : Type 0
DonesAreFew = (cs : List BoardCharge) (b : BoardValue) (r : RunOutcome) → IsProgramRun cs b r → (marks : Marks) (h : History)
    → length (observed marks r.moments h).completed ≤ length h.completed + all_amounts cs
