-- What runs that are cut anywhere stand for, and the laws of them.
use Rattle.std.specs.Prelude.{◌≡◌, ℕ, ◌+◌, ◌*◌, ◌<◌, ◌≤◌, Bool, true, false, List, [], ◌∷◌, ◌++◌, length, drop, All}
use Rattle.machine_effects.specs.msp_step.declared.machine.Stop.{Stop}
use Rattle.machine_effects.specs.msp_step.declared.machine.Stop.TheVariants as stop
use Rattle.machine_effects.specs.fram_board.Effects.{Effect}
use Rattle.machine_effects.specs.World.{World, world_after, looks_taken, IsPrefix, EachStore}
use Rattle.machine_effects.specs.Inputs.{Look}
use Rattle.machine_effects.specs.Going.{At, Halted, going}
use Rattle.machine_effects.specs.Machine.{MachineBoard}
use Rattle.crash_rules.specs.Model.{Model, ModelLaws, Given, nothing_given, Ends, Short, IsWord, IsBetween, Inputs, InputsAreWords, bound, script}
use Rattle.crash_rules.specs.History.{Done, History, observe, behind_boot, first_history, inputs_from, decided_given, done_given}
use Rattle.crash_rules.specs.History.{given_since}
use Rattle.crash_rules.specs.Runs.{Program, ProgramLaws, Charge, IsPoweredFrom, Charged, IsSpentFrom}

-- how a run begins: at a state, or with a commit that is pending, and the state that it leaves
pub data Origin (St : Type 0) : Type 0 where
  Resting : (state : St) → Origin St
  Pending : (to : St) → Origin St

-- the source's run on these dones, from a state to a state: a whole task for each, which takes exactly the done's committed
-- readings and answers; behind the done the world rests at the task's state
abbrev pub SourceRun : {St : Type 0} → Model St → List ℕ → St → List Done → St → Type 0
SourceRun m readings s [] t = t ≡ s
SourceRun {St} m readings s (d ∷ ds) t = (u : St) × (m.task s (done_given readings d) ≡ Ends u nothing_given) × m.Rests u d.world × SourceRun m readings u ds t

-- a commit that was pending at the start has no readings of its own, and no answers
abbrev pub HasNoSpan : ℕ → ℕ → List ℕ → Type 0
HasNoSpan from to answers = (from ≡ 0) × (to ≡ 0) × (answers ≡ [])

-- the state of the last done: that of the source's run. Behind a pending commit the run goes on from the state that this leaves, which
-- is the state before its done too
abbrev pub Reaches : {St : Type 0} → Model St → List ℕ → Origin St → List Done → St → Type 0
Reaches m readings (Resting s) ds t = SourceRun m readings s ds t
Reaches m readings (Pending to) [] t = t ≡ to
Reaches m readings (Pending to) (d ∷ ds) t = HasNoSpan d.span_from d.span_to d.answers × m.Rests to d.world × SourceRun m readings to ds t

-- the commit that was pending at the start isn't done yet
abbrev pub IsPending : {St : Type 0} → Origin St → List Done → Type 0
IsPending (Resting s) ds = ⊥
IsPending (Pending to) [] = Unit {0}
IsPending (Pending to) (d ∷ ds) = ⊥

-- nothing is pending any more
abbrev pub IsSettled : {St : Type 0} → Origin St → List Done → Type 0
IsSettled (Resting s) ds = Unit {0}
IsSettled (Pending to) [] = ⊥
IsSettled (Pending to) (d ∷ ds) = Unit {0}

-- the transition to come leads from s to this next state by the task on what it was given, once nothing is pending
abbrev pub Transits : {St : Type 0} → Model St → Origin St → List Done → Given → St → St → Type 0
Transits m (Resting o) ds given s next = m.task s given ≡ Ends next nothing_given
Transits m (Pending to) [] given s next = ⊥
Transits m (Pending to) (d ∷ ds) given s next = m.task s given ≡ Ends next nothing_given

-- the world is undecided at the state of the last done, or decided from it to what the task gives on the readings and answers of the decide; or the
-- commit that was pending at the start isn't done, and leaves the state
pub data Phase {St : Type 0} (m : Model St) (readings : List ℕ) (origin : Origin St) (s : St) (h : History) : Type 0 where
  UndecidedPhase : h.decided ≡ false → IsSettled origin h.completed → m.Undecided s h.world → Phase m readings origin s h
  DecidedPhase : (next : St) → h.decided ≡ true → Transits m origin h.completed (decided_given readings h) s next → m.Decided s next h.world
      → Phase m readings origin s h
  CommittingPhase : h.decided ≡ true → IsPending origin h.completed → HasNoSpan h.span_from h.span_to h.answers → m.Committing s h.world
      → Phase m readings origin s h

-- the world of the last boot or done, behind these dones, whose last one left a state: it is undecided at the state, behind a done with nothing to
-- recover; or decided from it; or has the commit that was pending at the start, which leaves the state
pub data StartsFrom {St : Type 0} (m : Model St) (origin : Origin St) (booted : Bool) (ds : List Done) (s : St) (x : World) : Type 0 where
  FromUndecided : IsSettled origin ds → m.Undecided s x → (booted ≡ false → m.Settled s x) → StartsFrom m origin booted ds s x
  FromDecided : (next : St) → IsSettled origin ds → m.Decided s next x → StartsFrom m origin booted ds s x
  FromCommitting : IsPending origin ds → m.Committing s x → StartsFrom m origin booted ds s x

-- a history stands for a run of the source
pub record StandsFor {St : Type 0} (m : Model St) (readings : List ℕ) (origin : Origin St) (h : History) : Type 0 where
  pub state : St  -- the state of the last done; while the commit that was pending at the start isn't done, the one that it leaves
  pub reached : Reaches m readings origin h.completed state
  pub starts : StartsFrom m origin h.booted h.completed state h.start
  pub phase : Phase m readings origin state h

-- effects are a prefix of a script: the commit, or the start, the task on the readings from a position on and on the looks that these
-- effects take, with some behind them, and the commit; behind a boot the recovery in front of the start. These inputs are words
pub record IsOfScript {St : Type 0} (m : Model St) (readings : List ℕ) (since : ℕ) (booted : Bool) (fram : ℕ → ℕ) (es : List Effect) : Type 0 where
  pub left : List Look
  pub words : InputsAreWords (inputs_from readings since (looks_taken es ++ left))
  pub follows : IsPrefix es (script m booted fram (inputs_from readings since (looks_taken es ++ left))).effects

-- those since the last boot or done are a prefix of the script there
abbrev pub FollowsScript : {St : Type 0} → Model St → List ℕ → History → Type 0
FollowsScript m readings h = IsOfScript m readings h.since h.booted h.start.fram h.effects

-- what holds of each history of a run
pub record IsLawful {St : Type 0} (m : Model St) (readings : List ℕ) (origin : Origin St) (h : History) : Type 0 where
  pub world : h.world ≡ world_after h.effects h.start
  pub stands : StandsFor m readings origin h
  pub follows : FollowsScript m readings h

-- a machine that holds what a history says
pub record Matches (readings : List ℕ) (s : MachineBoard) (h : History) : Type 0 where
  pub fram : s.fram ≡ h.world.fram
  pub readings_left : s.inputs.readings ≡ drop h.taken readings

-- a run may begin like this
pub record Begins {St : Type 0} (m : Model St) (readings : List ℕ) (origin : Origin St) (x : World) (s : MachineBoard) : Type 0 where
  pub fram : s.fram ≡ x.fram
  pub readings_left : s.inputs.readings ≡ readings
  pub words : All IsWord readings
  pub stands : StandsFor m readings origin (first_history m.marks x)

-- a run may begin with a world that is undecided at a state, and with one whose commit is pending
pub record RunsBegin {St : Type 0} (m : Model St) (readings : List ℕ) : Type 0 where
  pub resting : (s : St) (x : World) → m.Undecided s x → StandsFor m readings (Resting s) (first_history m.marks x)
  pub pending : (to : St) (x : World) → m.Committing to x → StandsFor m readings (Pending to) (first_history m.marks x)

-- so it is with any readings
abbrev pub RunsMayBegin : {St : Type 0} → Model St → Type 0
RunsMayBegin m = ModelLaws m → (readings : List ℕ) → RunsBegin m readings

-- a run of charges from the start of a run on, with its history
abbrev pub RunsTo : {St : Type 0} → Model St → Program → World → MachineBoard → List Charge → MachineBoard → History → Type 0
RunsTo m c x s charges t h = Charged c m.marks s (first_history m.marks x) charges t h

-- a run that came to a board, with its history: any charges, each cut behind any number of steps
pub record HasRun {St : Type 0} (m : Model St) (c : Program) (readings : List ℕ) (origin : Origin St) (t : MachineBoard) (h : History) : Type 0 where
  pub world : World  -- how it began
  pub start : MachineBoard
  pub begins : Begins m readings origin world start
  pub charges : List Charge
  pub leads : RunsTo m c world start charges t h

-- a board that a further power-up leaves behind a run: FRAM and the readings stay
pub record PowersUpBehind {St : Type 0} (m : Model St) (c : Program) (readings : List ℕ) (origin : Origin St) (p : MachineBoard) : Type 0 where
  pub board : MachineBoard
  pub history : History
  pub run : HasRun m c readings origin board history
  pub powered : c.IsPoweredUp p
  pub from : IsPoweredFrom board p

-- after any charges, each cut behind any number of steps: the board stands for a run of the source, and the effects since the
-- last boot or done follow the script
abbrev pub CrashTheorem : {St : Type 0} → Model St → Program → Type 0
CrashTheorem {St} m c = ModelLaws m → ProgramLaws m c → (readings : List ℕ) (origin : Origin St) (t : MachineBoard) (h : History)
    → HasRun m c readings origin t h → IsLawful m readings origin h × Matches readings t h

-- the source is short at the state of the last done, on the readings from the last boot or done on and the answers since then
abbrev pub IsShort : {St : Type 0} → Model St → List ℕ → St → History → Type 0
IsShort m readings s h = m.task s (given_since m.marks readings h) ≡ Short

-- a machine stops for want of a reading alone, and there the source is short too
abbrev pub StopsShort : {St : Type 0} → Model St → Program → Type 0
StopsShort {St} m c = ModelLaws m → ProgramLaws m c → (readings : List ℕ) (origin : Origin St) (p : MachineBoard)
    → (up : PowersUpBehind m c readings origin p) → (n price : ℕ) (e : Stop) → (going c.step n p).status ≡ Halted price e
    → let k = observe m.marks (going c.step n p).effects (behind_boot up.history) in
    (e ≡ stop.NoReading) × ((st : StandsFor m readings origin k) × (k.decided ≡ false) × IsShort m readings st.state k)

-- where a decide came and no done since, or the first commit is still pending, GATE is 1, and the world is undecided at no state, whatever
-- boots stand between
abbrev pub NeverLost : {St : Type 0} → Model St → Type 0
NeverLost {St} m = ModelLaws m → (readings : List ℕ) (origin : Origin St) (h : History) → IsLawful m readings origin h → h.decided ≡ true
    → (h.world.fram m.marks.gate ≡ 1) × ((s : St) → m.Undecided s h.world → ⊥)

-- the words accepted between a decide and its done: those of the state of the last done, with some of the task's words behind them. While
-- the commit that was pending at the start isn't done: some of the first words of the state that it leaves
abbrev pub AcceptedDecided : {St : Type 0} → Model St → List ℕ → Origin St → List Done → History → St → Type 0
AcceptedDecided m readings (Pending to) [] h s = IsBetween [] (m.emitted s) h.world.accepted
AcceptedDecided {St} m readings origin ds h s =
    (next : St) × Transits m origin ds (decided_given readings h) s next × IsBetween (m.emitted s) (m.emitted next) h.world.accepted

-- the accepted words are those of the state of the last done; between a decide and its done, these with some of the task's words
-- behind them
abbrev pub AcceptedWords : {St : Type 0} → Model St → List ℕ → Origin St → History → St → Bool → Type 0
AcceptedWords m readings origin h s false = h.world.accepted ≡ m.emitted s
AcceptedWords m readings origin h s true = AcceptedDecided m readings origin h.completed h s

-- words are accepted only between a decide and its done, each once
abbrev pub SentOnce : {St : Type 0} → Model St → Type 0
SentOnce {St} m = ModelLaws m → (readings : List ℕ) (origin : Origin St) (h : History) → (stands : StandsFor m readings origin h)
    → AcceptedWords m readings origin h stands.state h.decided

-- while a commit that was pending at the start isn't done, the accepted words are those of the start, with some of those behind them that
-- the state has beyond these which the commit leaves
abbrev pub PendingSends : {St : Type 0} → Model St → Program → Type 0
PendingSends {St} m c = ModelLaws m → ProgramLaws m c → (readings : List ℕ) (to : St) (t : MachineBoard) (h : History)
    → (run : HasRun m c readings (Pending to) t h) → h.completed ≡ [] → IsBetween run.world.accepted (m.emitted to) h.world.accepted

-- dones whose spans follow one another, from a position to another
abbrev pub AreConsecutive : ℕ → List Done → ℕ → Type 0
AreConsecutive from [] to = from ≡ to
AreConsecutive from (d ∷ ds) to = (d.span_from ≡ from) × AreConsecutive d.span_to ds to

-- in one charge the spans follow one another, from the first reading on
abbrev pub SpansFollow : {St : Type 0} → Model St → Program → Type 0
SpansFollow {St} m c = ModelLaws m → ProgramLaws m c → (readings : List ℕ) (s : St) (t : MachineBoard) (h : History)
    → (run : HasRun m c readings (Resting s) t h) → m.Undecided s run.world → (e : Charge) → run.charges ≡ e ∷ []
    → AreConsecutive 0 h.completed h.since

-- dones of which all but the first follow one another, from the first reading on up to a position
abbrev pub FollowFirst : List Done → ℕ → Type 0
FollowFirst [] to = Unit {0}
FollowFirst (d ∷ ds) to = AreConsecutive 0 ds to

-- in one charge that begins with a pending commit the spans behind its done follow one another, from the first reading on
abbrev pub PendingSpansFollow : {St : Type 0} → Model St → Program → Type 0
PendingSpansFollow {St} m c = ModelLaws m → ProgramLaws m c → (readings : List ℕ) (to : St) (t : MachineBoard) (h : History)
    → (run : HasRun m c readings (Pending to) t h) → (e : Charge) → run.charges ≡ e ∷ [] → FollowFirst h.completed h.since

-- a charge of at least n bounds, and of the cycles that its inputs may delay commits, that is spent has at least n dones
abbrev pub ProgressLaw : {St : Type 0} → Model St → Program → Type 0
ProgressLaw {St} m c = ModelLaws m → ProgramLaws m c → (readings : List ℕ) (origin : Origin St) (p : MachineBoard)
    → (up : PowersUpBehind m c readings origin p) → (n amount : ℕ) → n * bound m + m.delay p.inputs ≤ amount → (spent : IsSpentFrom c.step amount p)
    → n + length up.history.completed ≤ length (observe m.marks (going c.step spent.steps p).effects (behind_boot up.history)).completed

-- what transitions cost at most: the first one of a run, and each further one, by the world behind the done before it
pub record TaskCosts : Type 0 where
  pub first : ℕ
  pub behind : World → ℕ

-- what the transition behind these dones costs, where the first of them costs so much
abbrev pub next_cost : (World → ℕ) → ℕ → List Done → ℕ
next_cost behind first [] = first
next_cost behind first (d ∷ ds) = next_cost behind (behind d.world) ds

-- what these dones and the transition behind them cost together
abbrev pub costs_of : (World → ℕ) → ℕ → List Done → ℕ
costs_of behind first [] = first
costs_of behind first (d ∷ ds) = first + costs_of behind (behind d.world) ds

-- a task of the source costs no more than this
abbrev pub IsTaskWithin : {St : Type 0} → Model St → St → ℕ → Type 0
IsTaskWithin m s most = m.task_number s < m.tasks → m.task_cost (m.task_number s) ≤ most

-- nor does the first transition of a run: that of a state's task, or a commit that was pending at the start, which has the bound
abbrev pub IsFirstWithin : {St : Type 0} → Model St → Origin St → ℕ → Type 0
IsFirstWithin m (Resting s) most = IsTaskWithin m s most
IsFirstWithin m (Pending to) most = bound m ≤ most

-- a run's transitions cost no more than these: each its own task's cost, from a boot or a done on up to the end of its commit
pub record CoversTasks {St : Type 0} (m : Model St) (origin : Origin St) (costs : TaskCosts) : Type 0 where
  pub first : IsFirstWithin m origin costs.first
  pub behind : (s : St) (x : World) → m.Rests s x → IsTaskWithin m s (costs.behind x)

-- an amount of cycles or instructions was spent behind some dones on more, and on a transition that isn't done: it is less than these cost
-- together, with the cycles that inputs may delay commits by
pub record IsSpentOn (costs : TaskCosts) (delay amount : ℕ) (before behind : List Done) : Type 0 where
  pub dones : List Done
  pub completed : behind ≡ before ++ dones
  pub less : amount < costs_of costs.behind (next_cost costs.behind costs.first before) dones + delay

-- The law task by task: a charge that is spent is less than what the transitions that were completed in it cost, and the one that was to come
-- then. So one that holds the costs of the next n tasks, whatever is pending at its beginning, completes n.
abbrev pub TasksPay : {St : Type 0} → Model St → Program → Type 0
TasksPay {St} m c = ModelLaws m → ProgramLaws m c → (readings : List ℕ) (origin : Origin St) (p : MachineBoard)
    → (up : PowersUpBehind m c readings origin p) → (costs : TaskCosts) → CoversTasks m origin costs
    → (amount : ℕ) → (spent : IsSpentFrom c.step amount p)
    → IsSpentOn costs (m.delay p.inputs) amount up.history.completed
    (observe m.marks (going c.step spent.steps p).effects (behind_boot up.history)).completed

-- the same of a charge of so many instructions: each takes a cycle at least
abbrev pub InstructionsPay : {St : Type 0} → Model St → Program → Type 0
InstructionsPay {St} m c = ModelLaws m → ProgramLaws m c → (readings : List ℕ) (origin : Origin St) (p : MachineBoard)
    → (up : PowersUpBehind m c readings origin p) → (costs : TaskCosts) → CoversTasks m origin costs
    → (n : ℕ) (t : MachineBoard) → (going c.step n p).status ≡ At t
    → IsSpentOn costs (m.delay p.inputs) n up.history.completed (observe m.marks (going c.step n p).effects (behind_boot up.history)).completed

-- each recovery, each attempt and each commit stores only so
pub record ScriptsStore {St : Type 0} (m : Model St) (P : ℕ → ℕ → Type 0) : Type 0 where
  pub recoveries : (s : St) (x : World) → m.Undecided s x → EachStore P (m.recover x.fram)
  pub attempts : (s : St) (x : World) (inputs : Inputs) → InputsAreWords inputs → m.Settled s x → EachStore P (m.attempt x.fram inputs).effects
  pub commits : (to : St) (x : World) (inputs : Inputs) → m.Committing to x → EachStore P (m.commit x.fram inputs)

-- then a run does
abbrev pub StoresOnly : {St : Type 0} → Model St → Program → (ℕ → ℕ → Type 0) → Type 0
StoresOnly {St} m c P = ModelLaws m → ProgramLaws m c → ScriptsStore m P → (readings : List ℕ) (origin : Origin St) (p : MachineBoard)
    → PowersUpBehind m c readings origin p → (n : ℕ) → EachStore P (going c.step n p).effects
