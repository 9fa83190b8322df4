-- What the crash theorem needs to know of a source, of its runtime and of what FRAM stands for: the model, and what each layer
-- owes. Nothing here knows where anything is in FRAM.
use Rattle.std.specs.Prelude.{◌≡◌, ◌≢◌, ℕ, zero, suc, ◌<◌, ◌==◌, if◌then◌else◌, nat_lt, Bool, true, false, List, [], ◌∷◌, ◌++◌, Option, Some, None}
pub use Rattle.machine_effects.specs.alp_words.Words.{IsWord}
use Rattle.machine_effects.specs.fram_board.Effects.{Effect, Store, Take, Outside}
use Rattle.machine_effects.specs.World.{World, world_after_one, world_after, fram_after, readings_taken, EachStore}
pub use Rattle.machine_effects.specs.Inputs.{Inputs, inputs_taken, no_inputs, inputs_behind, InputsAreWords, TakesExactly}

-- what a task is given: readings, and the answers of its `next_event()`
pub record Given : Type 0 where
  pub readings : List ℕ
  pub answers : List ℕ

abbrev pub nothing_given : Given
nothing_given = record { readings = []; answers = [] }

-- how a whole task ends: in a state of the source, with what is left over of what it was given, or for want of a reading
pub data Outcome (St : Type 0) : Type 0 where
  Ends : (state : St) → (left : Given) → Outcome St
  Short : Outcome St

-- the effects of a program, and whether it comes to its end; if not, it wants a reading that isn't left
pub record ProgramEffects : Type 0 where
  pub effects : List Effect
  pub ends : Bool

-- a program's effects from their parts
abbrev pub program_effects : List Effect → Bool → ProgramEffects
program_effects es b = record { effects = es; ends = b }

-- effects in front of a program's
abbrev pub behind_effects : List Effect → ProgramEffects → ProgramEffects
behind_effects es p = program_effects (es ++ p.effects) p.ends

-- a fact of the world before each of these effects and behind the last one
abbrev pub HoldsThroughout : (World → Type 0) → List Effect → World → Type 0
HoldsThroughout P [] x = P x
HoldsThroughout P (e ∷ es) x = P x × HoldsThroughout P es (world_after_one e x)

-- the addresses of the words of FRAM that tell what happens in a run
pub record Marks : Type 0 where
  pub gate : ℕ  -- GATE
  pub answer : Option ℕ  -- ANS, the word to which each answer of `next_event()` is stored, where the source takes events

-- the words that effects store at an address, in order
abbrev pub words_stored : ℕ → List Effect → List ℕ
words_stored address [] = []
words_stored address (Store a w ∷ es) = if a == address then w ∷ words_stored address es else words_stored address es
words_stored address (Take w ∷ es) = words_stored address es
words_stored address (Outside o ∷ es) = words_stored address es

-- those that they store to ANS, if there is such a word
abbrev pub answers_at : Option ℕ → List Effect → List ℕ
answers_at None es = []
answers_at (Some address) es = words_stored address es

-- the answers that effects store
abbrev pub answers_in : Marks → List Effect → List ℕ
answers_in marks es = answers_at marks.answer es

-- what a task is given that has these effects: the readings that they take, and the answers that they store
abbrev pub given_by : Marks → List Effect → Given
given_by marks es = record { readings = readings_taken es; answers = answers_in marks es }

-- a source with its runtime. St is what a state of the source is: its shared words, its current task and the words emitted so far
pub record Model (St : Type 0) : Type 1 where
  pub task : St → Given → Outcome St  -- the state's current task, run whole on what it is given
  pub task_number : St → ℕ  -- the number of the current task
  pub emitted : St → List ℕ  -- the words emitted so far
  pub tasks : ℕ  -- how many tasks there are
  pub task_cost : ℕ → ℕ  -- of each task the cycles of a boot, an attempt and its commit
  pub delay : Inputs → ℕ  -- the cycles beyond these costs that commits may take with what the outside has ready; 0 where it answers nothing
  pub marks : Marks
  pub commit : (ℕ → ℕ) → Inputs → List Effect  -- the commit, from FRAM and inputs. It wants nothing that isn't there
  pub recover : (ℕ → ℕ) → List Effect  -- from FRAM: what a boot does in front of an attempt
  pub attempt : (ℕ → ℕ) → Inputs → ProgramEffects  -- from FRAM and inputs: the start and the task that CUR names, up to the store of 1 to GATE
  pub Rests : St → World → Type 0  -- what a world that rests at a state is
  pub Undecided : St → World → Type 0  -- one that is undecided at it
  pub Settled : St → World → Type 0  -- one that is, with nothing to recover
  pub Decided : St → St → World → Type 0  -- one that is decided from a state to another
  pub Committing : St → World → Type 0  -- one whose pending commit leaves a state, whatever was committed

-- the greatest of the costs of the first so many tasks
abbrev pub greatest : (ℕ → ℕ) → ℕ → ℕ
greatest cost zero = 0
greatest cost (suc n) = if nat_lt (greatest cost n) (cost n) then cost n else greatest cost n

-- the bound: the greatest of the tasks' costs
abbrev pub bound : {St : Type 0} → Model St → ℕ
bound m = greatest m.task_cost m.tasks

-- an attempt, and the commit where it comes to its end
abbrev pub with_commit : {St : Type 0} → Model St → (ℕ → ℕ) → Inputs → ProgramEffects → ProgramEffects
with_commit m f inputs p =
    program_effects (p.effects ++ (if p.ends then m.commit (fram_after p.effects f) (inputs_behind p.effects inputs) else [])) p.ends

-- an attempt, behind a boot with the recovery in front of it, or behind a done
abbrev pub attempt_from : {St : Type 0} → Model St → Bool → (ℕ → ℕ) → Inputs → ProgramEffects
attempt_from m booted f inputs =
    if booted then behind_effects (m.recover f) (m.attempt (fram_after (m.recover f) f) inputs) else m.attempt f inputs

-- all that is to be done from a boot or a done on: the commit where GATE is 1; else an attempt and its commit
abbrev pub script : {St : Type 0} → Model St → Bool → (ℕ → ℕ) → Inputs → ProgramEffects
script m booted f inputs =
    if f m.marks.gate == 1 then program_effects (m.commit f inputs) true else with_commit m f inputs (attempt_from m booted f inputs)

-- the address of a store is another than this one
abbrev pub IsElsewhere : ℕ → ℕ → ℕ → Type 0
IsElsewhere address a w = a ≢ address

-- an attempt that comes to a transition: its last effect stores 1 to GATE, which decides from s to the next state; up to there the
-- world is undecided at s. It takes some of the inputs, and on exactly the readings that it takes and the answers that it stores the task
-- comes to the next state
pub record Decides {St : Type 0} (m : Model St) (s next : St) (inputs : Inputs) (x : World) (p : ProgramEffects) : Type 0 where
  pub before : List Effect
  pub left : Inputs
  pub is : p ≡ program_effects (before ++ Store m.marks.gate 1 ∷ []) true
  pub elsewhere : EachStore (IsElsewhere m.marks.gate) before
  pub reads : TakesExactly before inputs left
  pub undecided : HoldsThroughout (m.Undecided s) before x
  pub decided : m.Decided s next (world_after_one (Store m.marks.gate 1) (world_after before x))
  pub exact : m.task s (given_by m.marks (before ++ Store m.marks.gate 1 ∷ [])) ≡ Ends next nothing_given

-- an attempt that wants a reading too many: the world is undecided all along, and the task is short on all the readings and the answers so far
pub record RunsShort {St : Type 0} (m : Model St) (s : St) (inputs : Inputs) (x : World) (p : ProgramEffects) : Type 0 where
  pub is : p.ends ≡ false
  pub elsewhere : EachStore (IsElsewhere m.marks.gate) p.effects
  pub undecided : HoldsThroughout (m.Undecided s) p.effects x
  pub short : m.task s (record { readings = inputs.readings; answers = answers_in m.marks p.effects }) ≡ Short

-- what an attempt owes: it decides, or is short where the task is
pub data AttemptContract {St : Type 0} (m : Model St) (s : St) (inputs : Inputs) (x : World) (p : ProgramEffects) : Type 0 where
  Comes : (next : St) → Decides m s next inputs x p → AttemptContract m s inputs x p
  Lacks : RunsShort m s inputs x p → AttemptContract m s inputs x p

-- effects that take nothing of what is ready, store no answer, leave GATE alone and keep the world undecided throughout
pub record StaysUndecided {St : Type 0} (m : Model St) (s : St) (x : World) (es : List Effect) : Type 0 where
  pub takes_none : inputs_taken es ≡ no_inputs
  pub answers_none : answers_in m.marks es ≡ []
  pub elsewhere : EachStore (IsElsewhere m.marks.gate) es
  pub undecided : HoldsThroughout (m.Undecided s) es x

-- what a recovery owes: it stays undecided, and leaves nothing to recover
pub record RecoveryKeeps {St : Type 0} (m : Model St) (s : St) (x : World) : Type 0 where
  pub stays : StaysUndecided m s x (m.recover x.fram)
  pub settled : m.Settled s (world_after (m.recover x.fram) x)

-- what a commit owes on these inputs: its last effect stores 0 to GATE; up to there the world stays as it is said to be, and behind it
-- rests at a state. It takes nothing of what is ready
pub record CommitKeeps {St : Type 0} (m : Model St) (Kept : World → Type 0) (to : St) (inputs : Inputs) (x : World) : Type 0 where
  pub before : List Effect
  pub is : m.commit x.fram inputs ≡ before ++ Store m.marks.gate 0 ∷ []
  pub elsewhere : EachStore (IsElsewhere m.marks.gate) before
  pub takes_none : inputs_taken before ≡ no_inputs
  pub kept : HoldsThroughout Kept before x
  pub rests : m.Rests to (world_after_one (Store m.marks.gate 0) (world_after before x))

-- the commit of a decided world, whatever the inputs: up to its last effect the world stays decided, and behind it rests at the new state
abbrev pub CommitContract : {St : Type 0} → Model St → St → St → World → Type 0
CommitContract m s next x = (inputs : Inputs) → CommitKeeps m (m.Decided s next) next inputs x

-- accepted words between two lists: the first with more behind it, which the second has too
pub record IsBetween (from to accepted : List ℕ) : Type 0 where
  pub sent : List ℕ
  pub unsent : List ℕ
  pub accepted_is : accepted ≡ from ++ sent
  pub to_is : to ≡ from ++ (sent ++ unsent)

-- what the layers below owe
pub record ModelLaws {St : Type 0} (m : Model St) : Type 0 where
  pub rests_settled : (s : St) (x : World) → m.Rests s x → m.Settled s x
  pub rests_words : (s : St) (x : World) → m.Rests s x → x.accepted ≡ m.emitted s
  pub settled_undecided : (s : St) (x : World) → m.Settled s x → m.Undecided s x
  pub undecided_gate : (s : St) (x : World) → m.Undecided s x → x.fram m.marks.gate ≡ 0
  pub undecided_task : (s : St) (x : World) → m.Undecided s x → m.task_number s < m.tasks
  pub undecided_words : (s : St) (x : World) → m.Undecided s x → x.accepted ≡ m.emitted s
  pub decided_task : (s next : St) (x : World) → m.Decided s next x → m.task_number s < m.tasks
  pub decided_words : (s next : St) (x : World) → m.Decided s next x → IsBetween (m.emitted s) (m.emitted next) x.accepted
  pub decided_commits : (s next : St) (x : World) → m.Decided s next x → CommitContract m s next x
  pub decided_committing : (s next : St) (x : World) → m.Decided s next x → m.Committing next x
  pub committing_gate : (to : St) (x : World) → m.Committing to x → x.fram m.marks.gate ≡ 1
  pub committing_words : (to : St) (x : World) → m.Committing to x → IsBetween [] (m.emitted to) x.accepted
  pub commits : (to : St) (x : World) (inputs : Inputs) → m.Committing to x → CommitKeeps m (m.Committing to) to inputs x
  pub recovers : (s : St) (x : World) → m.Undecided s x → RecoveryKeeps m s x
  pub attempts : (s : St) (x : World) (inputs : Inputs) → InputsAreWords inputs → m.Settled s x
      → AttemptContract m s inputs x (m.attempt x.fram inputs)
