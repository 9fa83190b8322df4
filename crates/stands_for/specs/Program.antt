-- A compiled program as the crash theorem takes it, and what its start and its tasks owe.
use Rattle.std.specs.Prelude.{◌≡◌, ◌≢◌, ℕ, ◌<◌, ◌≤◌, ◌⊎◌, if◌then◌else◌, Option, Some, None, List, []}
use Rattle.memory_map.specs.MemoryMap.{MemoryMap, word_place}
use Rattle.memory_map.specs.event_places.Places.{answer_place}
use Rattle.memory_map.specs.Places.{end_of}
use Rattle.memory_map.specs.declared.words.RuntimeWord.TheVariants.{CurrentTask, Gate, ListLength, EmitCount}
use Rattle.fram_board.specs.Effects.{Effect}
use Rattle.machine_effects.specs.World.{World, world_after, fram_after, EachStore}
use Rattle.machine_effects.specs.Inputs.{inputs_taken, no_inputs}
use Rattle.runtime_effects.specs.Places.{CopyPair}
use Rattle.runtime_effects.specs.Stages.{commit_effects, start_effects}
use Rattle.runtime_effects.specs.Needs.{CanCommit, IsEventWord}
use Rattle.crash_rules.specs.Model.{Given, Outcome, ProgramEffects, behind_effects, HoldsThroughout, Inputs, InputsAreWords, Model, ModelLaws, AttemptContract}
use Rattle.memory_map.specs.Laws.{AreApart}
use Rattle.stands_for.specs.Layout.{ProgramPlaces, StateView, HaveRoom, ArePrivate}
use Rattle.stands_for.specs.StandsFor.{RestsAt, UndecidedAt, DecidedFrom, IsPendingCommit, CommittingTo, StartedAt}

-- a start, from FRAM, and a task by its number, from FRAM and inputs
pub record ProgramParts (St : Type 0) : Type 0 where
  pub task : St → Given → Outcome St  -- the source: a whole task from a state on
  pub cost : ℕ → ℕ  -- of each task the cycles of a boot, an attempt and its commit
  pub start : (ℕ → ℕ) → List Effect
  pub body : ℕ → (ℕ → ℕ) → Inputs → ProgramEffects

-- an attempt: the start, then the task that CUR names
abbrev pub attempt_effects : {St : Type 0} → ProgramPlaces → ProgramParts St → (ℕ → ℕ) → Inputs → ProgramEffects
attempt_effects l p f inputs = behind_effects (p.start f) (p.body (f (word_place l.map CurrentTask)) (fram_after (p.start f) f) inputs)

-- ANS, where there are events
abbrev pub answer_word : MemoryMap → Option ℕ
answer_word m = if m.runtime.events then Some answer_place else None

-- the source with its layout and its runtime: a commit takes no inputs, and a boot has nothing to recover
abbrev pub program_model : {St : Type 0} → ProgramPlaces → StateView St → ProgramParts St → Model St
program_model l v p = record {
  task = p.task;
  task_number = v.task;
  emitted = v.emitted;
  tasks = l.tasks;
  task_cost = p.cost;
  delay = λ inputs. 0;
  marks = record { gate = word_place l.map Gate; answer = answer_word l.map };
  commit = λ f inputs. commit_effects l.map f;
  recover = λ f. [];
  attempt = attempt_effects l p;
  Rests = RestsAt l v;
  Undecided = UndecidedAt l v;
  Settled = UndecidedAt l v;
  Decided = DecidedFrom l v;
  Committing = CommittingTo l v;
}

-- a store of a start: to a word of the runtime behind GATE, where CLN and EN become 0, to a version word, to a copy, or to a
-- word that counts events, but for ANS
pub record IsStartStore (l : ProgramPlaces) (a w : ℕ) : Type 0 where
  pub from : word_place l.map Gate < a
  pub below : (a < end_of l.map.copies) ⊎ IsEventWord l.map a
  pub answer : a ≢ answer_place
  pub list_length : a ≡ word_place l.map ListLength → w ≡ 0
  pub emit_count : a ≡ word_place l.map EmitCount → w ≡ 0

-- what the start owes, where these are the private scalars of each task: it takes nothing of what is ready, stores to the runtime's places and the
-- copies alone, keeps CUR, keeps the world undecided throughout, and leaves an attempt that has started
pub record StartContract {St : Type 0} (l : ProgramPlaces) (v : StateView St) (privates : ℕ → List CopyPair) (start : (ℕ → ℕ) → List Effect) : Type 0 where
  pub takes_none : (f : ℕ → ℕ) → inputs_taken (start f) ≡ no_inputs
  pub stores : (f : ℕ → ℕ) → EachStore (IsStartStore l) (start f)
  pub keeps_task : (f : ℕ → ℕ) → fram_after (start f) f (word_place l.map CurrentTask) ≡ f (word_place l.map CurrentTask)
  pub undecided : (s : St) (x : World) → UndecidedAt l v s x → HoldsThroughout (UndecidedAt l v s) (start x.fram) x
  pub started : (s : St) (x : World) → UndecidedAt l v s x → StartedAt l v s (privates (v.task s)) (world_after (start x.fram) x)

-- what the tasks owe: from a started attempt on they decide, or are short exactly where the source is
abbrev pub TasksContract : {St : Type 0} → ProgramPlaces → StateView St → (ℕ → List CopyPair) → ProgramParts St → Type 0
TasksContract {St} l v privates p = (s : St) (x : World) (inputs : Inputs) → InputsAreWords inputs → StartedAt l v s (privates (v.task s)) x
    → AttemptContract (program_model l v p) s inputs x (p.body (v.task s) x.fram inputs)

-- from a start and from tasks that keep their contracts, all that the crash theorem needs
abbrev pub KeepsTheLaws : (St : Type 0) → Type 0
KeepsTheLaws St = (l : ProgramPlaces) (v : StateView St) (privates : ℕ → List CopyPair) (p : ProgramParts St)
    → AreApart l.map → HaveRoom l → StartContract l v privates p.start → TasksContract l v privates p → ModelLaws (program_model l v p)

-- the runtime's start, which gives each attempt a number above all version words and clears these once no number is left, keeps the
-- start's contract
abbrev pub NumberedStarts : (St : Type 0) → Type 0
NumberedStarts St = (l : ProgramPlaces) (v : StateView St) (privates : ℕ → List CopyPair)
    → AreApart l.map → ((t : ℕ) → ArePrivate l t (privates t)) → StartContract l v privates (start_effects l.map privates)

-- where a commit is pending it finds what it needs
abbrev pub PendingCanCommit : Type 0
PendingCanCommit = (l : ProgramPlaces) (x : World) → AreApart l.map → IsPendingCommit l x → CanCommit l.map x.fram

-- the stores of a commit: to shared words, CUR, BASE and GATE, and to a word that counts events
pub record IsCommitStore (l : ProgramPlaces) (a w : ℕ) : Type 0 where
  pub from : word_place l.map CurrentTask ≤ a
  pub below : (a < end_of l.map.homes) ⊎ IsEventWord l.map a

-- a pending commit stores nowhere else
abbrev pub CommitStores : Type 0
CommitStores = (l : ProgramPlaces) (x : World) → AreApart l.map → IsPendingCommit l x → EachStore (IsCommitStore l) (commit_effects l.map x.fram)
