-- A compiled program under undo as the crash theorem takes it, and what its start and its tasks owe.
use Rattle.std.specs.Prelude.{◌≡◌, ◌≢◌, ℕ, ◌+◌, ◌*◌, ◌<◌, ◌⊎◌, true, List, [], ◌∷◌}
use Rattle.memory_map.specs.MemoryMap.{word_place}
use Rattle.memory_map.specs.event_places.Places.{answer_place}
use Rattle.memory_map.specs.Places.{end_of}
use Rattle.memory_map.specs.Laws.{AreApart}
use Rattle.memory_map.specs.declared.words.RuntimeWord.TheVariants.{Gate, Version}
use Rattle.fram_board.specs.Effects.{Effect, Store}
use Rattle.machine_effects.specs.World.{World, world_after, EachStore}
use Rattle.machine_effects.specs.Inputs.{inputs_taken, no_inputs}
use Rattle.runtime_effects.specs.Needs.{IsEventWord}
use Rattle.undo_effects.specs.Entries.{logged, IsLogged}
use Rattle.undo_effects.specs.Stages.{element_stored, recovery, undo_start, undo_commit}
use Rattle.crash_rules.specs.Model.{HoldsThroughout, Inputs, InputsAreWords, Model, ModelLaws, AttemptContract}
use Rattle.stands_for.specs.Layout.{ProgramPlaces, StateView, IsSharedWord, HaveRoom}
use Rattle.stands_for.specs.Program.{ProgramParts, program_model}
use Rattle.undo_states.specs.States.{list_length, RestsClear, UndoneAt, SettledAt, LoggingAt, ClosesFrom, ClosesTo, AreLogged}

-- the source with its layout and the undo runtime: its task, its start and its marks are those of any runtime
abbrev pub undo_model : {St : Type 0} (l : ProgramPlaces) (v : StateView St) (p : ProgramParts St) → Model St
undo_model l v p = let m = program_model l v p in record m {
  commit = λ f inputs. undo_commit l.map f;
  recover = recovery l.map;
  Rests = RestsClear l v;
  Undecided = UndoneAt l v;
  Settled = SettledAt l v;
  Decided = ClosesFrom l v;
  Committing = ClosesTo l v;
}

-- a store of a start: to a word of the runtime behind GATE, to the list, to a version word, all in front of the code, or to a word that counts events, but
-- for ANS
pub record IsLoggingStore (l : ProgramPlaces) (a w : ℕ) : Type 0 where
  pub from : word_place l.map Gate < a
  pub below : (a < end_of l.map.copies) ⊎ IsEventWord l.map a
  pub answer : a ≢ answer_place

-- what the start owes on a settled world, where these are the words of the private scalars of each task: it takes nothing of what is ready, stores to
-- the runtime's places alone, keeps the world undecided throughout, and leaves an attempt that has started
pub record LoggingContract {St : Type 0} (l : ProgramPlaces) (v : StateView St) (privates : ℕ → List ℕ) (start : (ℕ → ℕ) → List Effect) : Type 0 where
  pub takes_none : (f : ℕ → ℕ) → inputs_taken (start f) ≡ no_inputs
  pub stores : (s : St) (x : World) → SettledAt l v s x → EachStore (IsLoggingStore l) (start x.fram)
  pub undecided : (s : St) (x : World) → SettledAt l v s x → HoldsThroughout (UndoneAt l v s) (start x.fram) x
  pub started : (s : St) (x : World) → SettledAt l v s x → LoggingAt l v s (privates (v.task s)) (world_after (start x.fram) x)

-- what the tasks owe: from a started attempt on they decide, or are short exactly where the source is
abbrev pub LoggedTasksContract : {St : Type 0} → ProgramPlaces → StateView St → (ℕ → List ℕ) → ProgramParts St → Type 0
LoggedTasksContract {St} l v privates p = (s : St) (x : World) (inputs : Inputs) → InputsAreWords inputs → LoggingAt l v s (privates (v.task s)) x
    → AttemptContract (undo_model l v p) s inputs x (p.body (v.task s) x.fram inputs)

-- from a start and from tasks that keep their contracts, all that the crash theorem needs
abbrev pub UndoKeepsTheLaws : (St : Type 0) → Type 0
UndoKeepsTheLaws St = (l : ProgramPlaces) (v : StateView St) (privates : ℕ → List ℕ) (p : ProgramParts St)
    → AreApart l.map → HaveRoom l → LoggingContract l v privates p.start → LoggedTasksContract l v privates p → ModelLaws (undo_model l v p)

-- the runtime's start keeps the start's contract
abbrev pub LoggingStarts : (St : Type 0) → Type 0
LoggingStarts St = (l : ProgramPlaces) (v : StateView St) (privates : ℕ → List ℕ)
    → AreApart l.map → HaveRoom l → ((t : ℕ) → AreLogged l t (privates t)) → LoggingContract l v privates (undo_start l.map privates)

-- an element with its version word: where that is VER the element is logged, else the list has room for it
pub record CanStore {St : Type 0} (l : ProgramPlaces) (v : StateView St) (s : St) (element version : ℕ) (x : World) : Type 0 where
  pub is_shared : IsSharedWord l element
  pub index : ℕ
  pub index_below : index < l.map.versions.words
  pub version_is : version ≡ l.map.versions.address + 2 * index
  pub later : x.fram version ≡ x.fram (word_place l.map Version) → IsLogged (logged l.map x.fram) element
  pub first : x.fram version ≢ x.fram (word_place l.map Version) → list_length l x < l.list_capacity (v.task s)

-- a store to an element, logged before where it is the first, leaves the world undecided at each of its stores
abbrev pub ElementStoresStay : (St : Type 0) → Type 0
ElementStoresStay St = (l : ProgramPlaces) (v : StateView St) (s : St) (x : World) (element version w : ℕ) → AreApart l.map → HaveRoom l
    → UndoneAt l v s x → CanStore l v s element version x → w < 0x10000
    → HoldsThroughout (UndoneAt l v s) (element_stored l.map element version w x.fram) x

-- so does a store to a shared word that is logged, or that the task writes in place
abbrev pub SharedStoresStay : (St : Type 0) → Type 0
SharedStoresStay St = (l : ProgramPlaces) (v : StateView St) (s : St) (x : World) (a w : ℕ) → AreApart l.map → HaveRoom l
    → UndoneAt l v s x → IsSharedWord l a → IsLogged (logged l.map x.fram) a ⊎ (l.written_in_place (v.task s) a ≡ true) → w < 0x10000
    → HoldsThroughout (UndoneAt l v s) (Store a w ∷ []) x
