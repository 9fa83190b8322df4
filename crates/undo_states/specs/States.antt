-- What FRAM and the accepted words stand for under undo: what the shared words are once the entries of the list are put back.
use Rattle.std.specs.Prelude.{◌≡◌, ℕ, ◌+◌, ◌*◌, ◌<◌, ◌≤◌, false, List, length, map, All}
use Rattle.memory_map.specs.MemoryMap.{word_place}
use Rattle.memory_map.specs.declared.words.RuntimeWord.TheVariants.{ListLength, EmitCount, Version}
use Rattle.machine_effects.specs.World.{World}
use Rattle.undo_effects.specs.Entries.{Logged, logged, IsLogged, undone}
use Rattle.stands_for.specs.Layout.{ProgramPlaces, StateView, IsSharedWord}
use Rattle.stands_for.specs.StandsFor.{HoldsWords, RestsAt, UndecidedAt, SendsAndCloses}

-- CLN
abbrev pub list_length : ProgramPlaces → World → ℕ
list_length l x = x.fram (word_place l.map ListLength)

-- the world with the entries of the list put back, from the last to the first
abbrev pub restored : ProgramPlaces → World → World
restored l x = record x { fram = undone (logged l.map x.fram) x.fram }

-- the world rests at a state, and nothing is logged
pub record RestsClear {St : Type 0} (l : ProgramPlaces) (v : StateView St) (s : St) (x : World) : Type 0 where
  pub rests : RestsAt l v s x
  pub none : list_length l x ≡ 0

-- it is undecided at a state: with the entries put back it is the state's, but for what the current task writes in place; the entries are of
-- shared words, no more than the task may list
pub record UndoneAt {St : Type 0} (l : ProgramPlaces) (v : StateView St) (s : St) (x : World) : Type 0 where
  pub words : HoldsWords x.fram
  pub within : list_length l x ≤ l.list_capacity (v.task s)
  pub shared : (a : ℕ) → IsLogged (logged l.map x.fram) a → IsSharedWord l a
  pub behind : UndecidedAt l v s (restored l x)

-- and nothing is to be put back
pub record SettledAt {St : Type 0} (l : ProgramPlaces) (v : StateView St) (s : St) (x : World) : Type 0 where
  pub undecided : UndoneAt l v s x
  pub none : list_length l x ≡ 0

-- the entry of a shared word, with a state's word
abbrev pub entry_at : {St : Type 0} → StateView St → St → ℕ → Logged
entry_at v s a = record { address = a; word = v.word s a }

-- an attempt has started: exactly these words are logged, and no shared word has changed; nothing is emitted, and every version word is below VER
pub record LoggingAt {St : Type 0} (l : ProgramPlaces) (v : StateView St) (s : St) (privates : List ℕ) (x : World) : Type 0 where
  pub undecided : UndoneAt l v s x
  pub stands : UndecidedAt l v s x
  pub entries : logged l.map x.fram ≡ map (entry_at v s) privates
  pub count : list_length l x ≡ length privates
  pub emit_count : x.fram (word_place l.map EmitCount) ≡ 0
  pub versions : (i : ℕ) → i < l.map.versions.words → x.fram (l.map.versions.address + 2 * i) < x.fram (word_place l.map Version)

-- it is decided from s to the next state, with these words to send: every shared word is the next state's already
pub record ClosesWith {St : Type 0} (l : ProgramPlaces) (v : StateView St) (s next : St) (emits : List ℕ) (x : World) : Type 0 where
  pub sends : SendsAndCloses l v s next emits 0 x
  pub within : list_length l x ≤ l.list_capacity (v.task s)
  pub shared : (a : ℕ) → IsSharedWord l a → x.fram a ≡ v.word next a

-- it is decided from s to the next state: with the words to send that this has emitted beyond s
pub record ClosesFrom {St : Type 0} (l : ProgramPlaces) (v : StateView St) (s next : St) (x : World) : Type 0 where
  pub emits : List ℕ
  pub closes : ClosesWith l v s next emits x

-- a pending commit leaves a state: it is decided from some state to that
pub record ClosesTo {St : Type 0} (l : ProgramPlaces) (v : StateView St) (to : St) (x : World) : Type 0 where
  pub from : St
  pub decided : ClosesFrom l v from to x

-- the words of a task's private scalars: shared words that it doesn't write in place, no more than it may list
pub record AreLogged (l : ProgramPlaces) (t : ℕ) (privates : List ℕ) : Type 0 where
  pub each : All (λ a. IsSharedWord l a × (l.written_in_place t a ≡ false)) privates
  pub few : length privates ≤ l.list_capacity t
