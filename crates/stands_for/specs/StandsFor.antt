-- What FRAM and the accepted words stand for: they rest at a state of the source, are undecided at it, or decided from one to another; or a
-- commit is pending that leaves one.
use Rattle.std.specs.Prelude.{◌≡◌, ℕ, zero, suc, ◌+◌, ◌*◌, ◌%◌, ◌<◌, ◌≤◌, ◌⊎◌, true, List, [], ◌∷◌, ◌++◌, length, take, slice_index}
use Rattle.memory_map.specs.MemoryMap.{word_place}
use Rattle.memory_map.specs.declared.words.RuntimeWord.TheVariants.{CurrentTask, NextTask, Gate, ListLength, EmitCount, Base, SentBase, Version}
pub use Rattle.alp_words.specs.Words.{HoldsWords}
use Rattle.machine_effects.specs.World.{World, world_after}
use Rattle.runtime_effects.specs.Places.{CopyPair, entry_bytes, listed}
use Rattle.runtime_effects.specs.Stages.{commit_effects}
use Rattle.stands_for.specs.Layout.{ProgramPlaces, StateView, IsSharedWord, IsCopyWord, IsAmong}

-- so many words from an address on
abbrev pub words_at : ℕ → ℕ → (ℕ → ℕ) → List ℕ
words_at zero p f = []
words_at (suc n) p f = f p ∷ words_at n (p + 2) f

-- each entry of the commit list has a word at least
abbrev pub EntriesHaveWords : ProgramPlaces → (ℕ → ℕ) → Type 0
EntriesHaveWords l f = (i : ℕ) → i < f (word_place l.map ListLength) → 0 < f (l.map.list.address + entry_bytes * i + 4)

-- every version word is at most VER
abbrev pub VersionsWithin : ProgramPlaces → (ℕ → ℕ) → Type 0
VersionsWithin l f = (i : ℕ) → i < l.map.versions.words → f (l.map.versions.address + 2 * i) ≤ f (word_place l.map Version)

-- no transition is decided: CUR is the number of the state's task, GATE is 0, the accepted words are those of the state, and BASE is
-- their number
pub record IsOpen {St : Type 0} (l : ProgramPlaces) (v : StateView St) (s : St) (x : World) : Type 0 where
  pub is_state : v.is_state s ≡ true
  pub is_task : v.task s < l.tasks
  pub words : HoldsWords x.fram
  pub current_task : x.fram (word_place l.map CurrentTask) ≡ v.task s
  pub gate : x.fram (word_place l.map Gate) ≡ 0
  pub accepted : x.accepted ≡ v.emitted s
  pub base : x.fram (word_place l.map Base) ≡ length (v.emitted s) % 0x10000
  pub versions : VersionsWithin l x.fram

-- the world rests at a state: no transition is decided, and every shared word is the state's
pub record RestsAt {St : Type 0} (l : ProgramPlaces) (v : StateView St) (s : St) (x : World) : Type 0 where
  pub is_open : IsOpen l v s x
  pub shared : (a : ℕ) → IsSharedWord l a → x.fram a ≡ v.word s a

-- it is undecided at a state: the same, but a scalar that the current task writes in place may hold any word
pub record UndecidedAt {St : Type 0} (l : ProgramPlaces) (v : StateView St) (s : St) (x : World) : Type 0 where
  pub is_open : IsOpen l v s x
  pub shared : (a : ℕ) → IsSharedWord l a → (l.written_in_place (v.task s) a ≡ true) ⊎ (x.fram a ≡ v.word s a)

-- the accepted words are those of s and at least so many, in order, of those that the next state has beyond s
pub record AcceptedFrom {St : Type 0} (v : StateView St) (s : St) (emits : List ℕ) (least : ℕ) (x : World) : Type 0 where
  pub count : ℕ
  pub at_least : least ≤ count
  pub at_most : count ≤ length emits
  pub is : x.accepted ≡ v.emitted s ++ take count emits

-- a transition from s to the next state is decided, with these words to send, of which at least so many are accepted: NEXT is the next
-- state's task, CUR that of one of the two, the words to send are numbered from SB on, and BASE is SB, or SB + EN
pub record SendsAndCloses {St : Type 0} (l : ProgramPlaces) (v : StateView St) (s next : St) (emits : List ℕ) (least : ℕ) (x : World) : Type 0 where
  pub is_state : v.is_state s ≡ true
  pub next_is_state : v.is_state next ≡ true
  pub is_task : v.task s < l.tasks
  pub next_is_task : v.task next < l.tasks
  pub words : HoldsWords x.fram
  pub gate : x.fram (word_place l.map Gate) ≡ 1
  pub next_task : x.fram (word_place l.map NextTask) ≡ v.task next
  pub current_task : (x.fram (word_place l.map CurrentTask) ≡ v.task s) ⊎ (x.fram (word_place l.map CurrentTask) ≡ v.task next)
  pub emitted : v.emitted next ≡ v.emitted s ++ emits
  pub emit_count : x.fram (word_place l.map EmitCount) ≡ length emits
  pub within_emits : length emits ≤ l.emit_capacity (v.task s)
  pub buffer : (i : ℕ) → i < length emits → x.fram (l.map.emits.address + 2 * i) ≡ slice_index emits i
  pub sent_base : x.fram (word_place l.map SentBase) ≡ length (v.emitted s) % 0x10000
  pub base : (x.fram (word_place l.map Base) ≡ x.fram (word_place l.map SentBase))
      ⊎ (x.fram (word_place l.map Base) ≡ (x.fram (word_place l.map SentBase) + x.fram (word_place l.map EmitCount)) % 0x10000)
  pub accepted : AcceptedFrom v s emits least x
  pub versions : VersionsWithin l x.fram

-- these words are to be copied home: the list names them, each copy is the next state's word, and each home this or still that of s; every
-- other shared word is the next state's
pub record CopiesHome {St : Type 0} (l : ProgramPlaces) (v : StateView St) (s next : St) (pairs : List CopyPair) (x : World) : Type 0 where
  pub pairs_listed : listed l.map x.fram ≡ pairs
  pub entries : EntriesHaveWords l x.fram
  pub within_list : x.fram (word_place l.map ListLength) ≤ l.list_capacity (v.task s)
  pub within_words : length pairs ≤ l.list_capacity (v.task s)
  pub homes : (p : CopyPair) → IsAmong pairs p → IsSharedWord l p.home
  pub copies : (p : CopyPair) → IsAmong pairs p → IsCopyWord l p.copy
  pub copied : (p : CopyPair) → IsAmong pairs p → x.fram p.copy ≡ v.word next p.home
  pub either : (p : CopyPair) → IsAmong pairs p → (x.fram p.home ≡ v.word s p.home) ⊎ (x.fram p.home ≡ v.word next p.home)
  pub others : (a : ℕ) → IsSharedWord l a → ((p : CopyPair) → IsAmong pairs p → p.home ≡ a → ⊥) → x.fram a ≡ v.word next a

-- it is decided from s to the next state, with these words to copy and to send, of which at least so many are accepted
pub record DecidedWith {St : Type 0} (l : ProgramPlaces) (v : StateView St) (s next : St) (pairs : List CopyPair) (emits : List ℕ) (least : ℕ)
    (x : World) : Type 0 where
  pub sends : SendsAndCloses l v s next emits least x
  pub home : CopiesHome l v s next pairs x

-- it is decided from s to the next state: with the words that the commit list names, and those that the next state has emitted beyond s
pub record DecidedFrom {St : Type 0} (l : ProgramPlaces) (v : StateView St) (s next : St) (x : World) : Type 0 where
  pub emits : List ℕ
  pub decided : DecidedWith l v s next (listed l.map x.fram) emits 0 x

-- no commit is pending, whatever the shared words are: CUR names a task, BASE is the number of the accepted words, and every version word is
-- at most VER
pub record IsAtRest (l : ProgramPlaces) (x : World) : Type 0 where
  pub words : HoldsWords x.fram
  pub current_task : x.fram (word_place l.map CurrentTask) < l.tasks
  pub gate : x.fram (word_place l.map Gate) ≡ 0
  pub base : x.fram (word_place l.map Base) ≡ length x.accepted % 0x10000
  pub versions : VersionsWithin l x.fram

-- a commit is pending and can be made, whatever was committed: CUR and NEXT name tasks; the list, the words that it names and the words to
-- send are within their capacities; each entry has a word and goes from copies to shared words; the receiver accepted the first so many of
-- the words to send, which are numbered from SB on; and BASE is SB, or SB + EN
pub record IsPendingCommit (l : ProgramPlaces) (x : World) : Type 0 where
  pub words : HoldsWords x.fram
  pub gate : x.fram (word_place l.map Gate) ≡ 1
  pub current_task : x.fram (word_place l.map CurrentTask) < l.tasks
  pub next_task : x.fram (word_place l.map NextTask) < l.tasks
  pub list_length : x.fram (word_place l.map ListLength) ≤ l.map.entries
  pub entries : EntriesHaveWords l x.fram
  pub list_words : length (listed l.map x.fram) ≤ l.map.entries
  pub homes : (p : CopyPair) → IsAmong (listed l.map x.fram) p → IsSharedWord l p.home
  pub copies : (p : CopyPair) → IsAmong (listed l.map x.fram) p → IsCopyWord l p.copy
  pub emit_count : x.fram (word_place l.map EmitCount) ≤ l.map.emits.words
  pub sent : ℕ
  pub sent_some : sent ≤ x.fram (word_place l.map EmitCount)
  pub number : length x.accepted % 0x10000 ≡ (x.fram (word_place l.map SentBase) + sent) % 0x10000
  pub base : (x.fram (word_place l.map Base) ≡ x.fram (word_place l.map SentBase))
      ⊎ (x.fram (word_place l.map Base) ≡ (x.fram (word_place l.map SentBase) + x.fram (word_place l.map EmitCount)) % 0x10000)
  pub versions : VersionsWithin l x.fram

-- a sound world: one from which a run can go on
pub data IsSound (l : ProgramPlaces) (x : World) : Type 0 where
  SoundAtRest : IsAtRest l x → IsSound l x
  SoundPending : IsPendingCommit l x → IsSound l x

-- a pending commit leaves a state: behind the commit the world rests there
pub record CommittingTo {St : Type 0} (l : ProgramPlaces) (v : StateView St) (to : St) (x : World) : Type 0 where
  pub pending : IsPendingCommit l x
  pub rests : RestsAt l v to (world_after (commit_effects l.map x.fram) x)

-- an attempt has started: nothing is listed and nothing emitted, every version word is below VER, and the copies of these scalars are made
pub record StartedAt {St : Type 0} (l : ProgramPlaces) (v : StateView St) (s : St) (privates : List CopyPair) (x : World) : Type 0 where
  pub undecided : UndecidedAt l v s x
  pub list_length : x.fram (word_place l.map ListLength) ≡ 0
  pub emit_count : x.fram (word_place l.map EmitCount) ≡ 0
  pub versions : (i : ℕ) → i < l.map.versions.words → x.fram (l.map.versions.address + 2 * i) < x.fram (word_place l.map Version)
  pub copies : (p : CopyPair) → IsAmong privates p → x.fram p.copy ≡ v.word s p.home
