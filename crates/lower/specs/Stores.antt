-- What statements store, by address and word; and what they do under undo, one act after another.
use Rattle.std.specs.Prelude.{◌≡◌, ℕ, ◌+◌, ◌*◌, ◌<◌, ◌≤◌, Bool, true, List, [], ◌∷◌, ◌++◌, ◌⊎◌}
use Rattle.fram_board.specs.Effects.{Effect, Store, Take, Outside, Offered, Looked}
use Rattle.machine_effects.specs.World.{fram_after}
use Rattle.memory_map.specs.event_places.Places.{count_place, answer_place}
use Rattle.memory_map.specs.MemoryMap.{word_place}
use Rattle.memory_map.specs.declared.words.RuntimeWord.TheVariants.{ListLength, EmitCount, Version}
use Rattle.memory_map.specs.Spots.{Places, scalar_address, IsScalarWord, Element, IsCopied, element_address, copy_address, version_address}
use Rattle.undo_effects.specs.Stages.{element_stored}
use Rattle.lower.specs.Spots.{Room, IsUndo}

-- effects that take readings, look, and make stores of this kind, by address and word, and send nothing
abbrev pub TakesAndStores : (ℕ → ℕ → Type 0) → List Effect → Type 0
TakesAndStores P [] = Unit {0}
TakesAndStores P (Store a w ∷ es) = P a w × TakesAndStores P es
TakesAndStores P (Take r ∷ es) = TakesAndStores P es
TakesAndStores P (Outside (Looked seen) ∷ es) = TakesAndStores P es
TakesAndStores P (Outside (Offered n w) ∷ es) = ⊥

-- what expressions store, where the program takes events: an answer, and how many words of the ring the attempt has taken
abbrev pub IsAnswerStore : Bool → ℕ → ℕ → Type 0
IsAnswerStore events a w = (events ≡ true) × ((a ≡ answer_place) ⊎ (a ≡ count_place))

-- what statements store, VER being this number: words of the scalars that they write, copies of elements, under undo the elements, version
-- words of elements, entries of the commit list with their count, emitted words with theirs, and what expressions store
pub data IsTaskStore (p : Places) (written : ℕ → Bool) (room : Room) (ver : ℕ) (a w : ℕ) : Type 0 where
  at_variable : (v i : ℕ) → IsScalarWord p v i → written v ≡ true → a ≡ scalar_address p v i → IsTaskStore p written room ver a w
  at_copy : (x : Element) → IsCopied p x → a ≡ copy_address p x → IsTaskStore p written room ver a w
  at_element : IsUndo p → (x : Element) → IsCopied p x → a ≡ element_address p x → IsTaskStore p written room ver a w
  at_version : (x : Element) → IsCopied p x → a ≡ version_address p x → w ≡ ver → IsTaskStore p written room ver a w
  in_list : p.map.list.address ≤ a → a < p.map.list.address + 6 * room.list → IsTaskStore p written room ver a w
  at_list_length : a ≡ word_place p.map ListLength → w ≤ room.list → IsTaskStore p written room ver a w
  at_emit_count : a ≡ word_place p.map EmitCount → w ≤ room.emits → IsTaskStore p written room ver a w
  in_buffer : (i : ℕ) → i < room.emits → a ≡ 2 * i + p.map.emits.address → IsTaskStore p written room ver a w
  at_answer : IsAnswerStore p.map.runtime.events a w → IsTaskStore p written room ver a w

-- ---- under undo

-- what statements store there without an entry in front: words of the scalars that they write, emitted words with their count, and what
-- expressions store
pub data IsPlainStore (p : Places) (written : ℕ → Bool) (room : Room) (a w : ℕ) : Type 0 where
  to_variable : (v i : ℕ) → IsScalarWord p v i → written v ≡ true → a ≡ scalar_address p v i → IsPlainStore p written room a w
  to_emit_count : a ≡ word_place p.map EmitCount → w ≤ room.emits → IsPlainStore p written room a w
  to_buffer : (i : ℕ) → i < room.emits → a ≡ 2 * i + p.map.emits.address → IsPlainStore p written room a w
  to_answer : IsAnswerStore p.map.runtime.events a w → IsPlainStore p written room a w

-- one act: an effect alone, or a word stored in an element, with the entry in front of it where it is the first
pub data Act : Type 0 where
  alone : (e : Effect) → Act
  to_element : (x : Element) → (w : ℕ) → Act

-- its effects, on this FRAM
abbrev pub act_effects : Places → Act → (ℕ → ℕ) → List Effect
act_effects p (alone e) f = e ∷ []
act_effects p (to_element x w) f = element_stored p.map (element_address p x) (version_address p x) w f

-- an effect alone stores nothing that wants an entry; an element's array may be written, and the list has room for its entry, if it isn't listed
abbrev pub IsAct : Places → (ℕ → Bool) → Room → (ℕ → ℕ) → Act → Type 0
IsAct p written room f (alone e) = TakesAndStores (IsPlainStore p written room) (e ∷ [])
IsAct p written room f (to_element x w) =
    IsCopied p x × ((f (version_address p x) ≡ f (word_place p.map Version) → ⊥) → f (word_place p.map ListLength) < room.list)

-- acts one after another, each on what FRAM then is
abbrev pub acts_effects : Places → List Act → (ℕ → ℕ) → List Effect
acts_effects p [] f = []
acts_effects p (act ∷ acts) f = let es = act_effects p act f in es ++ acts_effects p acts (fram_after es f)

-- the same of what they are
abbrev pub AreActs : Places → (ℕ → Bool) → Room → (ℕ → ℕ) → List Act → Type 0
AreActs p written room f [] = Unit {0}
AreActs p written room f (act ∷ acts) = IsAct p written room f act × AreActs p written room (fram_after (act_effects p act f) f) acts

-- effects, from this FRAM on, that are made by acts
pub record AreMadeByActs (p : Places) (written : ℕ → Bool) (room : Room) (f : ℕ → ℕ) (es : List Effect) : Type 0 where
  pub acts : List Act
  pub each : AreActs p written room f acts
  pub is : es ≡ acts_effects p acts f

-- ---- from a state on

-- what statements did from this FRAM on: such stores, and under undo one act after another
pub record Did (p : Places) (written : ℕ → Bool) (room : Room) (ver : ℕ) (start : ℕ → ℕ) (es : List Effect) : Type 0 where
  pub stores : TakesAndStores (IsTaskStore p written room ver) es
  pub acts : IsUndo p → AreMadeByActs p written room start es
