-- What a watch keeps.
use Rattle.std.specs.Prelude.{◌≡◌, ℕ, ◌+◌, ◌*◌, ◌-◌, ◌<◌, Bool, true, List, [], ◌∷◌, ◌++◌, Option, Some, None, IfSome, option_map}
use Rattle.image_text.specs.image_map.declared.parts.ValueType.{ValueType}
use Rattle.image_text.specs.image_map.declared.parts.Variable.{Variable}
use Rattle.image_text.specs.image_map.MapValue.{MapValue, IsFramWord}
use Rattle.board_run.specs.declared.state.State.{State}
use Rattle.board_run.specs.declared.seen.Seen.{Seen}
use Rattle.board_run.specs.declared.numbers.PlacedNumber.{PlacedNumber}
use Rattle.image_text.specs.address_space.Limits.{place_of}
use Rattle.board_run.specs.History.{History, SharedNumber, word_in, array_words, scalar_number, shared_numbers, values_in, changed_lines}
use Rattle.board_run.specs.Shadow.{ShadowValue, Stores, IsStored, Covers, CoversBut}
use Rattle.board_run.specs.Events.{head_of}
use Rattle.board_run.specs.Tally.{WatchesHead, counted}
use Rattle.board_run.specs.Parts.{Known}

-- the shared numbers of a map in the words of a shadow
abbrev pub shared_in : Option MapValue → List ℕ → List ℕ
shared_in None words = []
shared_in (Some m) words = values_in words (shared_numbers m.variables)

-- what is kept, with the map, as a history
abbrev pub history_of : Option MapValue → State → History
history_of m s = record {
  map = m;
  gate = s.gate;
  completed = s.completed;
  task = s.task;
  shared = shared_in m s.shadow.words;
  accepted = s.accepted.items;
  more = s.more;
  since = s.since;
  span_from = s.span_from;
  span_to = s.span_to;
}

-- a shared number of a map that is looked at
abbrev pub placed : PlacedNumber → SharedNumber
placed p = record { name = p.name.now; index = p.index; address = p.address; is_long = p.is_long }

-- a shared number stands in the FRAM, a long with both words
abbrev pub StandsInFram : SharedNumber → Type 0
StandsInFram p = IsFramWord p.address × (p.is_long ≡ true → IsFramWord (p.address + 2))

-- how many numbers a variable has
abbrev pub number_count : Option ℕ → ℕ
number_count None = 1
number_count (Some n) = n

-- the numbers of a variable from an index on
abbrev pub numbers_from : List ℕ → ℕ → ValueType → Option ℕ → ℕ → List SharedNumber
numbers_from name a t None i = scalar_number name a t ∷ []
numbers_from name a t (Some n) i = array_words name (a + 2 * i) i (n - i)

-- the shared numbers of variables, from an index of the first on
abbrev pub numbers_left : List Variable → ℕ → List SharedNumber
numbers_left [] i = []
numbers_left (v ∷ vs) i = numbers_from v.name v.address v.value_type v.length i ++ shared_numbers vs

-- the first variable has a number at this index
abbrev pub HasIndex : List Variable → ℕ → Type 0
HasIndex [] i = Unit {0}
HasIndex (v ∷ vs) i = i < number_count v.length

-- what has been seen, as it stands in memory
abbrev pub seen_so : Seen → History
seen_so s = history_of (option_map (λ m. m.now) s.map) s.state

-- the same with the counts of events
abbrev pub known_so : Seen → Known
known_so s = record { history = seen_so s; tally = counted s.tally }

-- a word is GATE of a FRAM, if GATE is known
abbrev pub IsGateIfKnown : MapValue → Bool → ℕ → List ℕ → Type 0
IsGateIfKnown m is_known gate fram = is_known ≡ true → gate ≡ word_in fram m.words.gate

-- the same where a step didn't write it
abbrev pub IsGateUnlessWritten : MapValue → Stores → Bool → ℕ → List ℕ → Type 0
IsGateUnlessWritten m stores is_known gate fram = (IsStored stores (place_of m.words.gate) → ⊥) → IsGateIfKnown m is_known gate fram

-- with a map, the shadow covers a FRAM, and GATE is known or to be looked at
abbrev pub FollowsBy : Option MapValue → ShadowValue → Bool → ℕ → List ℕ → Type 0
FollowsBy None s is_known gate fram = Unit {0}
FollowsBy (Some m) s is_known gate fram = Covers s fram × IsGateIfKnown m is_known gate fram

-- the same but for the words that a step wrote
abbrev pub FollowsButBy : Option MapValue → Stores → ShadowValue → Bool → ℕ → List ℕ → Type 0
FollowsButBy None stores s is_known gate fram = Unit {0}
FollowsButBy (Some m) stores s is_known gate fram = CoversBut stores s fram × IsGateUnlessWritten m stores is_known gate fram

-- the map of what is seen, if there is one
abbrev pub map_seen : Seen → Option MapValue
map_seen s = option_map (λ m. m.now) s.map

-- what is seen follows a FRAM
pub record Follows (s : Seen) (fram : List ℕ) : Type 0 where
  pub state : FollowsBy (map_seen s) s.state.shadow s.state.is_gate_known s.state.gate fram
  pub head : WatchesHead (map_seen s) s.head.place s.head.word fram

-- the same behind a step: but for the words that it wrote, and HEAD is to be looked at
pub record FollowsBut (stores : Stores) (s : Seen) (fram : List ℕ) : Type 0 where
  pub state : FollowsButBy (map_seen s) stores s.state.shadow s.state.is_gate_known s.state.gate fram
  pub place : s.head.place ≡ head_of (map_seen s)
  pub fits : IfSome s.head.place IsFramWord

-- the lines of shared numbers whose words were otherwise before
abbrev pub told_lines : List ℕ → List ℕ → List SharedNumber → List ℕ
told_lines before fram ps = changed_lines ps (values_in before ps) fram
