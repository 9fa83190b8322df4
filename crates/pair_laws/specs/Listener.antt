-- What B owes to the pair, by its moments alone and whatever packets are brought to it.
use Rattle.std.specs.Prelude.{◌≡◌, ℕ, ◌⊎◌, List, [], ◌∷◌, ◌++◌, length, Contains, Option, Some}
use Rattle.radio_link.specs.declared.air.Packet.{Packet}
use Rattle.fram_board.specs.Run.{Moment}
use Rattle.board_run.specs.History.{History, noted}
use Rattle.board_run.specs.Events.{Hand, no_hand, head_of, hand_behind, hand_after}
use Rattle.board_run.specs.Stepwise.{RunState, StepsOn}
use Rattle.pair_run.specs.Pair.{sent_by}
use Rattle.pair_run.specs.Consuming.{Consuming, nothing_consumed, consuming_behind}
use Rattle.pair_laws.specs.Fronts.{IsFront}
use Rattle.pair_laws.specs.Numbers.{word_number}
use Rattle.pair_laws.specs.Sides.{ListenerRun}

-- one word more is accepted: that of a packet that was brought, whose number is that of the word to come, which HEAD is
pub record Accepts (brought : List Packet) (before behind : List ℕ) : Type 0 where
  pub packet : Packet
  pub comes : Contains brought packet
  pub number : packet.number ≡ word_number (length before)
  pub next : behind ≡ before ++ packet.word ∷ []

-- what a moment of B does behind this hand, where these packets were brought before it: no word is accepted, or one; and what it sends is HEAD
pub record ListenerMoment (head : Option ℕ) (brought : List Packet) (h : Hand) (m : Moment) : Type 0 where
  pub accepted : ((hand_behind head m h).accepted ≡ h.accepted) ⊎ Accepts brought h.accepted (hand_behind head m h).accepted
  pub sent : (p : ℕ × ℕ) → sent_by m.action ≡ Some p → p.0 ≡ word_number (length h.accepted)

-- so at each of these moments, from a hand on
abbrev pub EachListens : Option ℕ → List Packet → Hand → List Moment → Type 0
EachListens head brought h [] = Unit {0}
EachListens head brought h (m ∷ ms) = ListenerMoment head brought h m × EachListens head brought (hand_behind head m h) ms

-- what the attempts consume behind moments, from what is known on
abbrev pub consuming_after : History → List Moment → Consuming → Consuming
consuming_after h [] c = c
consuming_after h (m ∷ ms) c = consuming_after (noted h m) ms (consuming_behind h m c)

-- the words that the committed attempts consumed in moments are the first of those accepted, and as many as are counted
pub record ConsumesInOrder (known : History) (consumed : List ℕ) (ms : List Moment) : Type 0 where
  pub words : IsFront consumed (hand_after (head_of known.map) ms no_hand).accepted
  pub count : length consumed ≡ (consuming_after known ms nothing_consumed).consumed

-- what B owes from its first state on, of which this is known: each step is such, whatever packets were brought; and so is what it consumes
pub record ListenerKeeps (first : RunState) (known : History) (consumed : List Moment → List ℕ) : Type 0 where
  pub steps : (brought : List Packet) (ms ns : List Moment) (s t : RunState) → ListenerRun first brought ms s → StepsOn s ns t
      → EachListens (head_of known.map) brought (hand_after (head_of known.map) ms no_hand) ns
  pub consumes : (brought : List Packet) (ms : List Moment) (s : RunState) → ListenerRun first brought ms s
      → ConsumesInOrder known (consumed ms) ms
