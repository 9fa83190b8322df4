-- What joins the two boards of a pair: the words that B accepted are those that A emitted, in order and each once.
use Rattle.std.specs.Prelude.{◌≡◌, ℕ, ◌≤◌, All, List, [], ◌∷◌, ◌++◌, length, Option}
use Rattle.radio_link.specs.declared.air.Packet.{Packet}
use Rattle.fram_board.specs.Run.{Moment}
use Rattle.board_run.specs.History.{History}
use Rattle.board_run.specs.Events.{no_hand, hand_after}
use Rattle.pair_run.specs.Pair.{Pair, most_words}
use Rattle.pair_laws.specs.Fronts.{IsFront}
use Rattle.pair_laws.specs.Sides.{SenderRun, ListenerRun}
use Rattle.pair_laws.specs.Sender.{Sending, AreInOrder, IsPacketOf}

-- B accepted what A knows to be accepted, or one word more, which A emitted
pub data Leads (x : Sending) (accepted : List ℕ) : Type 0 where
  Level : accepted ≡ x.taken → Leads x accepted
  Ahead : (word : ℕ) → accepted ≡ x.taken ++ word ∷ [] → IsFront accepted x.emitted → Leads x accepted

-- The facts that each step of either board, of the air and of the power keeps, where these acknowledgements were brought to A and these packets to B
pub record IsJoined (x : Sending) (to_a : List ℕ) (to_b : List Packet) (p : Pair) : Type 0 where
  -- B is level with A, or one word ahead
  pub leads : Leads x p.hand.accepted
  -- each packet that was sent has a word of A, of which all before it are known to be accepted
  pub packets : All (IsPacketOf x) p.packets.items
  -- each acknowledgement that was sent, and each that was brought, is at most the number of the accepted words
  pub acknowledgements : All (λ n. n ≤ length p.hand.accepted) p.acknowledgements.items
  pub heard : All (λ n. n ≤ length p.hand.accepted) to_a
  -- each packet that was brought is such, too: whatever waits in EVENT or is in hand
  pub brought : All (IsPacketOf x) to_b
  -- the accepted words are so few that numbers tell places
  pub few : length p.hand.accepted ≤ most_words
  -- between a done and the next decide A knows all that it emitted to be accepted
  pub order : AreInOrder x

-- a pair before its first step, of whose A this is known: nothing was sent, and nothing accepted
pub record IsNew (p : Pair) (a : History) : Type 0 where
  pub packets : p.packets.items ≡ []
  pub acknowledgements : p.acknowledgements.items ≡ []
  pub hand : p.hand ≡ no_hand
  pub accepted : a.accepted ≡ []
  pub more : a.more ≡ 0

-- a pair in the middle of its run, behind these moments of A and those of B: both sides are runs of their own, and they are joined
pub record IsMidway (head : Option ℕ) (first : Pair) (sending : List Moment → Sending) (of_a of_b : List Moment) (p : Pair) : Type 0 where
  pub heard : List ℕ
  pub brought : List Packet
  pub a : SenderRun first.a heard of_a p.a
  pub b : ListenerRun first.b brought of_b p.b
  pub hand : p.hand ≡ hand_after head of_b no_hand
  pub joined : IsJoined (sending of_a) heard brought p
