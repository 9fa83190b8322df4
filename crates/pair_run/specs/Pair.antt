-- Two boards over a radio. What A sends goes into the air as packets, what B sends as acknowledgements, and a schedule brings them to the other side,
-- any of them, any number of times, in any order, or never.
use Rattle.std.specs.Prelude.{ℕ, ◌<◌, ◌≤◌, List, [], ◌∷◌, ◌++◌, length, map, slice_get, false, Option, Some, None}
use Rattle.radio_link.specs.declared.air.Packet.{Packet}
use Rattle.radio_link.specs.Sent.{SentValue, with_sent, with_brought, newest}
use Rattle.fram_board.specs.Board.{packet_brought, acknowledgement_brought}
use Rattle.fram_board.specs.Run.{Moment, Action, PowerUp, Execute}
use Rattle.board_run.specs.Events.{Hand, hand_after}
use Rattle.board_run.specs.Stepwise.{RunState, StepsOn, with_board}
use Rattle.pair_run.specs.Actions.{PairAction, StepOfA, StepOfB, PacketToB, AcknowledgementToA, NewestPacketToB, NewestAcknowledgementToA}

-- the runs of both boards, all that was sent, and what became of the packets at B
pub record Pair : Type 0 where
  pub a : RunState
  pub b : RunState
  pub packets : SentValue Packet
  pub acknowledgements : SentValue ℕ
  pub hand : Hand

-- a moment of a pair: one of either board
pub data PairMoment : Type 0 where
  OfA : (moment : Moment) → PairMoment
  OfB : (moment : Moment) → PairMoment

-- where B has accepted so many words, the run of the pair ends
abbrev pub most_words : ℕ
most_words = 32768

-- what an action sent
abbrev pub sent_by : Action → Option (ℕ × ℕ)
sent_by PowerUp = None
sent_by (Execute kind done offered) = done.sent

-- the packets once this was sent
abbrev pub with_packet : Option (ℕ × ℕ) → SentValue Packet → SentValue Packet
with_packet None s = s
with_packet (Some p) s = with_sent s (record { number = p.0; word = p.1 })

-- and behind moments of A
abbrev pub packets_behind : List Moment → SentValue Packet → SentValue Packet
packets_behind [] s = s
packets_behind (m ∷ ms) s = packets_behind ms (with_packet (sent_by m.action) s)

-- the acknowledgements once this was sent
abbrev pub with_acknowledgement : Option (ℕ × ℕ) → SentValue ℕ → SentValue ℕ
with_acknowledgement None s = s
with_acknowledgement (Some p) s = with_sent s p.0

-- and behind moments of B
abbrev pub acknowledgements_behind : List Moment → SentValue ℕ → SentValue ℕ
acknowledgements_behind [] s = s
acknowledgements_behind (m ∷ ms) s = acknowledgements_behind ms (with_acknowledgement (sent_by m.action) s)

-- a run to whose board a packet is brought, if there is one
abbrev pub with_packet_brought : Option Packet → RunState → RunState
with_packet_brought None s = s
with_packet_brought (Some p) s = with_board s (packet_brought p.number p.word s.board)

-- or an acknowledgement
abbrev pub with_acknowledgement_brought : Option ℕ → RunState → RunState
with_acknowledgement_brought None s = s
with_acknowledgement_brought (Some n) s = with_board s (acknowledgement_brought n s.board)

-- the newest is brought: it waits no more
abbrev pub with_newest_brought : {T : Type 0} → SentValue T → SentValue T
with_newest_brought s = record { items = s.items; newest_waits = false }

-- the pair once the packet of this place is brought, and so on
abbrev pub packet_at : ℕ → Pair → Pair
packet_at k p = record p { b = with_packet_brought (slice_get p.packets.items k) p.b; packets = with_brought p.packets k }

abbrev pub acknowledgement_at : ℕ → Pair → Pair
acknowledgement_at k p = record p {
  a = with_acknowledgement_brought (slice_get p.acknowledgements.items k) p.a;
  acknowledgements = with_brought p.acknowledgements k;
}

abbrev pub newest_packet : Pair → Pair
newest_packet p = record p { b = with_packet_brought (newest p.packets) p.b; packets = with_newest_brought p.packets }

abbrev pub newest_acknowledgement : Pair → Pair
newest_acknowledgement p = record p {
  a = with_acknowledgement_brought (newest p.acknowledgements) p.a;
  acknowledgements = with_newest_brought p.acknowledgements;
}

-- behind a step of A with these moments
abbrev pub behind_a : Pair → List Moment → RunState → Pair
behind_a p ms a = record p { a = a; packets = packets_behind ms p.packets }

-- behind a step of B, where HEAD of its ring stands at this address, if it has one
abbrev pub behind_b : Option ℕ → Pair → List Moment → RunState → Pair
behind_b head p ms b = record p { b = b; acknowledgements = acknowledgements_behind ms p.acknowledgements; hand = hand_after head ms p.hand }

-- one thing is done, with its moments
pub data Acts (head : Option ℕ) : PairAction → Pair → List PairMoment → Pair → Type 0 where
  ActsA : (p : Pair) (ms : List Moment) (a : RunState) → StepsOn p.a ms a → Acts head StepOfA p (map (λ m. OfA m) ms) (behind_a p ms a)
  ActsB : (p : Pair) (ms : List Moment) (b : RunState) → StepsOn p.b ms b → Acts head StepOfB p (map (λ m. OfB m) ms) (behind_b head p ms b)
  Brings : (p : Pair) (k : ℕ) → Acts head (PacketToB k) p [] (packet_at k p)
  Acknowledges : (p : Pair) (k : ℕ) → Acts head (AcknowledgementToA k) p [] (acknowledgement_at k p)
  BringsNewest : (p : Pair) → Acts head NewestPacketToB p [] (newest_packet p)
  AcknowledgesNewest : (p : Pair) → Acts head NewestAcknowledgementToA p [] (newest_acknowledgement p)

-- the run of a pair: one thing after the other, until all are done or B has accepted as many words as it may
pub data PairRun (head : Option ℕ) : List PairAction → Pair → List PairMoment → Pair → Type 0 where
  Over : (p : Pair) → PairRun head [] p [] p
  Full : (act : PairAction) (acts : List PairAction) (p : Pair) → most_words ≤ length p.hand.accepted → PairRun head (act ∷ acts) p [] p
  Then : (act : PairAction) (acts : List PairAction) (p q r : Pair) (ms ns : List PairMoment) → length p.hand.accepted < most_words
      → Acts head act p ms q → PairRun head acts q ns r → PairRun head (act ∷ acts) p (ms ++ ns) r
