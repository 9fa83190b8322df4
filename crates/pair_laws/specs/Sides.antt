-- One side of a pair as a run of its own: its steps follow one another under its charges, but for what is brought to its board between two of them.
use Rattle.std.specs.Prelude.{ℕ, List, [], ◌∷◌, ◌++◌}
use Rattle.radio_link.specs.declared.air.Packet.{Packet}
use Rattle.fram_board.specs.Board.{BoardValue, packet_brought, acknowledgement_brought}
use Rattle.fram_board.specs.Run.{Moment}
use Rattle.board_run.specs.Stepwise.{RunState, StepsOn, with_board}
use Rattle.pair_run.specs.Pair.{Pair, PairMoment, OfA, OfB}

-- what is brought to B, and to A
abbrev pub packet_to : Packet → BoardValue → BoardValue
packet_to p b = packet_brought p.number p.word b

abbrev pub acknowledgement_to : ℕ → BoardValue → BoardValue
acknowledgement_to number b = acknowledgement_brought number b

-- the run of one side from its first state on: all that was brought to its board, in order, its moments, and where it is then
pub data SideRun {T : Type 0} (bring : T → BoardValue → BoardValue) (first : RunState) : List T → List Moment → RunState → Type 0 where
  Begins : SideRun bring first [] [] first
  Goes : (brought : List T) (ms ns : List Moment) (s t : RunState) → SideRun bring first brought ms s → StepsOn s ns t
      → SideRun bring first brought (ms ++ ns) t
  Gets : (brought : List T) (ms : List Moment) (s : RunState) (x : T) → SideRun bring first brought ms s
      → SideRun bring first (brought ++ x ∷ []) ms (with_board s (bring x s.board))

-- the run of A, to which acknowledgements are brought, and that of B, to which packets are
abbrev pub SenderRun : RunState → List ℕ → List Moment → RunState → Type 0
SenderRun first heard ms s = SideRun acknowledgement_to first heard ms s

abbrev pub ListenerRun : RunState → List Packet → List Moment → RunState → Type 0
ListenerRun first brought ms s = SideRun packet_to first brought ms s

-- the moments of A among those of a pair, and those of B
abbrev pub moments_of_a : List PairMoment → List Moment
moments_of_a [] = []
moments_of_a (OfA m ∷ ms) = m ∷ moments_of_a ms
moments_of_a (OfB m ∷ ms) = moments_of_a ms

abbrev pub moments_of_b : List PairMoment → List Moment
moments_of_b [] = []
moments_of_b (OfA m ∷ ms) = moments_of_b ms
moments_of_b (OfB m ∷ ms) = m ∷ moments_of_b ms

-- from one pair to another both sides made runs, with these moments of A and those of B
pub record AreRuns (p : Pair) (of_a of_b : List Moment) (q : Pair) : Type 0 where
  pub heard : List ℕ
  pub brought : List Packet
  pub a : SenderRun p.a heard of_a q.a
  pub b : ListenerRun p.b brought of_b q.b
