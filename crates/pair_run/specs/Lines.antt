-- The lines of the run of a pair.
use Rattle.std.specs.Prelude.{ℕ, List, [], ◌∷◌, ◌++◌, length, drop}
use Rattle.alp_io.specs.Report.{pair_line}
use Rattle.prefixed_lines.specs.Prefixes.{prefixed}
use Rattle.fram_board.specs.Run.{Moment}
use Rattle.board_run.specs.History.{History, bound_lines, moment_lines, noted, with_words}
use Rattle.board_run.specs.Events.{Hand, no_hand, head_of, hand_behind}
use Rattle.pair_run.specs.Pair.{PairMoment, OfA, OfB}
use Rattle.pair_run.specs.Consuming.{Consuming, nothing_consumed, consuming_behind}

-- the letters of both sides
abbrev pub letter_a : ℕ
letter_a = 97

abbrev pub letter_b : ℕ
letter_b = 98

-- what is known of a pair so far: of A, whose accepted words are those that B accepted; of B; what became of the packets at B; and what its attempts consume
pub record PairKnown : Type 0 where
  pub a : History
  pub b : History
  pub hand : Hand
  pub consuming : Consuming

-- at first
abbrev pub known_at_first : History → History → PairKnown
known_at_first a b = record { a = a; b = b; hand = no_hand; consuming = nothing_consumed }

-- the words that were accepted from one hand to another
abbrev pub accepted_between : Hand → Hand → List ℕ
accepted_between before behind = drop (length before.accepted) behind.accepted

-- behind a moment of B
abbrev pub known_behind_b : PairKnown → Moment → PairKnown
known_behind_b k m =
    let hand = hand_behind (head_of k.b.map) m k.hand in
    record { a = with_words k.a (accepted_between k.hand hand); b = noted k.b m; hand = hand; consuming = consuming_behind k.b m k.consuming }

-- behind a moment
abbrev pub known_behind : PairKnown → PairMoment → PairKnown
known_behind k (OfA m) = record k { a = noted k.a m }
known_behind k (OfB m) = known_behind_b k m

-- the lines of a moment
abbrev pub lines_of : PairKnown → PairMoment → List ℕ
lines_of k (OfA m) = prefixed letter_a (moment_lines k.a m)
lines_of k (OfB m) = prefixed letter_b (moment_lines k.b m)

-- the lines of moments
abbrev pub pair_lines_from : PairKnown → List PairMoment → List ℕ
pair_lines_from k [] = []
pair_lines_from k (m ∷ ms) = lines_of k m ++ pair_lines_from (known_behind k m) ms

-- what is known behind them
abbrev pub known_after : PairKnown → List PairMoment → PairKnown
known_after k [] = k
known_after k (m ∷ ms) = known_after (known_behind k m) ms

-- the bounds of both sides
abbrev pub bounds : PairKnown → List ℕ
bounds k = prefixed letter_a (bound_lines k.a.map) ++ prefixed letter_b (bound_lines k.b.map)

-- the last line
abbrev pub last_line : PairKnown → List ℕ
last_line k = pair_line (length k.hand.accepted) k.consuming.consumed

-- the report of a pair with these moments: the bounds, the lines of the moments, and how many words B accepted and consumed
abbrev pub pair_lines : PairKnown → List PairMoment → List ℕ
pair_lines k ms = bounds k ++ (pair_lines_from k ms ++ last_line (known_after k ms))
