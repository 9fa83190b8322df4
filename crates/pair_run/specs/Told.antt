-- What is answered of the run of a pair.
use Rattle.std.specs.Prelude.{ℕ, List, Option, Result}
use Rattle.alp_io.specs.Sink.{Writes}
use Rattle.radio_link.specs.declared.entry.Entry.{Entry}
use Rattle.radio_link.specs.declared.air.Air.{Air}
use Rattle.fram_board.specs.Board.{BoardValue}
use Rattle.fram_board.specs.Run.{BoardCharge}
use Rattle.board_run.specs.History.{History}
use Rattle.board_run.specs.Events.{no_hand, head_of}
use Rattle.board_run.specs.Stepwise.{not_begun}
use Rattle.pair_run.specs.Actions.{all_actions}
use Rattle.pair_run.specs.Pair.{Pair, PairMoment, PairRun}
use Rattle.pair_run.specs.Lines.{known_at_first, pair_lines}

-- a pair before its first step: boards under charges, and this air
abbrev pub pair_at_first : BoardValue → List BoardCharge → BoardValue → List BoardCharge → Air → Pair
pair_at_first a a_charges b b_charges air = record {
  a = not_begun a a_charges;
  b = not_begun b b_charges;
  packets = air.packets;
  acknowledgements = air.acknowledgements;
  hand = no_hand;
}

-- the lines of the run of a pair under a schedule are written, whole or after a failure a proper prefix, told from what is known of both boards
pub record IsTold {T E : Type 0} (p : Pair) (a b : History) (schedule : List Entry) (old new : Option (List ℕ)) (result : Result T E) : Type 0 where
  pub moments : List PairMoment
  pub last : Pair
  pub run : PairRun (head_of b.map) (all_actions schedule) p moments last
  pub written : Writes old new result (pair_lines (known_at_first a b) moments)
