-- What holds of the ring in a run whose program takes its words in order.
use Rattle.std.specs.Prelude.{◌≡◌, ◌<◌, List, ◌++◌, map, Some}
use Rattle.event_places.specs.Places.{tail_place, answer_place}
use Rattle.fram_board.specs.Board.{BoardValue}
use Rattle.fram_board.specs.Run.{Moment, BoardCharge, RunOutcome}
use Rattle.machine_effects.specs.World.{World}
use Rattle.machine_effects.specs.Machine.{fram_of}
use Rattle.machine_effects.specs.Runs.{last_board}
use Rattle.crash_rules.specs.Model.{Marks}
use Rattle.crash_rules.specs.History.{first_history}
use Rattle.crash_rules.specs.Runs.{Program}
use Rattle.run_charges.specs.View.{outside_of}
use Rattle.run_charges.specs.Charges.{observed}
use Rattle.run_charges.specs.Laws.{IsRunOfWords, StandsIn}
use Rattle.event_rules.specs.Rings.{KeepsRing}
use Rattle.event_rules.specs.Taking.{Before, EachFollows}
use Rattle.event_orders.specs.Answers.{AnswersInOrder}
use Rattle.event_orders.specs.Waiting.{words_behind, TakesInOrder}

-- a run from a world, of a program that stands in FRAM and stores its answers to ANS; it takes the words of the ring in order, and the ring keeps its
-- rule at first
pub record TakesEvents (c : Program) (marks : Marks) (x : World) (cs : List BoardCharge) (b : BoardValue) (r : RunOutcome) : Type 0 where
  pub run : IsRunOfWords cs b r
  pub stands : StandsIn c marks b (first_history marks x)
  pub fram : x.fram ≡ (outside_of b).fram
  pub answer : marks.answer ≡ Some answer_place
  pub gate : marks.gate < tail_place
  pub follows : EachFollows marks.gate Before r.moments
  pub ring : KeepsRing marks.gate (fram_of b.fram)

-- behind each front of it the ring keeps its rule, and the answers of the attempts that are committed are the first of the words that waited and of
-- those accepted since
pub record IsInOrder (marks : Marks) (x : World) (b : BoardValue) (ms : List Moment) : Type 0 where
  pub ring : KeepsRing marks.gate (fram_of (last_board b ms).fram)
  pub answers : AnswersInOrder (map (λ d. d.answers) (observed marks ms (first_history marks x)).completed) (words_behind marks.gate b ms)

-- so of each such run; and each answer is the next word, or 0 where none waited
pub record KeepsOrder (marks : Marks) (x : World) (b : BoardValue) (r : RunOutcome) : Type 0 where
  pub fronts : (ms rest : List Moment) → r.moments ≡ ms ++ rest → IsInOrder marks x b ms
  pub takes : TakesInOrder marks.gate b r.moments

abbrev pub RingsKeepOrder : Program → Type 0
RingsKeepOrder c = (marks : Marks) (x : World) (cs : List BoardCharge) (b : BoardValue) (r : RunOutcome) → TakesEvents c marks x cs b r
    → KeepsOrder marks x b r
