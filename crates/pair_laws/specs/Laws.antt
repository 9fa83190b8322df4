-- The laws of a pair of boards each of which keeps what it owes.
use Rattle.std.specs.Prelude.{◌≡◌, ℕ, ◌<◌, List, [], ◌++◌, length, Option}
use Rattle.fram_board.specs.Run.{Moment}
use Rattle.board_run.specs.History.{History}
use Rattle.board_run.specs.Events.{head_of}
use Rattle.pair_run.specs.Actions.{PairAction}
use Rattle.pair_run.specs.Pair.{Pair, PairMoment, Acts, PairRun, most_words}
use Rattle.pair_run.specs.Lines.{known_at_first, known_after}
use Rattle.pair_laws.specs.Fronts.{IsFront}
use Rattle.pair_laws.specs.Sides.{AreRuns, moments_of_a, moments_of_b}
use Rattle.pair_laws.specs.Sender.{Sending, SenderKeeps}
use Rattle.pair_laws.specs.Listener.{ListenerKeeps}
use Rattle.pair_laws.specs.Joined.{IsNew, IsMidway}
use Rattle.pair_laws.specs.Told.{EachDoneIsTold}

-- the moments of each side of a pair follow one another under its charges, but for what was brought between two of them
abbrev pub SidesAreRuns : Type 0
SidesAreRuns = (acts : List PairAction) (p q : Pair) (ms : List PairMoment) (head : Option ℕ) → PairRun head acts p ms q
    → AreRuns p (moments_of_a ms) (moments_of_b ms) q

-- two boards, of which this is known at first, and which keep what they owe
pub record BothKeep (first : Pair) (a b : History) (sending : List Moment → Sending) (consumed : List Moment → List ℕ) : Type 0 where
  pub sender : SenderKeeps first.a a sending
  pub listener : ListenerKeeps first.b b consumed

-- each thing that is done keeps them joined, as long as B accepted fewer than 32,768 words
abbrev pub ActionsKeepJoined : Type 0
ActionsKeepJoined = (a b : History) (first p q : Pair) (sending : List Moment → Sending) (consumed : List Moment → List ℕ) (act : PairAction)
    (of_a of_b : List Moment) (ms : List PairMoment) → BothKeep first a b sending consumed → IsMidway (head_of b.map) first sending of_a of_b p
    → length p.hand.accepted < most_words → Acts (head_of b.map) act p ms q
    → IsMidway (head_of b.map) first sending (of_a ++ moments_of_a ms) (of_b ++ moments_of_b ms) q

-- what holds of the words of a pair behind these moments of a run from its first step on
pub record KeepsWords (first : Pair) (a b : History) (sending : List Moment → Sending) (consumed : List Moment → List ℕ) (ms : List PairMoment)
    (last : Pair) : Type 0 where
  pub midway : IsMidway (head_of b.map) first sending (moments_of_a ms) (moments_of_b ms) last
  -- the words accepted at B are the first of those that A's source emitted, the decided task included
  pub accepted : IsFront last.hand.accepted (sending (moments_of_a ms)).emitted
  -- the words consumed at B are the first of the accepted ones, and as many as the last line says
  pub consumed_words : IsFront (consumed (moments_of_b ms)) last.hand.accepted
  pub consumed_count : length (consumed (moments_of_b ms)) ≡ (known_after (known_at_first a b) ms).consuming.consumed
  -- at each done A's lines have the words that B accepted since A's last done, which are those that the completed transition emitted
  pub told : EachDoneIsTold sending (known_at_first a b) [] ms

-- so in each run of a pair from its first step on, whatever its schedule
abbrev pub PairsKeepWords : Type 0
PairsKeepWords = (first last : Pair) (a b : History) (sending : List Moment → Sending) (consumed : List Moment → List ℕ) (acts : List PairAction)
    (ms : List PairMoment) → IsNew first a → BothKeep first a b sending consumed → PairRun (head_of b.map) acts first ms last
    → KeepsWords first a b sending consumed ms last
