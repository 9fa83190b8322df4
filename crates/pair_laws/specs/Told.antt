-- The words that A's lines tell: those that B accepted since A's last done.
use Rattle.std.specs.Prelude.{◌≡◌, ℕ, Bool, true, false, List, [], ◌∷◌, ◌++◌, None}
use Rattle.fram_board.specs.Run.{Moment}
use Rattle.board_run.specs.History.{History, start_with, with_words}
use Rattle.pair_run.specs.Pair.{PairMoment, OfA, OfB}
use Rattle.pair_run.specs.Lines.{PairKnown, known_behind}
use Rattle.pair_laws.specs.Sender.{Sending, completes}

-- reports that are told from these two histories have the same words at their next done: the first 256 of them, and how many came behind these
pub record TellAlike (h k : History) : Type 0 where
  pub accepted : h.accepted ≡ k.accepted
  pub more : h.more ≡ k.more

-- a report that is told from this history has these words then: it is alike with one that is new but for them
abbrev pub TellsWords : History → List ℕ → Type 0
TellsWords h words = TellAlike h (with_words (start_with [] None) words)

-- a done of A, in front of which its words were x and behind which they are y: its lines tell the words that the completed transition emitted, all of
-- which B accepted, and none behind them
pub record IsToldDone (x y : Sending) (k : PairKnown) : Type 0 where
  pub words : List ℕ
  pub tells : TellsWords k.a words
  pub emitted : x.closed ++ words ≡ y.closed
  pub accepted : k.hand.accepted ≡ y.closed

abbrev pub IsToldIf : Bool → Sending → Sending → PairKnown → Type 0
IsToldIf true x y k = IsToldDone x y k
IsToldIf false x y k = Unit {0}

-- so at each done of A in these moments of a pair, behind these of A
abbrev pub EachDoneIsTold : (List Moment → Sending) → PairKnown → List Moment → List PairMoment → Type 0
EachDoneIsTold sending k front [] = Unit {0}
EachDoneIsTold sending k front (OfA m ∷ ms) =
    IsToldIf (completes k.a m) (sending front) (sending (front ++ m ∷ [])) k × EachDoneIsTold sending (known_behind k (OfA m)) (front ++ m ∷ []) ms
EachDoneIsTold sending k front (OfB m ∷ ms) = EachDoneIsTold sending (known_behind k (OfB m)) front ms
