-- What becomes of events in a run of a program with the handler beside it.
use Rattle.std.specs.Prelude.{◌≡◌, ℕ, ◌<◌, ◌⊎◌, true, List, [], ◌∷◌, ◌++◌, Some, None}
use Rattle.event_places.specs.Places.{handler_place, head_place, slot_place}
use Rattle.msp_step.specs.Registers.{registers_of}
use Rattle.fram_board.specs.Board.{BoardValue}
use Rattle.fram_board.specs.Run.{Accepting, Returning, Plain, Action, PowerUp, Execute, Moment, BoardCharge, RunOutcome}
use Rattle.board_run.specs.Events.{Hand, no_hand, hand_behind, hand_after}
use Rattle.machine_effects.specs.Machine.{fram_of}
use Rattle.machine_effects.specs.Runs.{last_board}
use Rattle.event_handler.specs.Boundaries.{is_ring_full, head_of}
use Rattle.machine_effects.specs.World.{World}
use Rattle.crash_rules.specs.Model.{Marks, Model, ModelLaws}
use Rattle.crash_rules.specs.History.{History, first_history}
use Rattle.crash_rules.specs.Runs.{Program, ProgramLaws}
use Rattle.crash_rules.specs.Laws.{Origin, Begins}
use Rattle.run_charges.specs.View.{outside_of}
use Rattle.run_charges.specs.Laws.{IsRunOfWords, StandsIn}
pub use Rattle.event_rules.specs.Rings.{HoldsLast}
use Rattle.event_rules.specs.Taking.{Before, ScriptsTakeInOrder, EachFollows}

-- an action that may lose what is in hand on a board: a power-up, or a return where the ring is full
abbrev pub MayLose : Action → BoardValue → Type 0
MayLose PowerUp b = Unit {0}
MayLose (Execute Returning done offered) b = is_ring_full b ≡ true
MayLose (Execute Accepting done offered) b = ⊥
MayLose (Execute Plain done offered) b = ⊥

-- the hands before and behind a moment: nothing more is lost, unless it may lose; and nothing more is accepted, or one word, which stands in
-- the slot of HEAD as it was
pub record KeepsHand (m : Moment) (before behind : Hand) : Type 0 where
  pub lost : (behind.lost ≡ before.lost) ⊎ MayLose m.action m.before
  pub accepted : (behind.accepted ≡ before.accepted)
      ⊎ (behind.accepted ≡ before.accepted ++ fram_of m.after.fram (slot_place (head_of m.before)) ∷ [])

-- so at each of these moments, from a hand on
abbrev pub EachKeepsHand : List Moment → Hand → Type 0
EachKeepsHand [] h = Unit {0}
EachKeepsHand (m ∷ ms) h = KeepsHand m h (hand_behind (Some head_place) m h) × EachKeepsHand ms (hand_behind (Some head_place) m h)

-- and at each moment of a run
abbrev pub HandsAreKept : Program → Type 0
HandsAreKept c = (cs : List BoardCharge) (b : BoardValue) (r : RunOutcome) (ms rest : List Moment) → IsRunOfWords cs b r → r.moments ≡ ms ++ rest
    → (marks : Marks) (h : History) → StandsIn c marks b h → EachKeepsHand ms no_hand

-- where the handler doesn't run nothing is in hand, behind a power-up
abbrev pub WaitsInTheHandler : Program → Type 0
WaitsInTheHandler c = (cs : List BoardCharge) (b : BoardValue) (r : RunOutcome) (ms rest : List Moment) → IsRunOfWords cs b r → r.moments ≡ ms ++ rest
    → (marks : Marks) (h : History) → StandsIn c marks b h → registers_of (last_board b ms).cpu 0 < handler_place
    → (hand_after (Some head_place) ms no_hand).word ≡ None

-- behind each front of a run from a board of words
abbrev pub RingHoldsAccepted : Program → Type 0
RingHoldsAccepted c = (cs : List BoardCharge) (b : BoardValue) (r : RunOutcome) (ms rest : List Moment) → IsRunOfWords cs b r → r.moments ≡ ms ++ rest
    → (marks : Marks) (h : History) → StandsIn c marks b h
    → HoldsLast (head_of b) (fram_of (last_board b ms).fram) (hand_after (Some head_place) ms no_hand).accepted

-- where recoveries, attempts and commits take words of the ring in order, so do the moments of each front of a run that begins as the model's may
abbrev pub RunsTakeInOrder : {St : Type 0} → Model St → Program → Type 0
RunsTakeInOrder {St} m c = ModelLaws m → ProgramLaws m c → ScriptsTakeInOrder m → (readings : List ℕ) (origin : Origin St) (x : World)
    → (cs : List BoardCharge) (b : BoardValue) (r : RunOutcome) (ms rest : List Moment) → IsRunOfWords cs b r → r.moments ≡ ms ++ rest
    → StandsIn c m.marks b (first_history m.marks x) → Begins m readings origin x (outside_of b) → EachFollows m.marks.gate Before ms
