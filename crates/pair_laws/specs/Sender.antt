-- What A owes to the pair, by its moments alone and whatever acknowledgements are brought to it.
use Rattle.std.specs.Prelude.{◌≡◌, ℕ, ◌≤◌, ◌⊎◌, Bool, true, false, List, [], ◌∷◌, ◌++◌, length, slice_get, Contains, Option, Some, None}
use Rattle.image_text.specs.image_map.MapValue.{MapValue}
use Rattle.radio_link.specs.declared.air.Packet.{Packet}
use Rattle.fram_board.specs.Gate.{is_done}
use Rattle.fram_board.specs.Board.{BoardValue}
use Rattle.fram_board.specs.Run.{Moment, Action, PowerUp, Execute, accepted_by}
use Rattle.board_run.specs.History.{History, noted, word_in}
use Rattle.board_run.specs.Report.{after_all}
use Rattle.board_run.specs.Stepwise.{RunState, StepsOn}
use Rattle.pair_run.specs.Pair.{sent_by}
use Rattle.pair_laws.specs.Fronts.{IsFront}
use Rattle.pair_laws.specs.Numbers.{word_number, is_above}
use Rattle.pair_laws.specs.Sides.{SenderRun}

-- the words of A's source behind some moments
pub record Sending : Type 0 where
  pub closed : List ℕ  -- those that it emitted up to the last done
  pub emitted : List ℕ  -- these, and between a decide and its done those of the decided task
  pub taken : List ℕ  -- those of which A knows that B accepted them

abbrev pub nothing_emitted : Sending
nothing_emitted = record { closed = []; emitted = []; taken = [] }

-- what is done is known to be accepted, and what is known to be accepted was emitted. So between a done and the next decide the three are one
pub record AreInOrder (x : Sending) : Type 0 where
  pub closed : IsFront x.closed x.taken
  pub taken : IsFront x.taken x.emitted

-- a packet has a word of A and its number, and the words in front of it are known to be accepted
pub record IsPacketOf (x : Sending) (p : Packet) : Type 0 where
  pub place : ℕ
  pub number : p.number ≡ word_number place
  pub word : slice_get x.emitted place ≡ Some p.word
  pub within : place ≤ length x.taken

-- one word more is known to be accepted: ACKS is above its number. ACKS is an acknowledgement that was brought, or 0
pub record Confirms (heard before behind : List ℕ) : Type 0 where
  pub acknowledgement : ℕ
  pub comes : (acknowledgement ≡ 0) ⊎ Contains heard acknowledgement
  pub above : is_above acknowledgement (word_number (length before)) ≡ true
  pub word : ℕ
  pub next : behind ≡ before ++ word ∷ []

-- whether a moment completes a transition, by what is known in front of it
abbrev pub completes_by : Option MapValue → ℕ → Action → BoardValue → Bool
completes_by None gate action b = false
completes_by (Some m) gate PowerUp b = false
completes_by (Some m) gate (Execute kind done offered) b = is_done gate (word_in b.fram m.words.gate)

abbrev pub completes : History → Moment → Bool
completes h m = completes_by h.map h.gate m.action m.after

-- at a done all that was emitted is known to be accepted
abbrev pub IsClosedBy : Bool → Sending → Sending → Type 0
IsClosedBy true x y = (x.taken ≡ x.emitted) × (y.closed ≡ x.emitted)
IsClosedBy false x y = y.closed ≡ x.closed

-- what a moment of A makes of its words, where these acknowledgements were brought before it; whether it completes a transition
pub record SenderMoment (heard : List ℕ) (done : Bool) (m : Moment) (x y : Sending) : Type 0 where
  pub order : AreInOrder y
  pub emitted : IsFront x.emitted y.emitted  -- what is decided is never taken back
  pub taken : (y.taken ≡ x.taken) ⊎ Confirms heard x.taken y.taken
  pub closed : IsClosedBy done x y
  pub sent : (p : ℕ × ℕ) → sent_by m.action ≡ Some p → IsPacketOf x (record { number = p.0; word = p.1 })
  pub own : accepted_by m.action ≡ []  -- its own receiver hears nothing

-- so at each of these moments, behind others, where the words are told by the moments so far
abbrev pub EachSends : (List Moment → Sending) → List ℕ → History → List Moment → List Moment → Type 0
EachSends sending heard h front [] = Unit {0}
EachSends sending heard h front (m ∷ ms) =
    SenderMoment heard (completes h m) m (sending front) (sending (front ++ m ∷ [])) × EachSends sending heard (noted h m) (front ++ m ∷ []) ms

-- what A owes from its first state on, of which this is known: each step is such, whatever acknowledgements were brought
pub record SenderKeeps (first : RunState) (known : History) (sending : List Moment → Sending) : Type 0 where
  pub begins : sending [] ≡ nothing_emitted
  pub steps : (heard : List ℕ) (ms ns : List Moment) (s t : RunState) → SenderRun first heard ms s → StepsOn s ns t
      → EachSends sending heard (after_all known ms) ms ns
