-- What becomes of events, counted while a run is made.
use Rattle.std.specs.Prelude.{◌≡◌, ℕ, ◌+◌, Bool, true, false, List, [], ◌∷◌, ◌++◌, length, Option, Some, None, IfSome, is_some}
use Rattle.image_text.specs.image_map.MapValue.{MapValue, IsFramWord}
use Rattle.fram_board.specs.declared.events.Heard.{Heard}
use Rattle.fram_board.specs.Board.{BoardValue}
use Rattle.fram_board.specs.Run.{Moment, End, Charges, Stopped}
use Rattle.board_run.specs.declared.tally.Tally.{Tally}
use Rattle.board_run.specs.History.{word_in}
use Rattle.board_run.specs.Events.{HandEnd, Reads, ChangesHead, Returns, PowersUp, Hand, head_of, reads_of, change_ends, return_ends, action_ends, EventCounts}

-- whether a word is in hand, how many were accepted, and how many were lost in hand
pub record TallyValue : Type 0 where
  pub in_hand : Bool
  pub accepted : ℕ
  pub lost : ℕ

-- nothing was taken yet
abbrev pub no_tally : TallyValue
no_tally = record { in_hand = false; accepted = 0; lost = 0 }

-- how many words that are
abbrev pub one_if : Bool → ℕ
one_if true = 1
one_if false = 0

-- behind one of the ends
abbrev pub tallied : HandEnd → TallyValue → TallyValue
tallied (Reads took) t = record { in_hand = is_some took; accepted = t.accepted; lost = t.lost + one_if t.in_hand }
tallied ChangesHead t = record { in_hand = false; accepted = t.accepted + one_if t.in_hand; lost = t.lost }
tallied Returns t = record { in_hand = false; accepted = t.accepted; lost = t.lost + one_if t.in_hand }
tallied PowersUp t = record { in_hand = false; accepted = t.accepted; lost = t.lost + one_if t.in_hand }

-- behind several, in order
abbrev pub tallied_all : List HandEnd → TallyValue → TallyValue
tallied_all [] t = t
tallied_all (e ∷ es) t = tallied_all es (tallied e t)

-- behind a moment
unfoldable pub tally_behind : Option ℕ → Moment → TallyValue → TallyValue
tally_behind head m t = tallied_all (action_ends head m.action m.before.fram m.after.fram) t

-- behind moments
abbrev pub tally_after : Option ℕ → List Moment → TallyValue → TallyValue
tally_after head [] t = t
tally_after head (m ∷ ms) t = tally_after head ms (tally_behind head m t)

-- at the end of a run
abbrev pub tally_at : End → BoardValue → TallyValue → TallyValue
tally_at Charges b t = t
tally_at (Stopped stop) b t = tallied_all (reads_of b.line.heard) t

-- the counts of a run that ended so
abbrev pub counts_at : End → BoardValue → TallyValue → EventCounts
counts_at end b t = record { arisen = b.line.arisen; accepted = (tally_at end b t).accepted; lost = b.line.missed + (tally_at end b t).lost }

-- how many words were taken
abbrev pub words_of : TallyValue → ℕ
words_of t = t.accepted + t.lost + one_if t.in_hand

-- the tally of a hand
abbrev pub tally_of : Hand → TallyValue
tally_of h = record { in_hand = is_some h.word; accepted = length h.accepted; lost = h.lost }

-- what is kept of events, as a tally
abbrev pub counted : Tally → TallyValue
counted t = record { in_hand = t.in_hand; accepted = t.accepted; lost = t.lost }

-- a word is HEAD of a FRAM, if HEAD has an address
abbrev pub IsHead : Option ℕ → ℕ → List ℕ → Type 0
IsHead None head fram = Unit {0}
IsHead (Some place) head fram = head ≡ word_in fram place

-- HEAD of a map is looked at, and was this word in a FRAM
pub record WatchesHead (m : Option MapValue) (address : Option ℕ) (head : ℕ) (fram : List ℕ) : Type 0 where
  pub place : address ≡ head_of m
  pub fits : IfSome address IsFramWord
  pub same : IsHead address head fram

-- the end that a change of HEAD is
abbrev pub change_if : Bool → List HandEnd
change_if true = ChangesHead ∷ []
change_if false = []

-- whether HEAD changed, by what it was when it was looked at last
abbrev pub seen_ends : Option ℕ → ℕ → List ℕ → List HandEnd
seen_ends None was fram = []
seen_ends (Some place) was fram = change_ends was (word_in fram place)

-- the ends that a step brings, by what it read, what HEAD was before, and whether it is a RETI
abbrev pub step_ends : Heard → Option ℕ → ℕ → List ℕ → Bool → List HandEnd
step_ends heard place was fram returns = reads_of heard ++ (seen_ends place was fram ++ return_ends returns)
