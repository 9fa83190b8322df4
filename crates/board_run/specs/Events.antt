-- What becomes of the events of a run: each that arose is accepted, or lost, or waits.
-- A word that a read of EVENT took is in hand until the next of these: a step leaves another word in HEAD, a RETI, a read of EVENT, a power-up. It is
-- accepted where HEAD changes, and lost at the others. An event is lost too where it arose at a full port, or where the power-up found it in the port:
-- these the board counts. Any other event waits, in the port or in hand. Without a ring no step changes HEAD.
use Rattle.std.specs.Prelude.{◌≡◌, ℕ, ◌+◌, ◌==◌, Bool, true, false, if◌then◌else◌, List, [], ◌∷◌, ◌++◌, length, All, Option, Some, None, option_map}
use Rattle.image_text.specs.image_map.MapValue.{MapValue}
use Rattle.fram_board.specs.declared.events.Heard.{Heard}
use Rattle.fram_board.specs.declared.events.Heard.TheVariants as heard
use Rattle.fram_board.specs.Events.{words_in}
use Rattle.fram_board.specs.Board.{BoardValue, started}
use Rattle.fram_board.specs.Run.{Moment, Action, PowerUp, Execute, StepKind, Accepting, Returning, Plain, End, Charges, Stopped, RunOutcome, word_list}
use Rattle.fram_board.specs.Run.{BoardCharge, Run}
use Rattle.board_run.specs.History.{word_in}

-- what ends the time of a word in hand
pub data HandEnd : Type 0 where
  Reads : (took : Option ℕ) → HandEnd  -- a read of EVENT, with the word that it took
  ChangesHead : HandEnd
  Returns : HandEnd  -- a RETI
  PowersUp : HandEnd

-- the word in hand, the words that were accepted, in order, and how many were lost in hand
pub record Hand : Type 0 where
  pub word : Option ℕ
  pub accepted : List ℕ
  pub lost : ℕ

-- nothing was in hand yet
abbrev pub no_hand : Hand
no_hand = record { word = None; accepted = []; lost = 0 }

-- what is in hand is accepted
abbrev pub accepting : Hand → Hand
accepting h = record h { word = None; accepted = h.accepted ++ word_list h.word }

-- what is in hand is lost
abbrev pub losing : Hand → Hand
losing h = record h { word = None; lost = h.lost + length (word_list h.word) }

-- the hand behind one of the ends
abbrev pub handed : HandEnd → Hand → Hand
handed (Reads took) h = record (losing h) { word = took }
handed ChangesHead h = accepting h
handed Returns h = losing h
handed PowersUp h = losing h

-- the hand behind several, in order
abbrev pub handed_all : List HandEnd → Hand → Hand
handed_all [] h = h
handed_all (e ∷ es) h = handed_all es (handed e h)

-- the address of HEAD, where a map has a ring
abbrev pub head_of : Option MapValue → Option ℕ
head_of None = None
head_of (Some m) = option_map (λ r. r.head) m.ring

-- the reads of a step. A second one finds the port empty
abbrev pub reads_of : Heard → List HandEnd
reads_of heard.Nothing = []
reads_of (heard.Once took) = Reads took ∷ []
reads_of (heard.Again took) = Reads took ∷ Reads None ∷ []

-- whether HEAD, which was this word, is another now
abbrev pub change_ends : ℕ → ℕ → List HandEnd
change_ends was now = if now == was then [] else ChangesHead ∷ []

-- whether HEAD, which stands at this address, changed between two states of the FRAM
abbrev pub head_ends : Option ℕ → List ℕ → List ℕ → List HandEnd
head_ends None before after = []
head_ends (Some head) before after = change_ends (word_in before head) (word_in after head)

-- whether a step is a RETI
abbrev pub is_return : StepKind → Bool
is_return Accepting = false
is_return Returning = true
is_return Plain = false

abbrev pub return_ends : Bool → List HandEnd
return_ends true = Returns ∷ []
return_ends false = []

-- the ends that an action brings between two states of the FRAM; of a step in this order: its reads, then its change of HEAD, then its return
abbrev pub action_ends : Option ℕ → Action → List ℕ → List ℕ → List HandEnd
action_ends head PowerUp before after = PowersUp ∷ []
action_ends head (Execute kind done offered) before after = reads_of done.heard ++ (head_ends head before after ++ return_ends (is_return kind))

-- the hand behind a moment
unfoldable pub hand_behind : Option ℕ → Moment → Hand → Hand
hand_behind head m h = handed_all (action_ends head m.action m.before.fram m.after.fram) h

-- the hand behind moments
abbrev pub hand_after : Option ℕ → List Moment → Hand → Hand
hand_after head [] h = h
hand_after head (m ∷ ms) h = hand_after head ms (hand_behind head m h)

-- the hand at the end of a run. Of a step that stopped, what it read before counts, and nothing else
abbrev pub hand_at : End → BoardValue → Hand → Hand
hand_at Charges b h = h
hand_at (Stopped stop) b h = handed_all (reads_of b.line.heard) h

-- the hand behind a run of an image with this map
abbrev pub run_hand : Option MapValue → RunOutcome → Hand
run_hand m r = hand_at r.ending r.board (hand_after (head_of m) r.moments no_hand)

-- the words of the events that were accepted in moments, in order
abbrev pub accepted_events : Option MapValue → List Moment → List ℕ
accepted_events m ms = (hand_after (head_of m) ms no_hand).accepted

-- how many words were taken from the port
abbrev pub taken_by : HandEnd → ℕ
taken_by (Reads took) = length (word_list took)
taken_by ChangesHead = 0
taken_by Returns = 0
taken_by PowersUp = 0

abbrev pub words_taken : List HandEnd → ℕ
words_taken [] = 0
words_taken (e ∷ es) = taken_by e + words_taken es

-- how many words a hand accounts for: accepted, lost in hand, or in hand still
abbrev pub words_known : Hand → ℕ
words_known h = length h.accepted + h.lost + length (word_list h.word)

-- no word that was taken is forgotten, and none is counted twice
abbrev pub AllWordsAreKnown : Type 0
AllWordsAreKnown = (es : List HandEnd) (h : Hand) → words_known (handed_all es h) ≡ words_taken es + words_known h

-- what a report says of events: how many arose, how many were accepted, and how many were lost
pub record EventCounts : Type 0 where
  pub arisen : ℕ
  pub accepted : ℕ
  pub lost : ℕ

-- the counts where so many arose, so many were lost at the port, and this was in hand last
abbrev pub counts_of : ℕ → ℕ → Hand → EventCounts
counts_of arisen missed h = record { arisen = arisen; accepted = length h.accepted; lost = missed + h.lost }

-- the counts of a run of an image with this map
abbrev pub event_counts : Option MapValue → RunOutcome → EventCounts
event_counts m r = counts_of r.board.line.arisen r.board.line.missed (run_hand m r)

-- how many events wait behind such a run: in the port, and in hand
abbrev pub events_waiting : Option MapValue → RunOutcome → ℕ
events_waiting m r = words_in r.board.line.port + length (word_list (run_hand m r).word)

-- of a board that starts with these events, each that arose in a run was accepted, was lost, or waits, and none is counted twice
abbrev pub EventsAreAccounted : Type 0
EventsAreAccounted = (cs : List BoardCharge) (fram : List ℕ) (number : ℕ) (readings : List ℕ) (events : List (ℕ × ℕ)) (m : Option MapValue) (r : RunOutcome)
    → Run cs (started fram number readings events) r
    → let c = event_counts m r in
    c.arisen ≡ c.accepted + c.lost + events_waiting m r

-- what an action read of EVENT
abbrev pub heard_by : Action → Heard
heard_by PowerUp = heard.Nothing
heard_by (Execute kind done offered) = done.heard

-- a run that never reads EVENT, nor does the step that stopped it
pub record NeverReads (r : RunOutcome) : Type 0 where
  pub moments : All (λ m. heard_by m.action ≡ heard.Nothing) r.moments
  pub stop : r.board.line.heard ≡ heard.Nothing

-- what became of the events of such a run, by the board behind it: how many arose, and how many of them were lost at the port
abbrev pub none_accepted : BoardValue → EventCounts
none_accepted b = record { arisen = b.line.arisen; accepted = 0; lost = b.line.missed }

-- a run that never reads EVENT accepts nothing and loses nothing in hand, with or without a ring
abbrev pub SilentRunsAcceptNothing : Type 0
SilentRunsAcceptNothing = (m : Option MapValue) (r : RunOutcome) → NeverReads r → event_counts m r ≡ none_accepted r.board

-- where there is no ring nothing is accepted
abbrev pub RinglessRunsAcceptNothing : Type 0
RinglessRunsAcceptNothing = (m : Option MapValue) (r : RunOutcome) → head_of m ≡ None → (event_counts m r).accepted ≡ 0
