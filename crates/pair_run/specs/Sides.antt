-- Both sides of a pair as they stand in memory.
use Rattle.std.specs.Prelude.{◌≡◌, ℕ, nat_lt, List, [], ◌∷◌, true, false, Option, Some, None, Result, Ok, Err}
use Rattle.std.specs.Io.KnownBytes.{Appends}
use Rattle.alp_io.specs.Sink.{AppendsProperPrefix}
use Rattle.alp_io.specs.declared.sink.Failed.{Failed}
use Rattle.prefixed_lines.specs.Prefixes.{prefixed}
use Rattle.fram_board.specs.declared.board.Stepped.{Stepped}
use Rattle.fram_board.specs.Run.{Moment}
use Rattle.board_run.specs.declared.stepwise.Advance.{Advance}
use Rattle.board_run.specs.Events.{head_of}
use Rattle.board_run.specs.Tally.{tally_of, tally_after}
use Rattle.board_run.specs.Report.{lines_from, after_all}
use Rattle.board_run.specs.Parts.{Known, known_head}
use Rattle.board_run.specs.Stepwise.{RunState, StepsOn, state_of, known_of, ring_of, events_in, IsGoing, HasRoom, last_done, powers_up}
use Rattle.board_run.specs.declared.stepwise.StepwiseRun.{StepwiseRun}
use Rattle.pair_run.specs.declared.listener.Progress.{Progress}
use Rattle.pair_run.specs.declared.sides.Sides.{Sides}
use Rattle.pair_run.specs.Actions.{PairAction}
use Rattle.pair_run.specs.Pair.{Pair, PairMoment, Acts, PairRun}
use Rattle.pair_run.specs.Lines.{PairKnown, pair_lines_from, known_after}
use Rattle.pair_run.specs.Listening.{Listens, HasCountsFor}

-- a step of one side, with its lines behind the side's letter
pub record Lettered (letter : ℕ) (s : RunState) (h : Known) (old new : Option (List ℕ)) (answer : Advance) (t : RunState) (now : Known) : Type 0 where
  pub moments : List Moment
  pub steps : StepsOn s moments t
  pub written : Appends old new (prefixed letter (lines_from h.history moments))
  pub history : now.history ≡ after_all h.history moments
  pub tally : now.tally ≡ tally_after (known_head h) moments h.tally
  pub done : answer.done ≡ last_done moments
  pub powers : answer.powers_up ≡ powers_up moments

-- the same where its lines weren't written whole
pub record LetteredPartly (letter : ℕ) (s : RunState) (h : Known) (old new : Option (List ℕ)) : Type 0 where
  pub moments : List Moment
  pub behind : RunState
  pub steps : StepsOn s moments behind
  pub written : AppendsProperPrefix old new (prefixed letter (lines_from h.history moments))

-- what is answered of a step of one side
abbrev pub IsLettered : ℕ → RunState → Known → Option (List ℕ) → Option (List ℕ) → Result Advance Failed → RunState → Known → Type 0
IsLettered letter s h old new (Ok answer) t now = Lettered letter s h old new answer t now
IsLettered letter s h old new (Err e) t now = LetteredPartly letter s h old new

-- what a step sent, if it was made
abbrev pub sent_in_step : Option Stepped → Option (ℕ × ℕ)
sent_in_step None = None
sent_in_step (Some done) = done.sent

abbrev pub sent_in : Advance → Option (ℕ × ℕ)
sent_in answer = sent_in_step answer.done

-- both runs are told as they go
pub record IsGoingOn (s : Sides) : Type 0 where
  pub a : IsGoing s.a
  pub b : IsGoing s.b

-- the counts have room for so many steps of A and so many of B
pub record HasRoomForBoth (s : Sides) (n m : ℕ) : Type 0 where
  pub a : HasRoom s.a n
  pub b : HasRoom s.b m
  pub listener : HasCountsFor s.listener m

-- for so many of either
abbrev pub HasRoomFor : Sides → ℕ → Type 0
HasRoomFor s n = HasRoomForBoth s n n

-- what a step of B is told to its listener as, behind it: in front of it B had accepted so many words, and GATE was this
abbrev pub progress_in : StepwiseRun → Stepped → ℕ → ℕ → Progress
progress_in run done accepted gate = record {
  done = done;
  accepts = nat_lt accepted (known_of run).tally.accepted;
  gate_before = gate;
  gate = (known_of run).history.gate;
  events = events_in (ring_of (known_of run).history.map) (state_of run).board.fram;
}

-- how many words B has accepted
abbrev pub accepted_words : Sides → ℕ
accepted_words s = (known_of s.b).tally.accepted

-- what is told at the end
pub record Tells (s : Sides) (k : PairKnown) : Type 0 where
  pub tally : (known_of s.b).tally ≡ tally_of k.hand
  pub consumed : s.listener.consumed ≡ k.consuming.consumed

-- the sides are this pair, of which this is known; the listener is told as long as B's run goes on
pub record Shows (s : Sides) (p : Pair) (k : PairKnown) : Type 0 where
  pub a : state_of s.a ≡ p.a
  pub b : state_of s.b ≡ p.b
  pub packets : s.air.now.packets ≡ p.packets
  pub acknowledgements : s.air.now.acknowledgements ≡ p.acknowledgements
  pub hand : k.hand ≡ p.hand
  pub a_known : (known_of s.a).history ≡ k.a
  pub b_known : (known_of s.b).history ≡ k.b
  pub tells : Tells s k
  pub listens : p.b.has_ended ≡ false → Listens s.listener k p.b.board.fram

-- or both have ended, and what is brought no more matters
pub data Reaches (s : Sides) (p : Pair) (k : PairKnown) : Type 0 where
  GoesOn : Shows s p k → Reaches s p k
  HaveEnded : (state_of s.a).has_ended ≡ true → (state_of s.b).has_ended ≡ true → p.a.has_ended ≡ true → p.b.has_ended ≡ true → Tells s k → Reaches s p k

-- one thing is done, with its lines
pub record Does (act : PairAction) (p : Pair) (k : PairKnown) (old new : Option (List ℕ)) (s : Sides) : Type 0 where
  pub moments : List PairMoment
  pub behind : Pair
  pub acts : Acts (head_of k.b.map) act p moments behind
  pub shows : Shows s behind (known_after k moments)
  pub written : Appends old new (pair_lines_from k moments)

-- the same where its lines weren't written whole
pub record DoesPartly (act : PairAction) (p : Pair) (k : PairKnown) (old new : Option (List ℕ)) : Type 0 where
  pub moments : List PairMoment
  pub behind : Pair
  pub acts : Acts (head_of k.b.map) act p moments behind
  pub written : AppendsProperPrefix old new (pair_lines_from k moments)

abbrev pub DoesSo : {T : Type 0} → PairAction → Pair → PairKnown → Option (List ℕ) → Option (List ℕ) → Result T Failed → Sides → Type 0
DoesSo act p k old new (Ok x) s = Does act p k old new s
DoesSo act p k old new (Err e) s = DoesPartly act p k old new

-- what is answered of one thing that is done, whatever pair the sides are
abbrev pub IsDone : {T : Type 0} → PairAction → Sides → Option (List ℕ) → Option (List ℕ) → Result T Failed → Sides → Type 0
IsDone act before old new result s = (p : Pair) (k : PairKnown) → Shows before p k → DoesSo act p k old new result s

-- something is brought, which has no lines
abbrev pub IsBrought : PairAction → Sides → Sides → Type 0
IsBrought act before s = (p : Pair) (k : PairKnown) → Shows before p k → (behind : Pair) × Acts (head_of k.b.map) act p [] behind × Shows s behind k

-- things are done one after the other, with their lines
pub record DoesAll (acts : List PairAction) (p : Pair) (k : PairKnown) (old new : Option (List ℕ)) (s : Sides) : Type 0 where
  pub moments : List PairMoment
  pub behind : Pair
  pub run : PairRun (head_of k.b.map) acts p moments behind
  pub reaches : Reaches s behind (known_after k moments)
  pub written : Appends old new (pair_lines_from k moments)

pub record DoesAllPartly (acts : List PairAction) (p : Pair) (k : PairKnown) (old new : Option (List ℕ)) : Type 0 where
  pub moments : List PairMoment
  pub behind : Pair
  pub run : PairRun (head_of k.b.map) acts p moments behind
  pub written : AppendsProperPrefix old new (pair_lines_from k moments)

abbrev pub DoesAllSo : {T : Type 0} → List PairAction → Pair → PairKnown → Option (List ℕ) → Option (List ℕ) → Result T Failed → Sides → Type 0
DoesAllSo acts p k old new (Ok x) s = DoesAll acts p k old new s
DoesAllSo acts p k old new (Err e) s = DoesAllPartly acts p k old new

abbrev pub AreDone : {T : Type 0} → List PairAction → Sides → Option (List ℕ) → Option (List ℕ) → Result T Failed → Sides → Type 0
AreDone acts before old new result s = (p : Pair) (k : PairKnown) → Shows before p k → DoesAllSo acts p k old new result s

-- something is brought, unless B has accepted all words that it may
abbrev pub IsBroughtIn : PairAction → Sides → Sides → Type 0
IsBroughtIn act before s = (p : Pair) (k : PairKnown) (old : Option (List ℕ)) → Shows before p k → DoesAll (act ∷ []) p k old old s

-- the most steps of a side that an entry asks for
abbrev pub most_steps : ℕ
most_steps = 4294967295
