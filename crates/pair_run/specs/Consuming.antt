-- Which words of its ring the committed attempts of a board consume.
-- An answer is a word that an instruction stores at ANS in an attempt, which goes from a power-up or a done to a decide. It is consumed where EC is raised
-- behind that store, before the next store at ANS and before the decide; and the attempt is committed at the done.
use Rattle.std.specs.Prelude.{ℕ, ◌+◌, ◌-◌, ◌%◌, ◌==◌, ◌&&◌, nat_lt, Bool, true, false, if◌then◌else◌, Option, Some, None}
use Rattle.image_text.specs.image_map.declared.parts.RingPlaces.{RingPlaces}
use Rattle.fram_board.specs.Gate.{is_decide, is_done}
use Rattle.fram_board.specs.Run.{Moment, Action, PowerUp, Execute}
use Rattle.board_run.specs.History.{History, word_in, noted}
use Rattle.board_run.specs.Stepwise.{ring_of}

-- whether an answer waits for EC; how many answers the attempt has consumed so far; how many those of the last decide were; and how many those of all
-- committed attempts were
pub record Consuming : Type 0 where
  pub is_answered : Bool
  pub taken : ℕ
  pub decided : ℕ
  pub consumed : ℕ

abbrev pub nothing_consumed : Consuming
nothing_consumed = record { is_answered = false; taken = 0; decided = 0; consumed = 0 }

-- whether a write at this address is one to the word at that address
abbrev pub is_written : Option ℕ → ℕ → Bool
is_written None place = false
is_written (Some a) place = (a - a % 2) == place

-- behind a power-up
abbrev pub consuming_anew : Consuming → Consuming
consuming_anew c = record c { is_answered = false; taken = 0 }

-- whether EC was raised behind an answer
abbrev pub is_consumed : RingPlaces → ℕ → ℕ → Consuming → Bool
is_consumed ring before after c = c.is_answered && nat_lt before after

-- behind a step that wrote at this address, as GATE and EC went from one word to another
abbrev pub answers_behind : RingPlaces → Option ℕ → ℕ → ℕ → Consuming → Consuming
answers_behind ring wrote before after c = record c {
  is_answered = if is_written wrote ring.answer then true else if is_consumed ring before after c then false else c.is_answered;
  taken = if is_consumed ring before after c then c.taken + 1 else c.taken;
}

abbrev pub gate_behind : ℕ → ℕ → Consuming → Consuming → Consuming
gate_behind before now c behind =
    if is_done before now then record { is_answered = false; taken = 0; decided = 0; consumed = c.consumed + c.decided }
    else if is_decide before now then record behind { decided = c.taken }
    else behind

-- with a ring, behind an action that led from one FRAM to another, where GATE was this word and is that
abbrev pub consuming_by : RingPlaces → Action → ℕ → ℕ → ℕ → ℕ → Consuming → Consuming
consuming_by ring PowerUp gate now before after c = consuming_anew c
consuming_by ring (Execute kind done offered) gate now before after c = gate_behind gate now c (answers_behind ring done.wrote before after c)

abbrev pub consuming_in : Option RingPlaces → ℕ → Moment → ℕ → Consuming → Consuming
consuming_in None gate m now c = c
consuming_in (Some ring) gate m now c =
    consuming_by ring m.action gate now (word_in m.before.fram ring.event_count) (word_in m.after.fram ring.event_count) c

-- behind a moment, told from what is known in front of it
unfoldable pub consuming_behind : History → Moment → Consuming → Consuming
consuming_behind h m c = consuming_in (ring_of h.map) h.gate m (noted h m).gate c
