-- What is kept of a listener while a pair runs.
use Rattle.std.specs.Prelude.{◌≡◌, ℕ, ◌+◌, ◌^◌, ◌<◌, ◌&&◌, nat_lt, Bool, true, false, if◌then◌else◌, List, IfSome, Option, Some, None}
use Rattle.fram_board.specs.declared.events.Heard.{Heard}
use Rattle.fram_board.specs.declared.events.Heard.TheVariants as heard
use Rattle.fram_board.specs.Gate.{is_decide, is_done}
use Rattle.board_run.specs.Stepwise.{ring_of, answer_of_ring, events_in}
use Rattle.pair_run.specs.declared.listener.Listener.{Listener}
use Rattle.pair_run.specs.declared.listener.Progress.{Progress}
use Rattle.pair_run.specs.Consuming.{Consuming, is_written}
use Rattle.pair_run.specs.Lines.{PairKnown}

-- before its first step
abbrev pub new_listener : Option ℕ → ℕ → Listener
new_listener place events = record { answer_place = place; events = events; word = 0; is_answered = false; taken = 0; decided = 0; consumed = 0 }

-- power came up
abbrev pub with_power_by : Option ℕ → Listener → Listener
with_power_by None l = l
with_power_by (Some place) l = record l { is_answered = false; taken = 0 }

abbrev pub with_power : Listener → Listener
with_power l = with_power_by l.answer_place l

-- it came up, or it didn't
abbrev pub power_if : Bool → Listener → Listener
power_if true l = with_power l
power_if false l = l

-- the word that was taken last, with what a step read
abbrev pub word_behind : Heard → ℕ → ℕ
word_behind heard.Nothing w = w
word_behind (heard.Once None) w = w
word_behind (heard.Once (Some v)) w = v
word_behind (heard.Again taken) w = w

-- whether a step consumes an answer
abbrev pub raises : Progress → Listener → Bool
raises p l = l.is_answered && nat_lt l.events p.events

-- the answers behind a step
abbrev pub consumes_on : ℕ → Progress → Listener → Listener
consumes_on place p l = record l {
  is_answered = if is_written p.done.wrote place then true else if raises p l then false else l.is_answered;
  taken = if raises p l then l.taken + 1 else l.taken;
  events = p.events;
}

abbrev pub consumes : ℕ → Progress → Listener → Listener
consumes place p l =
    if is_done p.gate_before p.gate then record l { is_answered = false; taken = 0; decided = 0; consumed = l.consumed + l.decided; events = p.events }
    else if is_decide p.gate_before p.gate then record (consumes_on place p l) { decided = l.taken }
    else consumes_on place p l

abbrev pub consumes_if : Option ℕ → Progress → Listener → Listener
consumes_if None p l = l
consumes_if (Some place) p l = consumes place p l

-- behind a step
abbrev pub with_step : Progress → Listener → Listener
with_step p l = consumes_if l.answer_place p (record l { word = word_behind p.done.heard l.word })

-- the word that was accepted in a step
abbrev pub accepted_word : Progress → Listener → Option ℕ
accepted_word p l = if p.accepts then Some (word_behind p.done.heard l.word) else None

-- the counts have room for so many steps
pub record HasCountsFor (l : Listener) (n : ℕ) : Type 0 where
  pub taken : l.consumed + l.taken + n < 2 ^ 64
  pub decided : l.consumed + l.decided + n < 2 ^ 64

-- what is kept of what its attempts consume
abbrev pub consuming_so : Listener → Consuming
consuming_so l = record { is_answered = l.is_answered; taken = l.taken; decided = l.decided; consumed = l.consumed }

-- what is kept is what is known, at this FRAM
pub record Listens (l : Listener) (k : PairKnown) (fram : List ℕ) : Type 0 where
  pub place : l.answer_place ≡ answer_of_ring (ring_of k.b.map)
  pub events : l.events ≡ events_in (ring_of k.b.map) fram
  pub word : IfSome k.hand.word (λ w. l.word ≡ w)
  pub consuming : consuming_so l ≡ k.consuming
