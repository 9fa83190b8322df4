-- The counts have room for fewer steps, too.
use Rattle.std.proofs.Common.{◌≤◌, ◌+◌, if◌then◌else◌, arith, ℕ, Bool, true, false, Option, Some, None, Result, Ok, Err, OnOk}
use Rattle.fram_board.specs.Gate.{is_decide, is_done}
use Rattle.board_run.specs.declared.stepwise.StepwiseRun.{StepwiseRun}
use Rattle.board_run.specs.Stepwise.{HasRoom}
use Rattle.pair_run.specs.declared.listener.Listener.{Listener}
use Rattle.pair_run.specs.declared.listener.Progress.{Progress}
use Rattle.pair_run.specs.declared.sides.Sides.{Sides}
use Rattle.pair_run.specs.Listening.{with_power_by, power_if, word_behind, raises, consumes_on, consumes, consumes_if, with_step, HasCountsFor}
use Rattle.pair_run.specs.Sides.{HasRoomForBoth, HasRoomFor, most_steps}
use Rattle.pair_run.proofs.Listening.{either}

one_less : (r : StepwiseRun) (n m : ℕ) → m ≤ n → HasRoom r n → HasRoom r m
one_less r n m less h = record {
  accepted = omega (arith, less, h.accepted);
  repeats = omega (arith, less, h.repeats);
  words = omega (arith, less, h.words);
}

pub counts_less : (l : Listener) (n m : ℕ) → m ≤ n → HasCountsFor l n → HasCountsFor l m
counts_less l n m less h = record { taken = omega (arith, less, h.taken); decided = omega (arith, less, h.decided) }

pub rooms_less : (s : Sides) (n m k l : ℕ) → k ≤ n → l ≤ m → HasRoomForBoth s n m → HasRoomForBoth s k l
rooms_less s n m k l fewer less h = record {
  a = one_less s.a n k fewer h.a;
  b = one_less s.b m l less h.b;
  listener = counts_less s.listener m l less h.listener;
}

pub room_less : (s : Sides) (n m : ℕ) → m ≤ n → HasRoomFor s n → HasRoomFor s m
room_less s n m less h = rooms_less s n n m m less less h

-- where fewer steps are made than an entry may ask for
pub room_of_fewer : {T E : Type 0} (r : Result T E) (s t : Sides) (count : ℕ) → count ≤ most_steps
    → OnOk r ((n : ℕ) → HasRoomFor s (n + count) → HasRoomFor t n) → OnOk r ((n : ℕ) → HasRoomFor s (n + most_steps) → HasRoomFor t n)
room_of_fewer (Ok x) s t count few room = λ n h. room n (room_less s (n + most_steps) (n + count) (omega (arith, few)) h)
room_of_fewer (Err e) s t count few room = tt

-- ---- the counts behind a step of the listener

raised : (is : Bool) (n : ℕ) → (if is then n + 1 else n) ≤ n + 1
raised true n = omega arith
raised false n = omega arith

counts_on : (place : ℕ) (p : Progress) (l : Listener) (n : ℕ) → HasCountsFor l (n + 1) → HasCountsFor (consumes_on place p l) n
counts_on place p l n h =
    let up = raised (raises p l) l.taken in
    record { taken = omega (arith, up, h.taken); decided = omega (arith, h.decided) }

counts_consumed : (place : ℕ) (p : Progress) (l : Listener) (n : ℕ) → HasCountsFor l (n + 1) → HasCountsFor (consumes place p l) n
counts_consumed place p l n h =
    let on = counts_on place p l n h in
    either (λ x. HasCountsFor x n) (is_done p.gate_before p.gate) (is_decide p.gate_before p.gate) _ _ _
    (record { taken = omega (arith, h.decided); decided = omega (arith, h.decided) })
    (record { taken = on.taken; decided = omega (arith, h.taken) })
    on

counts_if : (o : Option ℕ) (p : Progress) (l : Listener) (n : ℕ) → HasCountsFor l (n + 1) → HasCountsFor (consumes_if o p l) n
counts_if None p l n h = counts_less l (n + 1) n (omega arith) h
counts_if (Some place) p l n h = counts_consumed place p l n h

pub counts_stepped : (p : Progress) (l : Listener) (n : ℕ) → HasCountsFor l (n + 1) → HasCountsFor (with_step p l) n
counts_stepped p l n h = counts_if l.answer_place p (record l { word = word_behind p.done.heard l.word }) n (record { taken = h.taken; decided = h.decided })

powered_by : (o : Option ℕ) (l : Listener) (n : ℕ) → HasCountsFor l n → HasCountsFor (with_power_by o l) n
powered_by None l n h = h
powered_by (Some place) l n h = record { taken = omega (arith, h.taken); decided = h.decided }

pub counts_powered : (is : Bool) (l : Listener) (n : ℕ) → HasCountsFor l n → HasCountsFor (power_if is l) n
counts_powered true l n h = powered_by l.answer_place l n h
counts_powered false l n h = h
