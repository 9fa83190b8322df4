-- What the handler leaves alone, and how many cycles it takes.
use Rattle.std.proofs.Common.{◌≡◌, ◌+◌, ◌-◌, ◌≤◌, if◌then◌else◌, arith, ℕ, refl, ◌∙◌, ap, Bool, true, false}
use Rattle.std.proofs.lemmas.Bool.Decides.{nat_tests}
use Rattle.fram_board.specs.Board.{BoardValue}
use Rattle.machine_effects.specs.World.{put}
use Rattle.machine_effects.specs.Machine.{fram_of, ram_of}
use Rattle.machine_effects.proofs.Interface.{put_other}
use Rattle.event_places.specs.Places.{slot_place, head_place, is_ring}
use Rattle.event_handler.specs.Handler.{Stage, SaveR4, SaveR5, TakeEvent, LoadHead, SubtractTail, CompareRoom, LeaveIfFull, LoadHeadAgain, CutToSlots}
use Rattle.event_handler.specs.Handler.{DoubleIndex, StoreWord, RaiseHead, RestoreR5, RestoreR4, Return}
use Rattle.event_handler.specs.Boundaries.{stack_of, head_of, event_of, is_ring_full, with_event}
use Rattle.event_handler.specs.Boundaries.{with_head_raised, fram_at, with_return, with_r4, with_r5, ram_at, cycles_left}
use Rattle.event_handler.specs.Boundaries.{instructions_left}
use Rattle.event_handler.specs.Laws.{HandlerTakesItsCycles, HandlerKeepsTheRest}

-- where the ring is full, the rest is shorter
either_left : (full : Bool) → (2 + cycles_left (if full then RestoreR5 else LoadHeadAgain) ≤ 25)
    × (1 + instructions_left (if full then RestoreR5 else LoadHeadAgain) ≤ 9)
either_left true = (omega arith, omega arith)
either_left false = (omega arith, omega arith)

pub handler_takes_its_cycles : HandlerTakesItsCycles
handler_takes_its_cycles from SaveR4 = record { cycles = omega arith; instructions = omega arith }
handler_takes_its_cycles from SaveR5 = record { cycles = omega arith; instructions = omega arith }
handler_takes_its_cycles from TakeEvent = record { cycles = omega arith; instructions = omega arith }
handler_takes_its_cycles from LoadHead = record { cycles = omega arith; instructions = omega arith }
handler_takes_its_cycles from SubtractTail = record { cycles = omega arith; instructions = omega arith }
handler_takes_its_cycles from CompareRoom = record { cycles = omega arith; instructions = omega arith }
handler_takes_its_cycles from LeaveIfFull =
    record { cycles = (either_left (is_ring_full from)).0; instructions = (either_left (is_ring_full from)).1 }
handler_takes_its_cycles from LoadHeadAgain = record { cycles = omega arith; instructions = omega arith }
handler_takes_its_cycles from CutToSlots = record { cycles = omega arith; instructions = omega arith }
handler_takes_its_cycles from DoubleIndex = record { cycles = omega arith; instructions = omega arith }
handler_takes_its_cycles from StoreWord = record { cycles = omega arith; instructions = omega arith }
handler_takes_its_cycles from RaiseHead = record { cycles = omega arith; instructions = omega arith }
handler_takes_its_cycles from RestoreR5 = record { cycles = omega arith; instructions = omega arith }
handler_takes_its_cycles from RestoreR4 = record { cycles = omega arith; instructions = omega arith }
handler_takes_its_cycles from Return = record { cycles = omega arith; instructions = omega arith }

-- the slots and HEAD are the ring
no_slot : (index a : ℕ) → is_ring a ≡ false → a ≡ slot_place index → ⊥
no_slot index a off e = grind (arith, nat_tests)

no_head : (a : ℕ) → is_ring a ≡ false → a ≡ head_place → ⊥
no_head a off e = grind (arith, nat_tests)

event_off_ring : (from : BoardValue) (a : ℕ) → is_ring a ≡ false → with_event from a ≡ fram_of from.fram a
event_off_ring from a off = put_other (fram_of from.fram) (slot_place (head_of from)) (event_of from) a (no_slot (head_of from) a off)

raised_off_ring : (from : BoardValue) (a : ℕ) → is_ring a ≡ false → with_head_raised from a ≡ fram_of from.fram a
raised_off_ring from a off = put_other (with_event from) head_place _ a (no_head a off) ∙ event_off_ring from a off

either_off_ring : (from : BoardValue) (full : Bool) (a : ℕ) → is_ring a ≡ false
    → (if full then fram_of from.fram else with_head_raised from) a ≡ fram_of from.fram a
either_off_ring from true a off = refl
either_off_ring from false a off = raised_off_ring from a off

pub off_ring : (from : BoardValue) (at : Stage) (a : ℕ) → is_ring a ≡ false → fram_at from at a ≡ fram_of from.fram a
off_ring from SaveR4 a off = refl
off_ring from SaveR5 a off = refl
off_ring from TakeEvent a off = refl
off_ring from LoadHead a off = refl
off_ring from SubtractTail a off = refl
off_ring from CompareRoom a off = refl
off_ring from LeaveIfFull a off = refl
off_ring from LoadHeadAgain a off = refl
off_ring from CutToSlots a off = refl
off_ring from DoubleIndex a off = refl
off_ring from StoreWord a off = refl
off_ring from RaiseHead a off = event_off_ring from a off
off_ring from RestoreR5 a off = either_off_ring from (is_ring_full from) a off
off_ring from RestoreR4 a off = either_off_ring from (is_ring_full from) a off
off_ring from Return a off = either_off_ring from (is_ring_full from) a off

-- what is pushed stands below SP
module _ (from : BoardValue) (low : 0x1C20 ≤ stack_of from) (a : ℕ) (above : stack_of from ≤ a) where
  return_above : with_return from a ≡ ram_of from.ram a
  return_above =
      put_other (put (ram_of from.ram) (stack_of from - 2) _) (stack_of from - 4) _ a (λ e. omega arith)
      ∙ put_other (ram_of from.ram) (stack_of from - 2) _ a (λ e. omega arith)

  r4_above : with_r4 from a ≡ ram_of from.ram a
  r4_above = put_other (with_return from) (stack_of from - 6) _ a (λ e. omega arith) ∙ return_above

  pub r5_above : with_r5 from a ≡ ram_of from.ram a
  r5_above = put_other (with_r4 from) (stack_of from - 8) _ a (λ e. omega arith) ∙ r4_above

  pub above_stack : (at : Stage) → ram_at from at a ≡ ram_of from.ram a
  above_stack SaveR4 = return_above
  above_stack SaveR5 = r4_above
  above_stack TakeEvent = r5_above
  above_stack LoadHead = r5_above
  above_stack SubtractTail = r5_above
  above_stack CompareRoom = r5_above
  above_stack LeaveIfFull = r5_above
  above_stack LoadHeadAgain = r5_above
  above_stack CutToSlots = r5_above
  above_stack DoubleIndex = r5_above
  above_stack StoreWord = r5_above
  above_stack RaiseHead = r5_above
  above_stack RestoreR5 = r5_above
  above_stack RestoreR4 = r5_above
  above_stack Return = r5_above

pub handler_keeps_the_rest : HandlerKeepsTheRest
handler_keeps_the_rest from g = record {
  within = λ at b h. record {
    fram = λ a off. ap (λ f. f a) h.fram ∙ off_ring from at a off;
    ram = λ a above. ap (λ f. f a) h.ram ∙ above_stack from g.low a above at;
    rest = h.rest;
  };
  returned = λ b h. record {
    fram = λ a off. ap (λ f. f a) h.fram ∙ either_off_ring from (is_ring_full from) a off;
    ram = λ a above. ap (λ f. f a) h.ram ∙ r5_above from g.low a above;
    rest = h.rest;
  };
}
