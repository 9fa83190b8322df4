-- A power-up leaves a whole board.
use Rattle.std.proofs.Common.{◌≡◌, ◌<◌, arith, ℕ, refl, All, length}
use Rattle.std.proofs.lemmas.List.{length-replicate}
use Rattle.std.proofs.lemmas.List.Elements.{All-replicate}
use Rattle.msp_step.specs.Kept.{IsRegisters}
use Rattle.fram_board.specs.Board.{BoardValue, PowerState, filled, filled_words, powered}
use Rattle.fram_board.specs.Steps.{IsPowerState, IsBoard}
use Rattle.fram_board.specs.Laws.{PowerUpLeavesABoard, FillIsAPowerState}

power_board : (b : BoardValue) (p : PowerState) → IsBoard b → IsPowerState p → IsBoard (powered b p)
power_board b p h q = record { fram = h.fram; ram = q.ram_len; taken = h.taken; few = h.few }

power_registers : (b : BoardValue) (p : PowerState) → IsPowerState p → IsRegisters (powered b p).cpu
power_registers b p q = let l = q.work_len in record { long = omega arith; even_pc = omega arith; even_sp = omega arith; sr = omega arith; r3 = refl }

-- a power-up leaves a board, whatever words it leaves in RAM
pub power_up_leaves_a_board : PowerUpLeavesABoard
power_up_leaves_a_board b p h q = (power_board b p h q, power_registers b p q)

all_filled : (n w : ℕ) → w < 0x10000 → All (λ x. x < 0x10000) (filled_words n w)
unfolding filled_words
all_filled n w h = All-replicate (λ x. x < 0x10000) n w h

length_filled : (n w : ℕ) → length (filled_words n w) ≡ n
unfolding filled_words
length_filled n w = length-replicate n w

all_work : (f : ℕ) → f < 0x10000 → All (λ x. x < 0x10000) (filled f).work
all_work f h = All-replicate (λ x. x < 0x10000) 12 f h

-- a fill word is what a power-up may leave
pub fill_is_a_power_state : FillIsAPowerState
fill_is_a_power_state f h = record { sp = h; work = all_work f h; work_len = refl; ram = all_filled 1024 f h; ram_len = length_filled 1024 f; outnum = h }
