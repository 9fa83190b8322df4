-- The views of a powered and of a fresh board.
use Rattle.std.proofs.Common.{[], ◌≡◌, ◌==◌, ◌&&◌, ◌%◌, ℕ, zero, suc, refl, ap, Bool, true, false, if◌then◌else◌, replicate, slice_index}
use mathlib.Core.Path.{fun_ext}
use Rattle.fram_board.specs.msp_step.Registers.{registers_of, powered_up}
use Rattle.fram_board.specs.Bus.{is_ram, ram_place}
use Rattle.fram_board.specs.Board.{filled_words, vector_of}
use Rattle.machine_effects.specs.Machine.{MachineBoard, fram_of, ram_of, known}
use Rattle.machine_effects.specs.Laws.{PowerUpIsTheMachines, FreshMachine}

-- a power-up of the board is that of the machine
pub power_up_is_the_machines : PowerUpIsTheMachines
power_up_is_the_machines b p = refl

-- zeros everywhere
pub zeros_at : (n k : ℕ) → slice_index (replicate n 0) k ≡ 0
zeros_at zero k = refl
zeros_at (suc n) zero = refl
zeros_at (suc n) (suc k) = zeros_at n k

filled_at : (n k : ℕ) → slice_index (filled_words n 0) k ≡ 0
unfolding filled_words
filled_at n k = zeros_at n k

either_zero : (b : Bool) (x : ℕ) → x ≡ 0 → (if b then x else 0) ≡ 0
either_zero true x e = e
either_zero false x e = refl

blank_ram : ram_of (filled_words 1024 0) ≡ (λ a. 0)
blank_ram = fun_ext (λ a. either_zero ((a % 2 == 0) && is_ram a) (slice_index (filled_words 1024 0) (ram_place a)) (filled_at 1024 (ram_place a)))

pub fresh_machine : FreshMachine
fresh_machine fram readings events = ap {B = MachineBoard} (λ r. record {
  registers = registers_of (powered_up (vector_of fram) 0);
  fram = fram_of fram;
  ram = known r;
  inputs = record { readings = readings; looks = [] };
  outnum = 0;
}) blank_ram
