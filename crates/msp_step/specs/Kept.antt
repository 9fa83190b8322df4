-- What each register file keeps.
use Rattle.std.specs.Prelude.{ℕ, ◌%◌, ◌<◌, ◌≡◌, List, slice_index, length}

-- what each register file keeps
pub record IsRegisters (rs : List ℕ) : Type 0 where
  pub long : length rs ≡ 16
  pub even_pc : slice_index rs 0 % 2 ≡ 0
  pub even_sp : slice_index rs 1 % 2 ≡ 0
  pub sr : slice_index rs 2 < 0x200
  pub r3 : slice_index rs 3 ≡ 0
