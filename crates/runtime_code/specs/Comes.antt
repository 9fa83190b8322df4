-- States from which code goes on, and to which it comes.
use Rattle.std.specs.Prelude.{◌≡◌, ℕ}
use Rattle.runtime_effects.specs.machine_effects.Inputs.{Inputs}
use Rattle.code_forms.specs.Forms.{Core}
pub use Rattle.code_forms.specs.Code.{Comes}

-- at an address, with this FRAM and these inputs left
pub record IsAt (address : ℕ) (memory : ℕ → ℕ) (left : Inputs) (u : Core) : Type 0 where
  pub pc : u.pc ≡ address
  pub fram : u.fram ≡ memory
  pub inputs : u.inputs ≡ left

-- the same, with SP
pub record Enters (address stack : ℕ) (memory : ℕ → ℕ) (left : Inputs) (u : Core) : Type 0 where
  pub pc : u.pc ≡ address
  pub sp : u.sp ≡ stack
  pub fram : u.fram ≡ memory
  pub inputs : u.inputs ≡ left
