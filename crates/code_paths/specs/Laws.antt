-- What code whose jumps go forward spends.
use Rattle.std.specs.Prelude.{◌≡◌, ℕ, List}
use Rattle.machine_effects.specs.Machine.{Code}
use Rattle.machine_effects.specs.fram_board.Effects.{Effect}
use Rattle.code_forms.specs.Forms.{Core, Form}
use Rattle.code_forms.specs.Code.{Stands, IsTidy, KeptCode, RunsWithin, StarvesWithin}
use Rattle.code_forms.specs.Placed.{placed, instructions}
use Rattle.code_paths.specs.Paths.{forward_most}

-- the machine stands at the front of code that stands in other code
pub record BeginsCode (code : Code) (at : ℕ) (ms : List Form) (u : Core) : Type 0 where
  pub tidy : IsTidy code
  pub stands : Stands code at ms
  pub begins : u.pc ≡ at

-- where it comes to alone, with no other code around it, within so many cycles, it comes to there too; and where its jumps go forward, within the
-- cycles of its dearest path
abbrev pub RunsKeepToPaths : Type 0
RunsKeepToPaths = (kept : KeptCode) (at : ℕ) (ms : List Form) (u end : Core) (es : List Effect) (most : ℕ) → BeginsCode kept.code at ms u
    → RunsWithin (record kept { code = placed kept.code.events at (instructions ms) }) es most u (λ t. t ≡ end)
    → RunsWithin kept es (forward_most ms most) u (λ t. t ≡ end)

-- and where it is short of a reading alone, it is short there
abbrev pub StarvingKeepsToPaths : Type 0
StarvingKeepsToPaths = (kept : KeptCode) (at : ℕ) (ms : List Form) (u : Core) (es : List Effect) (most : ℕ) → BeginsCode kept.code at ms u
    → StarvesWithin (record kept { code = placed kept.code.events at (instructions ms) }) es most u → StarvesWithin kept es (forward_most ms most) u
