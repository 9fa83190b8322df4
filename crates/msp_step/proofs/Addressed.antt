-- An effect by the address of its write.
use Rattle.std.proofs.Common.{◌≡◌, ℕ, ap, Option, None}
use Rattle.msp_step.specs.declared.bus.Refused.{Refused}
use Rattle.msp_step.specs.Registers.{Registers}
use Rattle.msp_step.specs.Access.{Access, Completed, Faulted}
use Rattle.msp_step.specs.Effect.{Written}
use Rattle.msp_step.specs.Answer.{addressed}

abbrev refused_as : {S : Type 0} → Access S (Registers × Option ℕ) → Access S (Registers × Option Written)
refused_as (Completed x s) = Completed (x.0, None) s
refused_as (Faulted e a s) = Faulted e a s

-- where an access was refused, it was so in the effect
pub faulted_so : {S : Type 0} (m : Access S (Registers × Option Written)) (e : Refused) (a : ℕ) (s : S) → addressed m ≡ Faulted e a s → m ≡ Faulted e a s
faulted_so (Completed x t) e a s is = cc
faulted_so (Faulted f b t) e a s is = ap refused_as is
