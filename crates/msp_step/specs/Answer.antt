-- What a function over a bus returned, as an access.
use Rattle.std.specs.Prelude.{ℕ, Result, Ok, Err, Option}
use Rattle.std.specs.Option.{option_map}
use Rattle.msp_step.specs.Access.{Access, Completed, Faulted}
use Rattle.msp_step.specs.Registers.{Registers}
use Rattle.msp_step.specs.Effect.{Written}
use Rattle.msp_step.specs.declared.operand.Fault.{Fault}

-- the Ok is a completed access with this view of it, the Err a faulted one
abbrev pub answer : {S X A : Type 0} → (X → A) → Result X Fault → S → Access S A
answer view (Ok x) s = Completed (view x) s
answer view (Err d) s = Faulted d.refused d.address s

-- what an effect leaves, with the address of its write alone
abbrev pub addressed : {S : Type 0} → Access S (Registers × Option Written) → Access S (Registers × Option ℕ)
addressed (Completed x s) = Completed (x.0, option_map (λ p. p.0) x.1) s
addressed (Faulted e a s) = Faulted e a s
