-- A bus as what it answers, and a computation that goes over it.
use Rattle.std.specs.Prelude.{ℕ, Result, Ok, Err, Option, Some, None}
use Rattle.alp_words.specs.declared.Width.{Width}
use Rattle.msp_step.specs.declared.bus.Refused.{Refused}
use Rattle.msp_step.specs.declared.bus.Refused.TheVariants as refused

-- a bus by its answers; S is what it holds. A read may change that, since it may take a reading, but not the memory
pub record BusModel (S : Type 0) : Type 0 where
  pub memory : S → ℕ → ℕ  -- what is kept at each address
  pub fetches : S → ℕ → Option ℕ  -- none: a bus fault
  pub reads : S → ℕ → Width → Result ℕ Refused
  pub after_read : S → ℕ → Width → S
  pub writes : S → ℕ → Width → ℕ → Option S  -- none: a bus fault

-- a value with the bus after it, or the access that the bus can't serve, with the bus then
pub data Access (S A : Type 0) : Type 0 where
  Completed : A → S → Access S A
  Faulted : Refused → ℕ → S → Access S A

-- goes on with the value, or stops at the access that the bus refused
abbrev pub then_do : {S A B : Type 0} → Access S A → (A → S → Access S B) → Access S B
then_do (Completed x s) f = f x s
then_do (Faulted r a s) f = Faulted r a s

-- a read that the bus served changes what it holds
abbrev pub read_answer : {S : Type 0} → Result ℕ Refused → ℕ → S → S → Access S ℕ
read_answer (Ok v) a old new = Completed v new
read_answer (Err r) a old new = Faulted r a old

-- a write that the bus served changes what it holds
abbrev pub write_answer : {S A : Type 0} → Option S → ℕ → S → A → Access S A
write_answer (Some new) a old x = Completed x new
write_answer None a old x = Faulted refused.Bus a old

-- a read at an address
abbrev pub read_at : {S : Type 0} → BusModel S → ℕ → Width → S → Access S ℕ
read_at bus a w s = read_answer (bus.reads s a w) a s (bus.after_read s a w)

-- a write at an address; it gives x on
abbrev pub write_at : {S A : Type 0} → BusModel S → ℕ → Width → ℕ → A → S → Access S A
write_at bus a w v x s = write_answer (bus.writes s a w v) a s x
