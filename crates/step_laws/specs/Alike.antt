-- Two buses that answer alike carry any instruction alike, up to an access that the second one refuses.
use Rattle.std.specs.Prelude.{◌≡◌, ◌⊎◌, ℕ, Bool, true, Result, Ok, Err, Option, Some, None}
use Rattle.msp_step.specs.alp_words.declared.Width.{Width}
use Rattle.msp_step.specs.msp_isa.declared.instructions.Instr.{Instr}
use Rattle.msp_step.specs.declared.bus.Refused.{Refused}
use Rattle.msp_step.specs.declared.bus.Refused.TheVariants as refused
use Rattle.msp_step.specs.Registers.{Registers}
use Rattle.msp_step.specs.Access.{BusModel, Access, Completed, Faulted}
use Rattle.msp_step.specs.Step.{effect}

-- two accesses that gave the same, or were refused alike, and left buses that stand in a relation; or the second was refused
-- in an odd way, told by how it was refused and where
abbrev pub AlikeUnless : {S T A : Type 0} → (Refused → ℕ → Type 0) → (S → T → Type 0) → Access S A → Access T A → Type 0
AlikeUnless Odd R (Completed x s) (Completed y t) = (x ≡ y) × R s t
AlikeUnless Odd R (Faulted e a s) (Faulted f b t) = Odd f b ⊎ ((e ≡ f) × (a ≡ b) × R s t)
AlikeUnless Odd R (Completed x s) (Faulted f b t) = Odd f b
AlikeUnless Odd R (Faulted e a s) (Completed y t) = ⊥

-- two reads that answer the same, or the second is refused in an odd way
abbrev pub ReadAlike : (Refused → ℕ → Type 0) → ℕ → Result ℕ Refused → Result ℕ Refused → Type 0
ReadAlike Odd a p q = (p ≡ q) ⊎ ((e : Refused) × (q ≡ Err e) × Odd e a)

-- both writes were served and left such buses, or both were refused, or the second alone was, which is odd
abbrev pub WrittenAlike : {S T : Type 0} → Type 0 → (S → T → Type 0) → Option S → Option T → Type 0
WrittenAlike odd R (Some s) (Some t) = R s t
WrittenAlike odd R None None = Unit {0}
WrittenAlike odd R (Some s) None = odd
WrittenAlike odd R None (Some t) = ⊥

-- related buses answer each read and each write alike, unless the second refuses it in an odd way, and stay related by those
-- that both serve
pub record AnswerAlikeUnless {S T : Type 0} (Odd : Refused → ℕ → Type 0) (b : BusModel S) (c : BusModel T) (R : S → T → Type 0) : Type 0 where
  pub reads : (s : S) (t : T) (a : ℕ) (w : Width) → R s t → ReadAlike Odd a (b.reads s a w) (c.reads t a w)
  pub after : (s : S) (t : T) (a : ℕ) (w : Width) (v : ℕ) → R s t → c.reads t a w ≡ Ok v → R (b.after_read s a w) (c.after_read t a w)
  pub writes : (s : S) (t : T) (a : ℕ) (w : Width) (v : ℕ) → R s t → WrittenAlike (Odd refused.Bus a) R (b.writes s a w v) (c.writes t a w v)

-- buses that look the same through two views
abbrev pub SameView : {S T : Type 0} → (S → ℕ → ℕ) → (T → ℕ → ℕ) → S → T → Type 0
SameView f g s t = f s ≡ g t

-- the accesses that a test picks as odd
abbrev pub IsOdd : (Refused → ℕ → Bool) → Refused → ℕ → Type 0
IsOdd odd e a = odd e a ≡ true

-- where related buses answer alike, each instruction has the same effect over both, unless an access of it is odd. Where the
-- test picks none, buses that answer alike carry any instruction alike
abbrev pub CarriesAlike : {S T : Type 0} → BusModel S → BusModel T → Type 0
CarriesAlike {S} {T} b c = (odd : Refused → ℕ → Bool) (f : S → ℕ → ℕ) (g : T → ℕ → ℕ) → AnswerAlikeUnless (IsOdd odd) b c (SameView f g)
    → (i : Instr) (r : Registers) (s : S) (t : T) → f s ≡ g t → AlikeUnless (IsOdd odd) (SameView f g) (effect b i r s) (effect c i r t)
