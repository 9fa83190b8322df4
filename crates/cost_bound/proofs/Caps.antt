-- Numbers that stop at the end of 64 bits.
use Rattle.std.proofs.Common.{◌≡◌, ℕ, zero, suc, ◌+◌, ◌-◌, ◌*◌, ◌^◌, ◌<◌, ◌≤◌, min, ap, sym, ◌∙◌, ◌⊎◌, inl, inr, refl, arith}
use Rattle.std.specs.Prelude.{Bool, true, false, nat_lt, if◌then◌else◌}
use Rattle.std.proofs.lemmas.Bool.Decides.{nat_tests}
use Rattle.cost_bound.specs.Table.{capped, turns_together}
use Rattle.cost_bound.specs.declared.prices.Column.{Column}

times_large : (n a m : ℕ) → m ≤ a → m ≤ suc n * a
times_large n a m h = omega arith

le_or : (p q : ℕ) → (p ≤ q) ⊎ (q ≤ p)
le_or zero q = inl (omega arith)
le_or (suc p) zero = inr (omega arith)
le_or (suc p) (suc q) = elim (le_or p q) [ inl h ↦ inl (omega arith) | inr h ↦ inr (omega arith) ]

-- the product of a number that was cut off
pub min_times : (m n a : ℕ) → min (n * min a m) m ≡ min (n * a) m
min_times m zero a = omega arith
min_times m (suc n) a = elim (le_or a m) [
  | inl h ↦ (let e : min a m ≡ a = omega arith in ap (λ b. min (suc n * b) m) e)
  | inr h ↦ (let e : min a m ≡ m = omega arith in
      let x : m ≤ suc n * m = times_large n m m (omega arith) in
      let y : m ≤ suc n * a = times_large n a m h in
      ap (λ b. min (suc n * b) m) e ∙ (let z : min (suc n * m) m ≡ m = omega arith in z) ∙ (let z : m ≡ min (suc n * a) m = omega arith in z))
]

pub capped_times : (n a : ℕ) → capped (n * capped a) ≡ capped (n * a)
capped_times n a = min_times (2 ^ 64 - 1) n a

-- a number that was cut off, in either kind of turns
capped_turns : (b : Bool) (n a c : ℕ) → c ≡ capped a → capped (if b then n * c else c) ≡ capped (if b then n * a else a)
capped_turns true n a c e = ap (λ t. capped (n * t)) e ∙ capped_times n a
capped_turns false n a c e = omega arith

pub loop_price : (c : Column) (n body cut turn turns all : ℕ) → cut ≡ capped body → turn ≡ capped (c.turn + cut) → turns ≡ capped (turns_together c n turn)
    → all ≡ capped (c.repeat + turns)
    → all ≡ capped (c.repeat + turns_together c n (c.turn + body))
loop_price p n body cut turn turns all a b c d =
    let e : turn ≡ capped (p.turn + body) = omega arith in
    let f : turns ≡ capped (turns_together p n (p.turn + body)) = c ∙ capped_turns p.each_turn n (p.turn + body) turn e in omega (arith, f)

-- a number that was cut off is above 0 where it was
pub some_capped : (n : ℕ) → nat_lt 0 (capped n) ≡ nat_lt 0 n
some_capped zero = refl
some_capped (suc n) =
    let cut : nat_lt 0 (capped (suc n)) ≡ true = (let some : 0 < capped (suc n) = omega arith in grind (arith, nat_tests)) in
    let whole : nat_lt 0 (suc n) ≡ true = (let some : 0 < suc n = omega arith in grind (arith, nat_tests)) in
    cut ∙ sym whole
