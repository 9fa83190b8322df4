-- The number of the digits that are read, modulo 65536.
use Rattle.std.proofs.Common.{◌≡◌, ℕ, ◌+◌, ◌*◌, ◌/◌, ◌%◌, ◌||◌, ◌≤◌, ◌<◌, nat_le, List, refl, ap, sym, ◌∙◌, arith, Bool, true, false}
use Rattle.std.proofs.lemmas.Bool.Decides.{nat_tests}
use Rattle.std.proofs.Math.Nat.{mul-le-mul_left}
use Rattle.asm_line.specs.Numbers.{number_after, reduced}
use Rattle.asm_line.specs.declared.numbers.Numeral.{Numeral}

-- the digits so far write n, and those that are left are behind them
pub record SoFar (base : ℕ) (so_far : Numeral) (rest digits : List ℕ) : Type 0 where
  pub n : ℕ
  pub is : so_far ≡ reduced n
  pub left : number_after base n rest ≡ number_after base 0 digits

pub start : (base : ℕ) (digits : List ℕ) → SoFar base (record { residue = 0; large = false }) digits digits
unfolding reduced
start base digits = record { n = 0; is = refl; left = refl }

split_number : (n base v : ℕ) → n * base + v ≡ 65536 * (n / 65536 * base) + (n % 65536 * base + v)
split_number n base v =
    let e : n ≡ 65536 * (n / 65536) + n % 65536 = omega arith in
    ap (λ m. m * base + v) e ∙ omega arith

same_residue : (a b : ℕ) → b % 65536 ≡ (65536 * a + b) % 65536
same_residue a b = omega arith

large_by : (t : Bool) (n base v : ℕ) → nat_le 65536 n ≡ t → 1 ≤ base → (t || nat_le 65536 (n % 65536 * base + v)) ≡ nat_le 65536 (n * base + v)
large_by true n base v e h =
    let more : n * 1 ≤ n * base = mul-le-mul_left n h in
    let big : 65536 ≤ n = grind (arith, nat_tests, e) in
    let test : nat_le 65536 (n * base + v) ≡ true = grind (arith, nat_tests) in
    sym test
large_by false n base v e h =
    let small : n < 65536 = grind (arith, nat_tests, e) in
    let same : n % 65536 ≡ n = omega arith in
    ap (λ r. nat_le 65536 (r * base + v)) same

pub digit_more : (n base v : ℕ) → 1 ≤ base → record {
  residue = (n % 65536 * base + v) % 65536;
  large = nat_le 65536 n || nat_le 65536 (n % 65536 * base + v);
} ≡ reduced (n * base + v)
unfolding reduced
digit_more n base v h = rw (large_by (nat_le 65536 n) n base v refl h, same_residue (n / 65536 * base) (n % 65536 * base + v), ← split_number n base v) refl

opened : (n base v : ℕ) → 1 ≤ base
    → record { residue = ((reduced n).residue * base + v) % 65536; large = (reduced n).large || nat_le 65536 ((reduced n).residue * base + v) }
    ≡ reduced (n * base + v)
unfolding reduced
opened n base v h = digit_more n base v h

with_more : (m : Numeral) (l : Bool) (n base v : ℕ) → m ≡ reduced n → 1 ≤ base → l ≡ (m.large || nat_le 65536 (m.residue * base + v))
    → record { residue = (m.residue * base + v) % 65536; large = l } ≡ reduced (n * base + v)
with_more m l n base v e h f = rw f (rw e (opened n base v h))

or_true : (a b : Bool) → a ≡ true → a ≡ (a || b)
or_true true b e = refl
or_true false b e = cc

or_false : (a b : Bool) → a ≡ false → b ≡ (a || b)
or_false true b e = cc
or_false false b e = refl

pub with_large : (m : Numeral) (n base v : ℕ) → m.large ≡ true → 1 ≤ base → m ≡ reduced n
    → record { residue = (m.residue * base + v) % 65536; large = m.large } ≡ reduced (n * base + v)
with_large m n base v t h e = with_more m m.large n base v e h (or_true m.large _ t)

pub with_small : (m : Numeral) (n base v : ℕ) → m.large ≡ false → 1 ≤ base → m ≡ reduced n
    → record { residue = (m.residue * base + v) % 65536; large = nat_le 65536 (m.residue * base + v) } ≡ reduced (n * base + v)
with_small m n base v t h e = with_more m (nat_le 65536 (m.residue * base + v)) n base v e h (or_false m.large _ t)
