-- Code that is priced by itself.
use Rattle.std.proofs.Common.{◌≡◌, ℕ, zero, suc, ◌+◌, ◌-◌, ◌*◌, ◌/◌, ◌==◌, ◌<◌, ◌≤◌, Bool, true, false}
use Rattle.std.proofs.Common.{if◌then◌else◌, Option, Some, None, is_some, List, refl, ap, ◌∙◌, arith}
use Rattle.std.proofs.lemmas.Bool.{eqb-true}
use Rattle.word_code.specs.code_forms.Forms.{Form}
use Rattle.word_code.specs.declared.bounds.Bound.{Bound}
use Rattle.word_code.specs.array_versions.Program.{Test}
use Rattle.word_code.specs.array_versions.Cost.{test_words}
use Rattle.word_code.specs.Code.{size, test_code}
use Rattle.word_code.proofs.Interface.{test_takes}
use Rattle.code_costs.specs.Dearest.{bits_in, by_number_most}
use Rattle.code_paths.specs.Paths.{capped, dearest, is_forward, forward_most}

capped_twice : (n : ℕ) → capped (capped n) ≡ capped n
capped_twice n = omega arith

-- what it costs whatever it is may be cut off before
pub most_cut : (ms : List Form) (most : ℕ) → capped (forward_most ms (capped most)) ≡ capped (forward_most ms most)
most_cut ms most = by (is_forward ms)
  where
    by : (b : Bool) → capped (if b then dearest ms else capped most) ≡ capped (if b then dearest ms else most)
    by true = refl
    by false = capped_twice most

-- a sum of which a part was cut off before
pub cut_sum : (a b : ℕ) → capped (a + capped b) ≡ capped (a + b)
cut_sum a b = omega arith

-- the cycles of a call
pub cut_call : (own owed cost : ℕ) → capped (capped (own + capped owed) + cost) ≡ capped (own + owed + cost)
cut_call own owed cost = omega arith

-- the words of a test's code, at most
pub test_size : (bs : List Bound) (t : Test) (when : Bool) (d : ℕ) (own : List Form) → own ≡ test_code bs t when d → size own ≤ test_words t
test_size bs t when d own e = omega (arith, ap size e, (test_takes bs t when d).bytes)

-- so many words where a flag is set are no more than these
pub words_at_most : (b : Bool) (n : ℕ) → (if b then n else 0) ≤ n
words_at_most true n = omega arith
words_at_most false n = omega arith

no_bit : (m : ℕ) → bits_in m 0 ≡ 0
no_bit zero = refl
no_bit (suc m) = refl

-- the bits of a number, one by one
bit_more : (m n : ℕ) → bits_in (suc m) n ≡ (if n == 0 then 0 else 1) + bits_in m (n / 2)
bit_more m n = go (n == 0) refl
  where
    go : (b : Bool) → (n == 0) ≡ b → (if b then 0 else suc (bits_in m (n / 2))) ≡ (if b then 0 else 1) + bits_in m (n / 2)
    go true e = let none = ap (λ x. bits_in m (x / 2)) (eqb-true n 0 e) ∙ no_bit m in omega (arith, none)
    go false e = omega arith

pub bit_turned : (turn bits left more : ℕ) → turn < 15 → more ≡ bits + (if left == 0 then 0 else 1)
    → more + bits_in (15 - (turn + 1)) (left / 2) ≡ bits + bits_in (15 - turn) left
bit_turned turn bits left more h e =
    let next : 15 - turn ≡ suc (15 - (turn + 1)) = omega (arith, h) in
    let one = ap (λ k. bits_in k left) next ∙ bit_more (15 - (turn + 1)) left in
    omega (arith, e, one)

pub bit_small : (n : ℕ) → (if n == 0 then 0 else 1) ≤ 1
bit_small n = go (n == 0)
  where
    go : (b : Bool) → (if b then 0 else 1) ≤ 1
    go true = omega arith
    go false = omega arith

pub bits_ended : (turn bits left : ℕ) → 15 ≤ turn → bits + bits_in (15 - turn) left ≡ bits
bits_ended turn bits left h = let none : 15 - turn ≡ 0 = omega (arith, h) in let zero = ap (λ k. bits_in k left) none in omega (arith, zero)

-- a product by a number
pub by_its_bits : (o : Option ℕ) (n : ℕ) → is_some o ≡ false → by_number_most o n ≡ 8 + suc (bits_in 15 (n / 2)) * 9
by_its_bits None n e = refl
by_its_bits (Some k) n e = cc

pub by_a_power : (o : Option ℕ) (n : ℕ) → is_some o ≡ true → by_number_most o n ≡ 152
by_a_power None n e = cc
by_a_power (Some k) n e = refl
