-- Shifts of longs in registers.
use Rattle.word_code.proofs.Names.{◌≡◌, ℕ, zero, suc, ◌+◌, ◌-◌, ◌*◌, ◌/◌, ◌%◌, ◌^◌, ◌<◌, ◌≤◌, ◌==◌, Bool, true, false, nat_le, nat_lt, if◌then◌else◌, List, []}
use Rattle.word_code.proofs.Names.{◌∷◌, ◌++◌, refl, sym, ap, ap₂, ◌∙◌, subst, arith, le-leb, ltb-true, nat_tests, bit, bit_and, Core, Form, Calculate, Modify}
use Rattle.word_code.proofs.Names.{Constant, R4, R6, Runs, Stands, forms_bytes, WordState}
use Rattle.std.specs.Prelude.{bit_xor}
use Rattle.array_versions.specs.msp_step.msp_isa.declared.instructions.TwoOp.TheVariants as op
use Rattle.array_versions.specs.msp_step.msp_isa.declared.operands.Konst.TheVariants as konst
use Rattle.code_forms.specs.instruction_forms.declared.kinds.Modification.TheVariants as change
use Rattle.array_versions.specs.Operations.{long_to_left, long_to_right}
use Rattle.word_code.specs.Code.{times_code, long_double, long_halve, byte_to_left, byte_to_right, long_right_code, left_by, right_by, complement_code}
use Rattle.word_code.proofs.Stretches.{Setting, two_parts, dearer, nothing_run}
use Rattle.word_code.proofs.Registers.{Holds, line}
use Rattle.word_code.proofs.ShiftParts.{high_byte, low_byte}
use Rattle.word_code.proofs.LongWords.{pair_of, times, long_twice, half, twice_times, half_times, raised_times, lowered_times, twice_low, twice_high, half_low}
use Rattle.word_code.proofs.LongWords.{half_high, top_is_zero, no_carry, swap, up_low, up_high, down_low, down_high, turned_low, turned_high}
use Rattle.word_code.proofs.LongSides.{HasPair}

module _ (z : Setting) where
  -- R6 and R4 hold a long
  abbrev pub HasLong : ℕ → ℕ → WordState → Core → Type 0
  HasLong n pc w = Holds z (HasPair (pair_of n)) pc w

  -- what forms make of a long below this number
  abbrev pub LongTurns : List Form → ℕ → ℕ → (ℕ → ℕ) → Type 0
  LongTurns ms c most f = (pc n : ℕ) (w : WordState) (t : Core) → n < most → Stands z.code pc ms → HasLong n pc w t
      → Runs z.kept [] c t (HasLong (f n) (pc + forms_bytes ms) w)

  -- forms behind forms
  turns_on : {most c d : ℕ} (ms more : List Form) (g f : ℕ → ℕ) (next : ℕ) → ((n : ℕ) → n < most → g n < next) → LongTurns ms c most g
      → LongTurns more d next f → LongTurns (ms ++ more) (c + d) most (λ n. f (g n))
  turns_on {most} {c} {d} ms more g f next l a b pc n w t s h i =
      two_parts z ms more pc (λ p. HasLong (f (g n)) p w) h (λ q. a pc n w t s q i) (λ r q k. b (pc + forms_bytes ms) (g n) w r (l n s) q k)

  -- the same value by another name, within more cycles
  as_value : {c most : ℕ} (ms : List Form) (d : ℕ) (f g : ℕ → ℕ) → c ≤ d → ((n : ℕ) → n < most → f n ≡ g n) → LongTurns ms c most f
      → LongTurns ms d most g
  as_value {c} {most} ms d f g l e a pc n w t s h i =
      dearer z l (subst (λ v. Runs z.kept [] c t (HasLong v (pc + forms_bytes ms) w)) (e n s) (a pc n w t s h i))

  -- forms so many times
  times_part : (most : ℕ) (ms : List Form) (g : ℕ → ℕ) → ((n : ℕ) → n < most → g n < most) → LongTurns ms 2 most g → (k : ℕ)
      → LongTurns (times_code k ms) (2 * k) most (times k g)
  times_part most ms g l one zero pc n w t s h i =
      let e : pc ≡ pc + 0 = omega arith in nothing_run z (subst (λ p. HasLong n p w t) e i)
  times_part most ms g l one (suc k) pc n w t s h i =
      dearer z (omega arith) (turns_on ms (times_code k ms) g (times k g) most l one (times_part most ms g l one k) pc n w t s h i)

  -- each bit turned
  pub complement_part : LongTurns complement_code 2 0x100000000 (λ n. 4294967295 - n)
  complement_part pc n w t s h i =
      let k = i.held in
      line z complement_code 2 (pc + 4) _ i.is (tt, (tt, tt)) h ((tt, tt), ((tt, tt), tt)) refl refl (omega (arith, i.is.at)) (λ u. record {
        is = u;
        held = record { four = ap (λ v. bit_xor v 0xFFFF) k.four ∙ turned_low n s; six = ap (λ v. bit_xor v 0xFFFF) k.six ∙ turned_high n s };
      })

  double_part : LongTurns long_double 2 0x100000000 long_twice
  double_part pc n w t s h i =
      let k = i.held in
      line z long_double 2 (pc + 4) _ i.is (tt, (tt, tt)) h ((tt, tt), ((tt, tt), tt)) refl refl (omega (arith, i.is.at)) (λ u. record {
        is = u;
        held = record {
          four = ap (λ v. (v + v + 0) % 0x10000) k.four ∙ twice_low n;
          six = ap₂ (λ v x. (x + x + bit (nat_le 0x10000 (v + v + 0))) % 0x10000) k.four k.six ∙ twice_high n;
        };
      })

  halve_part : LongTurns long_halve 2 0x80000000 half
  halve_part pc n w t s h i =
      let k = i.held in
      line z long_halve 2 (pc + 4) _ i.is (tt, (tt, tt)) h (tt, (tt, tt)) refl refl (omega (arith, i.is.at)) (λ u. record {
        is = u;
        held = record {
          four = ap₂ (λ v x. v / 2 + 0x8000 * bit (x % 2 == 1)) k.four k.six ∙ half_low n;
          six = ap (λ x. x / 2 + 0x8000 * bit (nat_le 0x8000 x)) k.six ∙ ap (λ b. n / 0x10000 / 2 + 0x8000 * bit b) (top_is_zero n s) ∙ half_high n;
        };
      })

  -- the first bit to the right: a 0 comes in
  abbrev first_right : List Form
  first_right = Calculate op.Bit (Constant konst.Zero) R4 ∷ Modify change.Rrc R6 ∷ Modify change.Rrc R4 ∷ []

  first_part : LongTurns first_right 3 0x100000000 half
  first_part pc n w t s h i =
      let k = i.held in
      line z first_right 3 (pc + 6) _ i.is (tt, (tt, (tt, tt))) h ((tt, tt), (tt, (tt, tt))) refl refl (omega (arith, i.is.at)) (λ u. record {
        is = u;
        held = record {
          four = ap₂ (λ v x. v / 2 + 0x8000 * bit (x % 2 == 1)) k.four k.six ∙ half_low n;
          six = ap₂ (λ x b. x / 2 + 0x8000 * bit b) k.six (no_carry (t.work 4)) ∙ half_high n;
        };
      })

  up_part : LongTurns byte_to_left 8 0x100000000 (λ n. (n * 256) % 0x100000000)
  up_part pc n w t s h i =
      let k = i.held in
      let low : ℕ → ℕ = λ v. bit_and (swap v) 0xFF00 in
      let high : ℕ → ℕ → ℕ → ℕ = λ v p q. ((p + swap v + 0) % 0x10000 + (0xFFFF - q) + 1) % 0x10000 in
      let l : n % 0x10000 < 0x10000 = omega arith in
      let m : n / 0x10000 < 0x10000 = omega arith in
      line z byte_to_left 8 (pc + 16) _ i.is (tt, (tt, (tt, (tt, (tt, (tt, tt)))))) h (tt, (tt, ((tt, tt), ((tt, tt), ((tt, tt), ((tt, tt), tt)))))) refl refl
      (omega (arith, i.is.at)) (λ u. record {
        is = u;
        held = record {
          four = ap low k.four ∙ high_byte (n % 0x10000) l ∙ up_low n;
          six = ap₂ (λ v x. high v (low x) (low v)) k.four k.six ∙ ap₂ (λ p q. high (n % 0x10000) p q) (high_byte (n / 0x10000) m) (high_byte (n % 0x10000) l)
              ∙ up_high n;
        };
      })

  down_part : LongTurns byte_to_right 8 0x100000000 (λ n. n / 256)
  down_part pc n w t s h i =
      let k = i.held in
      let low : ℕ → ℕ = λ v. bit_and (swap v) 0xFF in
      let made : ℕ → ℕ → ℕ → ℕ = λ x p q. ((p + swap x + 0) % 0x10000 + (0xFFFF - q) + 1) % 0x10000 in
      let l : n % 0x10000 < 0x10000 = omega arith in
      let m : n / 0x10000 < 0x10000 = omega arith in
      line z byte_to_right 8 (pc + 16) _ i.is (tt, (tt, (tt, (tt, (tt, (tt, tt)))))) h (tt, (tt, ((tt, tt), ((tt, tt), ((tt, tt), ((tt, tt), tt)))))) refl refl
      (omega (arith, i.is.at)) (λ u. record {
        is = u;
        held = record {
          four = ap₂ (λ v x. made x (low v) (low x)) k.four k.six ∙ ap₂ (λ p q. made (n / 0x10000) p q) (low_byte (n % 0x10000) l) (low_byte (n / 0x10000) m)
              ∙ down_low n s;
          six = ap low k.six ∙ low_byte (n / 0x10000) m ∙ down_high n;
        };
      })

  doubles_part : (k : ℕ) → LongTurns (times_code k long_double) (2 * k) 0x100000000 (times k long_twice)
  doubles_part = times_part 0x100000000 long_double long_twice (λ n h. omega arith) double_part

  halves_part : (k : ℕ) → LongTurns (times_code k long_halve) (2 * k) 0x80000000 (times k half)
  halves_part = times_part 0x80000000 long_halve half (λ n h. omega arith) halve_part

  -- ---- by fewer than 16 bits

  low_right_part : (k : ℕ) → k < 8 → LongTurns (long_right_code k) 22 0x100000000 (λ n. n / 2 ^ k)
  low_right_part zero l = as_value {c = 0} [] 22 (λ n. n) (λ n. n / 2 ^ zero) (omega arith) (λ n h. omega arith) (λ pc n w t s h i.
      let e : pc ≡ pc + 0 = omega arith in nothing_run z (subst (λ p. HasLong n p w t) e i))
  low_right_part (suc k) l =
      as_value (first_right ++ times_code k long_halve) 22 (times (suc k) half) (λ n. n / 2 ^ suc k) (omega arith) (λ n h. half_times (suc k) n)
      (turns_on first_right (times_code k long_halve) half (times k half) 0x80000000 (λ n h. omega arith) first_part (halves_part k))

  by_eight : (b : Bool) (k : ℕ) → nat_lt k 8 ≡ b → (small big : List Form) (f : ℕ → ℕ) → (k < 8 → LongTurns small 22 0x100000000 f)
      → (8 ≤ k → LongTurns big 22 0x100000000 f) → LongTurns (if b then small else big) 22 0x100000000 f
  by_eight true k e small big f a b = a (ltb-true k 8 e)
  by_eight false k e small big f a b = let m : 8 ≤ k = grind (arith, nat_tests) in b m

  raised : (k n : ℕ) → 8 ≤ k → times (k - 8) long_twice ((n * 256) % 0x100000000) ≡ (n * 2 ^ k) % 0x100000000
  raised k n l = let e : 8 + (k - 8) ≡ k = omega arith in raised_times (k - 8) n ∙ ap (λ m. (n * 2 ^ m) % 0x100000000) e

  lowered : (k n : ℕ) → 8 ≤ k → times (k - 8) half (n / 256) ≡ n / 2 ^ k
  lowered k n l = let e : 8 + (k - 8) ≡ k = omega arith in lowered_times (k - 8) n ∙ ap (λ m. n / 2 ^ m) e

  left_turns : (k : ℕ) → k < 16 → LongTurns (left_by k) 22 0x100000000 (λ n. (n * 2 ^ k) % 0x100000000)
  left_turns k l =
      by_eight (nat_lt k 8) k refl (times_code k long_double) (byte_to_left ++ times_code (k - 8) long_double) (λ n. (n * 2 ^ k) % 0x100000000)
      (λ s. as_value (times_code k long_double) 22 (times k long_twice) (λ n. (n * 2 ^ k) % 0x100000000) (omega arith) (λ n h. twice_times k n h)
      (doubles_part k))
      (λ m. as_value (byte_to_left ++ times_code (k - 8) long_double) 22 (λ n. times (k - 8) long_twice ((n * 256) % 0x100000000))
      (λ n. (n * 2 ^ k) % 0x100000000) (omega arith) (λ n h. raised k n m)
      (turns_on byte_to_left (times_code (k - 8) long_double) (λ n. (n * 256) % 0x100000000) (times (k - 8) long_twice) 0x100000000
      (λ n h. omega arith) up_part (doubles_part (k - 8))))

  right_turns : (k : ℕ) → k < 16 → LongTurns (right_by k) 22 0x100000000 (λ n. n / 2 ^ k)
  right_turns k l =
      by_eight (nat_lt k 8) k refl (long_right_code k) (byte_to_right ++ times_code (k - 8) long_halve) (λ n. n / 2 ^ k) (low_right_part k)
      (λ m. as_value (byte_to_right ++ times_code (k - 8) long_halve) 22 (λ n. times (k - 8) half (n / 256)) (λ n. n / 2 ^ k) (omega arith)
      (λ n h. lowered k n m)
      (turns_on byte_to_right (times_code (k - 8) long_halve) (λ n. n / 256) (times (k - 8) half) 0x80000000
      (λ n h. omega arith) down_part (halves_part (k - 8))))

  few : (k : ℕ) → k < 16 → nat_le k 31 ≡ true
  few k l = le-leb k 31 (omega arith)

  pub left_part : (k : ℕ) → k < 16 → LongTurns (left_by k) 22 0x100000000 (λ n. long_to_left n k)
  left_part k l =
      as_value (left_by k) 22 (λ n. (n * 2 ^ k) % 0x100000000) (λ n. long_to_left n k) (omega arith)
      (λ n h. sym (ap (λ b. if b then (n * 2 ^ k) % 2 ^ 32 else 0) (few k l))) (left_turns k l)

  pub right_part : (k : ℕ) → k < 16 → LongTurns (right_by k) 22 0x100000000 (λ n. long_to_right n k)
  right_part k l =
      as_value (right_by k) 22 (λ n. n / 2 ^ k) (λ n. long_to_right n k) (omega arith)
      (λ n h. sym (ap (λ b. if b then n / 2 ^ k else 0) (few k l))) (right_turns k l)
