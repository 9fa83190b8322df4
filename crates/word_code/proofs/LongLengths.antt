-- The code of operations with longs takes no more than their words say.
use Rattle.word_code.proofs.Names.{◌≡◌, ℕ, zero, suc, ◌+◌, ◌-◌, ◌*◌, ◌<◌, List, [], ◌∷◌, refl, arith, Bool, true, false, nat_lt, ltb-true, nat_tests}
use Rattle.word_code.proofs.Names.{if◌then◌else◌, R5, R7, Source, source_bytes, Form, right_words, Left, Right, Waiting, top_of, below_top, kept, rests}
use Rattle.word_code.specs.declared.waiting.Waiting.TheVariants as waiting
use Rattle.array_versions.proofs.Interface.{right_low}
use Rattle.array_versions.specs.Cost.{long_words}
use Rattle.array_versions.specs.declared.operations.LongOperation.{LongOperation}
use Rattle.array_versions.specs.declared.operations.LongOperation.TheVariants as with_longs
use Rattle.word_code.specs.Code.{below_two, parting, six_from, pair_from, long_sides, high_source, low_source, long_calculation, below_code, above_code}
use Rattle.word_code.specs.Code.{times_code, long_double, long_halve, byte_to_left, byte_to_right, long_right_code, left_by, right_by, dropped, high_code}
use Rattle.word_code.specs.Code.{high_behind, pair_lost, short_code, short_behind, left_code, left_behind, right_shift_code, complement_code, right_behind}
use Rattle.word_code.specs.Code.{widen_code, longs_lost, longs_code, longs_under, long_code, long_behind}
use Rattle.word_code.proofs.CodeTakes.{IsRead, Takes, behind, so_takes, joined, nothing_takes, made_of, either_takes, number_bytes, number_is, side_is}
use Rattle.word_code.proofs.CodeTakes.{kept_bytes_of, kept_bytes, shift_takes, shift_most, cleared_by, side_takes, cleared_takes, four_takes, top_to_four_takes}

module _ {k : ℕ} where
  -- ---- words to registers

  six_takes : (os : List Waiting) → Takes k (six_from (top_of os)) (kept_bytes (below_top os)) (2 + kept_bytes os)
  six_takes (waiting.Number n ∷ os) = record { each = ((number_is k n, tt), tt); bytes = omega (arith, number_bytes n) }
  six_takes (waiting.R6 ∷ os) = nothing_takes (kept_bytes os) (2 + (kept_bytes os + 2)) (omega arith)
  six_takes os = record { each = ((tt, tt), tt); bytes = omega arith }

  pair_takes : (os : List Waiting) → Takes k (pair_from os) (kept_bytes (below_two os)) (4 + kept_bytes os)
  pair_takes os = joined (six_takes os) (four_takes (below_top os)) (omega arith)

  long_sides_take : (os : List Waiting) → Takes k (long_sides os)
      (source_bytes (low_source os) + source_bytes (high_source os) + kept_bytes (kept (below_two (below_two os)))) (8 + kept_bytes os)
  long_sides_take os =
      let left = below_two os in
      let low = side_takes (rests (top_of (below_top os))) R5 (below_top os) in
      joined (cleared_takes (below_two left)) (behind (behind (side_takes (rests (top_of os)) R7 os) low) (pair_takes left)) (omega arith)

  -- an operation on two longs, behind that
  longs_take : (made : Source → Source → List Form) (n : ℕ) (os : List Waiting)
      → ((x y : Source) → IsRead k x → IsRead k y → Takes k (made x y) 0 (n + source_bytes x + source_bytes y))
      → Takes k (longs_code made os) (kept_bytes (longs_under os)) (8 + n + kept_bytes os)
  longs_take made n os f =
      let ps = parting (longs_lost os) os in
      let low = top_of (below_top ps) in let high = top_of ps in
      let last = f (low_source ps) (high_source ps) (side_is k (rests low) low R5) (side_is k (rests high) high R7) in
      joined (cleared_by (longs_lost os) os) (behind (long_sides_take ps) last) (omega arith)

  -- ---- shifts

  times_takes : (ms : List Form) (n : ℕ) → Takes k ms 0 4 → Takes k (times_code n ms) 0 (4 * n)
  times_takes ms zero x = nothing_takes 0 0 (omega arith)
  times_takes ms (suc n) x = joined x (times_takes ms n x) (omega arith)

  doubles_take : (n : ℕ) → Takes k (times_code n long_double) 0 (4 * n)
  doubles_take n = times_takes long_double n (made_of long_double 4 (search arith) (omega arith))

  halves_take : (n : ℕ) → Takes k (times_code n long_halve) 0 (4 * n)
  halves_take n = times_takes long_halve n (made_of long_halve 4 (search arith) (omega arith))

  low_right_takes : (n : ℕ) → Takes k (long_right_code n) 0 (4 * n + 2)
  low_right_takes zero = nothing_takes 0 2 (omega arith)
  low_right_takes (suc n) = let x = halves_take n in record { each = (tt, (tt, (tt, x.each))); bytes = omega (arith, x.bytes) }

  left_takes : (n : ℕ) → n < 16 → Takes k (left_by n) 0 44
  left_takes n l =
      so_takes (either_takes (nat_lt n 8) (λ b. if b then 4 * n else 16 + 4 * (n - 8)) (doubles_take n)
      (behind (made_of byte_to_left 16 (search arith) (omega arith)) (doubles_take (n - 8)))) (grind (arith, nat_tests))

  right_takes : (n : ℕ) → n < 16 → Takes k (right_by n) 0 44
  right_takes n l =
      so_takes (either_takes (nat_lt n 8) (λ b. if b then 4 * n + 2 else 16 + 4 * (n - 8)) (low_right_takes n)
      (behind (made_of byte_to_right 16 (search arith) (omega arith)) (halves_take (n - 8)))) (grind (arith, nat_tests))

  short_takes : {ms : List Form} {m : ℕ} (os : List Waiting) → Takes k ms 0 m
      → Takes k (short_code os ms) (kept_bytes (short_behind os)) (8 + m + kept_bytes os)
  short_takes os x =
      let ps = parting (pair_lost os) os in
      joined (cleared_by (pair_lost os) os) (behind (behind (cleared_takes (below_two ps)) (pair_takes ps)) x) (omega arith)

  dropped_takes : (os : List Waiting) → Takes k (dropped (top_of os)) (kept_bytes (below_top os)) (2 + kept_bytes os)
  dropped_takes [] = record { each = ((tt, tt), tt); bytes = omega arith }
  dropped_takes (o ∷ os) = nothing_takes (kept_bytes os) (2 + (kept_bytes os + kept_bytes_of o)) (omega arith)

  high_takes : (os : List Waiting) → Takes k (high_code os) (kept_bytes (high_behind os)) (6 + kept_bytes os)
  high_takes [] = record { each = ((tt, tt), ((tt, tt), tt)); bytes = omega arith }
  high_takes (o ∷ []) = record { each = ((tt, tt), tt); bytes = omega arith }
  high_takes (o ∷ (p ∷ os)) = nothing_takes _ _ (omega arith)

  left_code_takes : (b : Bool) (n : ℕ) (os : List Waiting) → nat_lt n 16 ≡ b
      → Takes k (left_code b os n) (kept_bytes (left_behind b os)) (52 + kept_bytes os)
  left_code_takes true n os e = short_takes os (left_takes n (ltb-true n 16 e))
  left_code_takes false n os e =
      let m = n - 16 in
      joined (dropped_takes os) (behind (top_to_four_takes (below_top os)) (shift_takes Left m))
      (omega (arith, shift_most m m (omega arith)))

  right_code_takes : (b : Bool) (n : ℕ) (os : List Waiting) → nat_lt n 16 ≡ b
      → Takes k (right_shift_code b os n) (kept_bytes (right_behind b os)) (52 + kept_bytes os)
  right_code_takes true n os e = short_takes os (right_takes n (ltb-true n 16 e))
  right_code_takes false n os e =
      let m = n - 16 in
      joined (high_takes os) (behind (top_to_four_takes (high_behind os)) (shift_takes Right m))
      (omega (arith, shift_most m (right_words m) (right_low m)))

  -- ---- each operation

  pub long_takes : (o : LongOperation) (os : List Waiting)
      → Takes k (long_code o os) (kept_bytes (long_behind o os)) (2 * long_words o + kept_bytes os)
  long_takes (with_longs.Calculate o) os =
      so_takes (longs_take (long_calculation o) 4 os (λ x y h i. record { each = (h, (i, tt)); bytes = omega arith })) (omega arith)
  long_takes with_longs.Below os =
      so_takes (longs_take below_code 6 os (λ x y h i. record { each = (h, (i, (tt, tt))); bytes = omega arith })) (omega arith)
  long_takes with_longs.Above os =
      so_takes (longs_take above_code 10 os (λ x y h i. record { each = (tt, (h, (i, (tt, (tt, tt))))); bytes = omega arith })) (omega arith)
  long_takes (with_longs.ShiftLeft n) os = left_code_takes (nat_lt n 16) n os refl
  long_takes (with_longs.ShiftRight n) os = right_code_takes (nat_lt n 16) n os refl
  long_takes with_longs.Complement os = so_takes (short_takes os (made_of complement_code 4 (search arith) (omega arith))) (omega arith)
  long_takes with_longs.Widen os = joined (top_to_four_takes os) (made_of widen_code 8 (search arith) (omega arith)) (omega arith)
  long_takes with_longs.Join os = nothing_takes _ _ (omega arith)
  long_takes with_longs.LowWord os = dropped_takes os
  long_takes with_longs.HighWord os = high_takes os
