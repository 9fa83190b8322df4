-- Multiplication: a turn for each bit of the right side, up to its highest.
use Rattle.word_code.proofs.Names.{◌≡◌, ℕ, zero, suc, ◌+◌, ◌*◌, ◌/◌, ◌%◌, ◌^◌, ◌<◌, ◌==◌, not, [], ◌∷◌, refl, sym, ap, ◌∙◌, subst, arith, Bool, true, false}
use Rattle.word_code.proofs.Names.{if◌then◌else◌, eqb-true, bit_and, nat_tests, and_mask, and_le_r, mul-mod_first, bit, R6, Core, Constant, ToRegister}
use Rattle.word_code.proofs.Names.{Move, Stands, forms_bytes, Runs, Multiply, binary_word, WordState, binary_middle, multiply_turn}
use Rattle.array_versions.specs.msp_step.msp_isa.declared.operands.Konst.TheVariants as konst
use Rattle.word_code.proofs.Registers.{Holds, Has, HasTwo, Flagged, IsZero, line}
use Rattle.word_code.proofs.Stretches.{Setting, runs_on, dearer}
use Rattle.word_code.proofs.Middles.{BinaryMiddle}
use Rattle.word_code.proofs.Routes.{on, jump, free, Work, route, starts}

-- a turn leaves acc + a * b as it was
even_turn : (a b acc : ℕ) → b % 2 ≡ 0 → (acc + (a + a) % 0x10000 * (b / 2)) % 0x10000 ≡ (acc + a * b) % 0x10000
even_turn a b acc e =
    let q = b / 2 in
    let p = (a + a) % 0x10000 * q in
    let r = (a + a) * q in
    let m : p % 0x10000 ≡ r % 0x10000 = mul-mod_first (a + a) q 0x10000 in
    let two : b ≡ 2 * q = omega arith in
    let f : a * b ≡ r = ap (λ n. a * n) two ∙ omega arith in
    let s = a * b in
    omega (arith, m, f)

odd_turn : (a b acc : ℕ) → b % 2 ≡ 1 → ((acc + a + 0) % 0x10000 + (a + a) % 0x10000 * (b / 2)) % 0x10000 ≡ (acc + a * b) % 0x10000
odd_turn a b acc e =
    let q = b / 2 in
    let p = (a + a) % 0x10000 * q in
    let r = (a + a) * q in
    let m : p % 0x10000 ≡ r % 0x10000 = mul-mod_first (a + a) q 0x10000 in
    let two : b ≡ 2 * q + 1 = omega arith in
    let f : a * b ≡ r + a = ap (λ n. a * n) two ∙ omega arith in
    let s = a * b in
    omega (arith, m, f)

no_more : (a acc : ℕ) → acc < 0x10000 → (acc + a * 0) % 0x10000 ≡ acc
no_more a acc h = omega arith

parity : (b : ℕ) → bit_and b 1 ≡ b % 2
parity b = and_mask b 1

is_even : (b : ℕ) (k : Bool) → (bit_and b 1 == 0) ≡ k → (b % 2 == 0) ≡ k
is_even b k e = ap (λ n. n == 0) (sym (parity b)) ∙ e

is_odd : (b : ℕ) → (b % 2 == 0) ≡ false → b % 2 ≡ 1
is_odd b e = grind (arith, nat_tests)

not_zero : (b : ℕ) → (b == 0) ≡ false → b ≡ 0 → ⊥
not_zero b e is_zero = grind (arith, nat_tests)

halved_below : (n b : ℕ) → b < 2 ^ suc (suc n) → b / 2 < 2 ^ suc n
halved_below n b l = let e : 2 ^ suc (suc n) ≡ 2 * 2 ^ suc n = grind arith in omega arith

pub no_bits : (v : ℕ) → v / 2 + 0x8000 * bit (not (bit_and v 0 == 0)) ≡ v / 2
no_bits v = let e : bit_and v 0 ≡ 0 = let l = and_le_r v 0 in omega arith in ap (λ n. v / 2 + 0x8000 * bit (not (n == 0))) e ∙ omega arith

-- the sum behind a turn, by whether the right side is even
abbrev sum : Bool → ℕ → ℕ → ℕ
sum even a acc = if even then acc else (acc + a + 0) % 0x10000

same_product : (even : Bool) (a b acc : ℕ) → (bit_and b 1 == 0) ≡ even
    → (sum even a acc + (a + a) % 0x10000 * (b / 2)) % 0x10000 ≡ (acc + a * b) % 0x10000
same_product true a b acc e = even_turn a b acc (eqb-true (b % 2) 0 (is_even b true e))
same_product false a b acc e = odd_turn a b acc (is_odd b (is_even b false e))

sum_small : (even : Bool) (a acc : ℕ) → acc < 0x10000 → sum even a acc < 0x10000
sum_small true a acc l = l
sum_small false a acc l = omega arith

twice : (a : ℕ) → (a + a + 0) % 0x10000 ≡ (a + a) % 0x10000
twice a = omega arith

module _ (z : Setting) where
  module _ (p : ℕ) (h : Stands z.code p multiply_turn) where
    -- R4 holds the left side doubled so often, R5 what is left of the right one, R6 the sum so far
    abbrev Factors : ℕ → ℕ → ℕ → WordState → Core → Type 0
    Factors a b acc w = Holds z (λ f. Work a b acc (f 7) f) (p + 0) w

    -- a turn, up to the jump back
    turn : (even : Bool) (a b acc : ℕ) (w : WordState) (t : Core) → (bit_and b 1 == 0) ≡ even → Factors a b acc w t
        → Runs z.kept [] 7 t (Flagged z (λ f. Work ((a + a) % 0x10000) (b / 2) (sum even a acc) (f 7) f) (IsZero (b / 2 == 0)) (p + 12) w)
    turn true a b acc w t e i =
        dearer z (omega arith) (route z p multiply_turn h 0 i.is i.held (on 1 ∷ jump true ∷ on 3 ∷ []) 6 _
        (_, free 1, (refl, (refl, e, refl, (_, ((tt, tt), ((tt, tt), (tt, tt))), (refl, tt))))) refl refl
        (λ s. record { all = record { is = s; held = (twice a, no_bits b, refl, refl) }; flag = ap (λ v. v == 0) (no_bits b) }))
    turn false a b acc w t e i =
        route z p multiply_turn h 0 i.is i.held (on 1 ∷ jump false ∷ on 4 ∷ []) 7 _
        (_, free 1, (refl, (refl, e, refl, (_, ((tt, tt), ((tt, tt), ((tt, tt), (tt, tt)))), (refl, tt))))) refl refl
        (λ s. record { all = record { is = s; held = (twice a, no_bits b, refl, refl) }; flag = ap (λ v. v == 0) (no_bits b) })

    abbrev Result : ℕ → ℕ → ℕ → WordState → Core → Type 0
    Result a b acc w = Has z R6 (p + 14) w ((acc + a * b) % 0x10000)

    -- behind a turn: out where nothing is left, else back
    leave : (n a b next : ℕ) (w : WordState) (t : Core) (k : Bool) → (b == 0) ≡ k → next < 0x10000
        → Flagged z (λ f. Work a b next (f 7) f) (IsZero (b == 0)) (p + 12) w t
        → ((b ≡ 0 → ⊥) → (u : Core) → Factors a b next w u → Runs z.kept [] (n * 9) u (Result a b next w)) → Runs z.kept [] (2 + n * 9) t (Result a b next w)
    leave n a b next w t true e small j again =
        let nothing : next ≡ (next + a * b) % 0x10000 = sym (ap (λ q. (next + a * q) % 0x10000) (eqb-true b 0 e) ∙ no_more a next small) in
        dearer z (omega arith) (route z p multiply_turn h 6 j.all.is j.all.held (jump false ∷ []) 2 _ (refl, ap not (j.flag ∙ e), refl, tt) refl refl
        (λ s. record { is = s; held = nothing }))
    leave n a b next w t false e small j again =
        runs_on z (route z p multiply_turn h 6 j.all.is j.all.held (jump true ∷ []) 2 (Factors a b next w)
        (refl, ap not (j.flag ∙ e), refl, tt) refl refl
        (λ s. record { is = s; held = (refl, refl, refl, refl) }))
        (λ u i. again (not_zero b e) u i)

    loop : (n a b acc : ℕ) (w : WordState) (t : Core) → b < 2 ^ suc n → acc < 0x10000 → Factors a b acc w t → Runs z.kept [] (suc n * 9) t (Result a b acc w)
    loop zero a b acc w t l small i =
        let even = bit_and b 1 == 0 in
        subst (λ v. Runs z.kept [] (7 + (2 + 0 * 9)) t (Has z R6 (p + 14) w v)) (same_product even a b acc refl)
        (runs_on z (turn even a b acc w t refl i) (λ u j.
        leave zero ((a + a) % 0x10000) (b / 2) (sum even a acc) w u (b / 2 == 0) refl (sum_small even a acc small) j (λ ne v k. elim (ne (omega arith)) [ ])))
    loop (suc m) a b acc w t l small i =
        let even = bit_and b 1 == 0 in
        dearer z (omega arith) (subst (λ v. Runs z.kept [] (7 + (2 + suc m * 9)) t (Has z R6 (p + 14) w v)) (same_product even a b acc refl)
        (runs_on z (turn even a b acc w t refl i) (λ u j.
        leave (suc m) ((a + a) % 0x10000) (b / 2) (sum even a acc) w u (b / 2 == 0) refl (sum_small even a acc small) j
        (λ ne v k. loop m ((a + a) % 0x10000) (b / 2) (sum even a acc) w v (halved_below m b l) (sum_small even a acc small) k))))

  -- a product by a word of so few bits
  pub multiply_within : (turns pc x y : ℕ) (w : WordState) (t : Core) → x < 0x10000 → y < 2 ^ suc turns → Stands z.code pc (binary_middle Multiply)
      → HasTwo z pc w x y t → Runs z.kept [] (1 + suc turns * 9) t (Has z R6 (pc + forms_bytes (binary_middle Multiply)) w (binary_word Multiply x y))
  multiply_within turns pc x y w t a b h i =
      let ms = Move (Constant konst.Zero) (ToRegister R6) ∷ [] in
      let most = 1 + suc turns * 9 in
      let e : pc + 2 + 14 ≡ pc + forms_bytes (binary_middle Multiply) = omega arith in
      let is_zero : (0 + x * y) % 0x10000 ≡ (x * y) % 0x10000 = omega arith in
      subst (λ n. Runs z.kept [] most t (Has z R6 n w ((x * y) % 0x10000))) e (subst (λ v. Runs z.kept [] most t (Has z R6 (pc + 2 + 14) w v)) is_zero
      (runs_on z (line z ms 1 (pc + 2) (Holds z (λ f. Work x y 0 (f 7) f) (pc + 2) w) i.is (tt, tt) (h.0, tt) ((tt, tt), tt) refl refl (omega (arith, i.is.at))
      (λ s. record { is = s; held = (i.held.four, i.held.five, refl, refl) }))
      (λ u j. loop (pc + 2) h.1 turns x y 0 w u b (omega arith) (record { is = starts z j.is; held = j.held }))))

  pub multiply_middle : BinaryMiddle z (binary_middle Multiply) R6 145 (binary_word Multiply)
  multiply_middle pc x y w t a b h i = multiply_within 15 pc x y w t a b h i
