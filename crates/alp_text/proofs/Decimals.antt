use Rattle.std.proofs.Common.{◌≡◌, ◌≤◌, ◌<◌, ◌^◌, ℕ, ◌+◌, ◌*◌, ◌/◌, ◌%◌, List, [], ◌∷◌, ◌++◌, length, arith, refl, nat_lt, nat_eq, Ok, true, false, codes}
use Rattle.std.specs.Fmt.{decimal}
use Rattle.std.specs.List.{list_all, starts_with}
use Rattle.std.proofs.lemmas.Fmt.{decimal_by_steps}
use Rattle.std.proofs.lemmas.Bool.Decides.{nat_tests}
use Rattle.alp_text.specs.Numbers.{digit_of, value_after, number_of}

-- decimal digits, at least one
abbrev pub AreDigits : List ℕ → Type 0
AreDigits [] = Unit {0}
AreDigits (b ∷ bs) = (48 ≤ b) × (b ≤ 57) × AreDigits bs

pub record Spells (n : ℕ) (ds : List ℕ) : Type 0 where
  pub digits : AreDigits ds
  pub some : 0 < length ds
  pub value : value_after 10 0 ds ≡ n

digit_is : (b : ℕ) → 48 ≤ b → b ≤ 57 → digit_of b + 48 ≡ b
unfolding digit_of
digit_is b h k = grind (arith, nat_tests)

more_digits : (ds : List ℕ) (d : ℕ) → AreDigits ds → 48 ≤ d → d ≤ 57 → AreDigits (ds ++ d ∷ [])
more_digits [] d h k l = (k, l, tt)
more_digits (b ∷ bs) d h k l = (h.0, h.1, more_digits bs d h.2 k l)

more_value : (ds : List ℕ) (m d : ℕ) → value_after 10 m (ds ++ d ∷ []) ≡ value_after 10 m ds * 10 + digit_of d
more_value [] m d = refl
more_value (b ∷ bs) m d = more_value bs (m * 10 + digit_of b) d

some_more : (ds : List ℕ) (d : ℕ) → 0 < length (ds ++ d ∷ [])
some_more [] d = omega arith
some_more (b ∷ bs) d = omega arith

one : (n : ℕ) → n < 10 → Spells n ((48 + n) ∷ [])
one n h = let e : digit_of (48 + n) + 48 ≡ 48 + n = digit_is (48 + n) (omega arith) (omega arith) in
    record { digits = (omega arith, omega arith, tt); some = omega arith; value = omega arith }

more : (n : ℕ) (ds : List ℕ) → 10 ≤ n → Spells (n / 10) ds → Spells n (ds ++ ((48 + n % 10) ∷ []))
more n ds h s = let e : digit_of (48 + n % 10) + 48 ≡ 48 + n % 10 = digit_is (48 + n % 10) (omega arith) (omega arith) in
    record {
      digits = more_digits ds _ s.digits (omega arith) (omega arith);
      some = some_more ds _;
      value = let v = more_value ds 0 (48 + n % 10) in let w : value_after 10 0 ds ≡ n / 10 = s.value in omega arith;
    }

-- a number's decimal digits spell it
pub decimal_spells : (n : ℕ) → n < 2 ^ 64 → Spells n (decimal n)
decimal_spells n h = decimal_by_steps Spells one more n h

all_digits : (ds : List ℕ) → AreDigits ds → list_all (λ b. nat_lt (digit_of b) 10) ds ≡ true
all_digits [] h = refl
all_digits (b ∷ bs) h = let e : digit_of b + 48 ≡ b = digit_is b h.0 h.1 in let small : nat_lt (digit_of b) 10 ≡ true = grind (arith, nat_tests) in
    rw small (all_digits bs h.2)

-- decimal digits don't begin with `0x`
pub no_x : (ds : List ℕ) → AreDigits ds → starts_with nat_eq ds (codes "0x") ≡ false
no_x [] h = refl
no_x (b ∷ []) h = grind (arith, nat_tests)
no_x (b ∷ c ∷ bs) h = grind (arith, nat_tests)

pub number_spelled : (n : ℕ) (ds : List ℕ) → n < 2 ^ 64 → Spells n ds → number_of ds ≡ Ok n
number_spelled n ds h s =
    let some : nat_lt 0 (length ds) ≡ true = (let k = s.some in grind (arith, nat_tests)) in
    let small : nat_lt n (2 ^ 64) ≡ true = grind (arith, nat_tests) in
    rw (no_x ds s.digits, all_digits ds s.digits, some, s.value, small) refl

-- the digits of a number say the number
pub number_back : (n : ℕ) → n < 2 ^ 64 → number_of (decimal n) ≡ Ok n
number_back n h = number_spelled n (decimal n) h (decimal_spells n h)
