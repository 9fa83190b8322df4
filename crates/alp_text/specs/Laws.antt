-- What the definitions of numbers come to: how numbers are spelled, and which texts are none.
use Rattle.std.specs.Prelude.{◌≡◌, codes, Ok, Err}
use Rattle.alp_text.specs.declared.numbers.NumberFault.TheVariants.{BadDigit, TooBig}
use Rattle.alp_text.specs.Numbers.{number_of, hex4}

-- numbers as Rust and C spell them, and texts that are no numbers
pub record SpellingRows : Type 0 where
  pub zero : number_of (codes "0") ≡ Ok 0
  pub leading_zeros : number_of (codes "0042") ≡ Ok 42
  pub hexadecimal : number_of (codes "0x1c2F") ≡ Ok 7215
  pub hexadecimal_zeros : number_of (codes "0x0010") ≡ Ok 16
  pub greatest : number_of (codes "18446744073709551615") ≡ Ok 18446744073709551615
  pub too_big : number_of (codes "18446744073709551616") ≡ Err TooBig
  pub greatest_hexadecimal : number_of (codes "0xffffffffffffffff") ≡ Ok 18446744073709551615
  pub too_big_hexadecimal : number_of (codes "0x10000000000000000") ≡ Err TooBig
  pub empty : number_of (codes "") ≡ Err BadDigit
  pub no_hexadecimal_digit : number_of (codes "0x") ≡ Err BadDigit
  pub letter : number_of (codes "12a") ≡ Err BadDigit
  pub upper_case_prefix : number_of (codes "0X10") ≡ Err BadDigit
  pub sign : number_of (codes "-1") ≡ Err BadDigit
  pub blank : number_of (codes " 1") ≡ Err BadDigit
  pub bad_digit_first : number_of (codes "18446744073709551616g") ≡ Err BadDigit
  pub printed : hex4 43981 ≡ codes "abcd"
  pub printed_zeros : hex4 15 ≡ codes "000f"
