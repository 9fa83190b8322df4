-- What `.word` and `.org` say with one number of four hexadecimal digits.
use Rattle.std.proofs.Common.{◌≡◌, ◌<◌, ℕ, ◌+◌, ◌*◌, ◌%◌, ◌==◌, nat_le, List, [], ◌∷◌, ◌++◌, refl, ap, ◌∙◌, arith, false, Some, None}
use Rattle.std.specs.Prelude.{codes}
use Rattle.std.proofs.lemmas.Bool.Decides.{nat_tests}
use Rattle.text_parts.specs.Fields.{fields, is_blank}
use Rattle.asm_line.specs.Numbers.{digit, reduced, numeral_of, number_of, ◌>>?◌}
use Rattle.asm_line.specs.Pieces.{Located, before_mark, behind_mark, without_blanks, word, behind_word, only_word, split, parts}
use Rattle.asm_line.specs.Values.{number, value_of, is_digit}
use Rattle.asm_line.specs.Tables.{two_named, one_named, condition_named, emulated_named}
use Rattle.asm_line.specs.Lines.{words, org, suffix_of, base_name, word_value, plain_of, operation_of, statement_of, with_label, line_of}

-- a hexadecimal digit and its value
pub record IsHex (d v : ℕ) : Type 0 where
  pub digit : digit 16 d ≡ Some v
  pub comment : (d == 59) ≡ false
  pub colon : (d == 58) ≡ false
  pub comma : (d == 44) ≡ false
  pub blank : is_blank d ≡ false

-- four digits and their number
pub record IsHex4 (a b c d w : ℕ) : Type 0 where
  pub va : ℕ
  pub vb : ℕ
  pub vc : ℕ
  pub vd : ℕ
  pub first : IsHex a va
  pub second : IsHex b vb
  pub third : IsHex c vc
  pub fourth : IsHex d vd
  pub value : (((0 * 16 + va) * 16 + vb) * 16 + vc) * 16 + vd ≡ w
  pub small : w < 65536

-- `0x` and four digits
abbrev pub hex : ℕ → ℕ → ℕ → ℕ → List ℕ
hex a b c d = 48 ∷ 120 ∷ a ∷ b ∷ c ∷ d ∷ []

hex_number : (a b c d w : ℕ) → IsHex4 a b c d w → number_of (hex a b c d) ≡ Some (record { residue = w; large = false })
unfolding number_of numeral_of reduced
hex_number a b c d w h =
    let low : w % 65536 ≡ w = (let s = h.small in omega arith) in
    let high : nat_le 65536 w ≡ false = (let s = h.small in grind (arith, nat_tests)) in
    rw (h.first.digit, h.second.digit, h.third.digit, h.fourth.digit, h.value, low, high) refl

hex_value : (at a b c d w : ℕ) → IsHex4 a b c d w → value_of (record { at = at; text = hex a b c d }) ≡ Some (number w)
unfolding value_of is_digit
hex_value at a b c d w h = rw (hex_number a b c d w h) refl

hex_word : (at a b c d w : ℕ) → IsHex4 a b c d w → only_word (record { at = at; text = 32 ∷ hex a b c d }) ≡ Some (record { at = at + 1; text = hex a b c d })
unfolding only_word without_blanks word behind_word is_blank fields
hex_word at a b c d w h = rw (h.first.blank, h.second.blank, h.third.blank, h.fourth.blank) refl

hex_word_value : (at a b c d w : ℕ) → IsHex4 a b c d w → word_value (record { at = at; text = 32 ∷ hex a b c d }) ≡ Some (number w)
hex_word_value at a b c d w h = ap (λ o. o >>? value_of) (hex_word at a b c d w h) ∙ hex_value (at + 1) a b c d w h

one_part : (at a b c d w : ℕ) → IsHex4 a b c d w → parts 44 (record { at = at; text = 32 ∷ hex a b c d }) ≡ record { at = at; text = 32 ∷ hex a b c d } ∷ []
unfolding split
one_part at a b c d w h = rw (h.first.comma, h.second.comma, h.third.comma, h.fourth.comma) refl

word_says : (p : Located) (w : ℕ) → parts 44 p ≡ p ∷ [] → word_value p ≡ Some (number w) → plain_of (codes ".word") p ≡ Some (words (number w ∷ []))
unfolding plain_of
word_says p w e h = rw (e, h) refl

org_says : (p : Located) (w : ℕ) → word_value p ≡ Some (number w) → plain_of (codes ".org") p ≡ Some (org (number w))
unfolding plain_of
org_says p w h = rw h refl

word_named : (p : Located) → operation_of (codes ".word") None p ≡ plain_of (codes ".word") p
unfolding operation_of two_named one_named emulated_named condition_named
word_named p = refl

org_named : (p : Located) → operation_of (codes ".org") None p ≡ plain_of (codes ".org") p
unfolding operation_of two_named one_named emulated_named condition_named
org_named p = refl

word_statement : (at : ℕ) (x : List ℕ) → statement_of (record { at = at; text = codes ".word" ++ 32 ∷ x })
    ≡ plain_of (codes ".word") (record { at = at + 5; text = 32 ∷ x })
unfolding statement_of word behind_word base_name suffix_of is_blank
word_statement at x = word_named (record { at = at + 5; text = 32 ∷ x })

org_statement : (at : ℕ) (x : List ℕ) → statement_of (record { at = at; text = codes ".org" ++ 32 ∷ x })
    ≡ plain_of (codes ".org") (record { at = at + 4; text = 32 ∷ x })
unfolding statement_of word behind_word base_name suffix_of is_blank
org_statement at x = org_named (record { at = at + 4; text = 32 ∷ x })

-- a line that begins with no blank and has no comment and no colon
plain_line : (p : Located) → before_mark 59 p ≡ p → without_blanks p ≡ p → behind_mark 58 p ≡ None → line_of p ≡ with_label None (statement_of p)
unfolding line_of
plain_line p e f g = rw (e, f, g) refl

word_front : (at a b c d w : ℕ) → IsHex4 a b c d w → before_mark 59 (record { at = at; text = codes ".word" ++ 32 ∷ hex a b c d })
    ≡ record { at = at; text = codes ".word" ++ 32 ∷ hex a b c d }
unfolding before_mark
word_front at a b c d w h = rw (h.first.comment, h.second.comment, h.third.comment, h.fourth.comment) refl

word_bare : (at : ℕ) (x : List ℕ) → without_blanks (record { at = at; text = codes ".word" ++ x }) ≡ record { at = at; text = codes ".word" ++ x }
unfolding without_blanks is_blank
word_bare at x = ap (λ at. record { at = at; text = codes ".word" ++ x }) (let e : at + 0 ≡ at = omega arith in e)

word_unlabelled : (at a b c d w : ℕ) → IsHex4 a b c d w → behind_mark 58 (record { at = at; text = codes ".word" ++ 32 ∷ hex a b c d }) ≡ None
unfolding behind_mark
word_unlabelled at a b c d w h = rw (h.first.colon, h.second.colon, h.third.colon, h.fourth.colon) refl

org_front : (at a b c d w : ℕ) → IsHex4 a b c d w → before_mark 59 (record { at = at; text = codes ".org" ++ 32 ∷ hex a b c d })
    ≡ record { at = at; text = codes ".org" ++ 32 ∷ hex a b c d }
unfolding before_mark
org_front at a b c d w h = rw (h.first.comment, h.second.comment, h.third.comment, h.fourth.comment) refl

org_bare : (at : ℕ) (x : List ℕ) → without_blanks (record { at = at; text = codes ".org" ++ x }) ≡ record { at = at; text = codes ".org" ++ x }
unfolding without_blanks is_blank
org_bare at x = ap (λ at. record { at = at; text = codes ".org" ++ x }) (let e : at + 0 ≡ at = omega arith in e)

org_unlabelled : (at a b c d w : ℕ) → IsHex4 a b c d w → behind_mark 58 (record { at = at; text = codes ".org" ++ 32 ∷ hex a b c d }) ≡ None
unfolding behind_mark
org_unlabelled at a b c d w h = rw (h.first.colon, h.second.colon, h.third.colon, h.fourth.colon) refl

-- a line with `.word` and one number
pub word_line_says : (at a b c d w : ℕ) → IsHex4 a b c d w → line_of (record { at = at; text = codes ".word" ++ 32 ∷ hex a b c d })
    ≡ Some (record { label = None; statement = words (number w ∷ []) })
word_line_says at a b c d w h =
    let p : Located = record { at = at; text = codes ".word" ++ 32 ∷ hex a b c d } in
    plain_line p (word_front at a b c d w h) (word_bare at (32 ∷ hex a b c d)) (word_unlabelled at a b c d w h)
    ∙ ap (with_label None) (word_statement at (hex a b c d) ∙ word_says (record { at = at + 5; text = 32 ∷ hex a b c d }) w (one_part (at + 5) a b c d w h)
    (hex_word_value (at + 5) a b c d w h))

-- a line with `.org` and one number
pub org_line_says : (at a b c d w : ℕ) → IsHex4 a b c d w → line_of (record { at = at; text = codes ".org" ++ 32 ∷ hex a b c d })
    ≡ Some (record { label = None; statement = org (number w) })
org_line_says at a b c d w h =
    let p : Located = record { at = at; text = codes ".org" ++ 32 ∷ hex a b c d } in
    plain_line p (org_front at a b c d w h) (org_bare at (32 ∷ hex a b c d)) (org_unlabelled at a b c d w h)
    ∙ ap (with_label None) (org_statement at (hex a b c d) ∙ org_says (record { at = at + 4; text = 32 ∷ hex a b c d }) w (hex_word_value (at + 4) a b c d w h))
