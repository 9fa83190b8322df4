-- The value of up to eight hexadecimal digits.
use Rattle.std.proofs.Common.{◌≡◌, ◌<◌, ◌^◌, ℕ, suc, zero, ◌+◌, ◌*◌, List, length, drop, get_or, drop-cons, add-one, arith, ap, sym, ◌∙◌, Some}
use Rattle.text_parts.specs.Hex.{hex_digit}
use Rattle.image_text.specs.Line.{hex_value, ◌>>?◌}

-- one digit more stays below 16 to the number of digits
pub digit_more : (k v d : ℕ) → k < 8 → v < 16 ^ k → d < 16 → (16 * v + d < 16 ^ (k + 1)) × (16 * v + d < 2 ^ 32)
digit_more zero v d h l m = (omega arith, omega arith)
digit_more (suc zero) v d h l m = (omega arith, omega arith)
digit_more (suc (suc zero)) v d h l m = (omega arith, omega arith)
digit_more (suc (suc (suc zero))) v d h l m = (omega arith, omega arith)
digit_more (suc (suc (suc (suc zero)))) v d h l m = (omega arith, omega arith)
digit_more (suc (suc (suc (suc (suc zero))))) v d h l m = (omega arith, omega arith)
digit_more (suc (suc (suc (suc (suc (suc zero)))))) v d h l m = (omega arith, omega arith)
digit_more (suc (suc (suc (suc (suc (suc (suc zero))))))) v d h l m = (omega arith, omega arith)
digit_more (suc (suc (suc (suc (suc (suc (suc (suc k)))))))) v d h l m = absurd (omega arith)

-- the value goes on behind a digit
pub value_more : (v i x : ℕ) (ds : List ℕ) → i < length ds → hex_digit (get_or ds i 0) ≡ Some x
    → hex_value (16 * v + x) (drop (i + 1) ds) ≡ hex_value v (drop i ds)
value_more v i x ds h e = sym (ap (hex_value v) (drop-cons ds i 0 h) ∙ ap (λ o. o >>? λ x. hex_value (16 * v + x) (drop (suc i) ds)) e
    ∙ ap (λ j. hex_value (16 * v + x) (drop j ds)) (sym (add-one i)))
