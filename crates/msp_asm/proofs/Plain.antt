-- The bytes of a listing's lines: no line feed and no carriage return is among them, and numbers are four hexadecimal digits.
use Rattle.std.proofs.Common.{◌≡◌, ◌<◌, ◌≤◌, ℕ, ◌+◌, ◌/◌, ◌%◌, ◌==◌, List, [], ◌∷◌, ◌++◌, length, refl, ap, arith, if◌then◌else◌, nat_lt, Bool, true, false}
use Rattle.std.proofs.Common.{Some}
use Rattle.std.specs.Prelude.{codes}
use Rattle.std.proofs.lemmas.Bool.Decides.{nat_tests}
use Rattle.text_parts.specs.Lines.{without_return}
use Rattle.text_parts.specs.Hex.{upper_digit, upper_hex}
use Rattle.text_parts.proofs.Interface.{not_blank, upper_inked, digit_upper}
use Rattle.msp_isa.specs.alp_words.declared.Width.{Width}
use Rattle.msp_isa.specs.alp_words.declared.Width.TheVariants.{Word, Byte}
use Rattle.msp_isa.specs.Constant.{constant_value}
use Rattle.msp_isa.specs.Encoding.{source_row}
use Rattle.msp_isa.specs.declared.registers.IndexRegister.{IndexRegister}
use Rattle.msp_isa.specs.declared.registers.IndexRegister.TheVariants.{Sp, R4, R5, R6, R7, R8, R9, R10, R11, R12, R13, R14, R15}
use Rattle.msp_isa.specs.declared.registers.SourceRegister.{SourceRegister}
use Rattle.msp_isa.specs.declared.registers.SourceRegister.TheVariants as readable
use Rattle.msp_isa.specs.declared.registers.IndirectRegister.{IndirectRegister}
use Rattle.msp_isa.specs.declared.registers.IndirectRegister.TheVariants as pointer
use Rattle.msp_isa.specs.declared.registers.Reg.{Reg}
use Rattle.msp_isa.specs.declared.registers.Reg.TheVariants as reg
use Rattle.msp_isa.specs.declared.operands.Operand.{Operand}
use Rattle.msp_isa.specs.declared.operands.Operand.TheVariants as operand
use Rattle.msp_isa.specs.declared.operands.Src.{Src}
use Rattle.msp_isa.specs.declared.operands.Src.TheVariants as src
use Rattle.msp_isa.specs.declared.operands.Dst.{Dst}
use Rattle.msp_isa.specs.declared.operands.Dst.TheVariants as dst
use Rattle.msp_isa.specs.declared.instructions.TwoOp.{TwoOp}
use Rattle.msp_isa.specs.declared.instructions.TwoOp.TheVariants.{Mov, Add, Addc, Subc, Sub, Cmp, Dadd, Bit, Bic, Bis, Xor, And}
use Rattle.msp_isa.specs.declared.instructions.OneOp.{OneOp}
use Rattle.msp_isa.specs.declared.instructions.OneOp.TheVariants.{Rrc, Swpb, Rra, Sxt, Push, Call}
use Rattle.msp_isa.specs.declared.instructions.Condition.{Condition}
use Rattle.msp_isa.specs.declared.instructions.Condition.TheVariants as condition
use Rattle.msp_isa.specs.declared.instructions.Instr.{Instr}
use Rattle.msp_isa.specs.declared.instructions.Instr.TheVariants as instr
use Rattle.image_text.specs.Text.{upper_hex4}
use Rattle.asm_line.specs.Numbers.{digit}
use Rattle.asm_line.specs.Filling.{words_on, jump_target}
use Rattle.asm_line.proofs.Interface.{IsHex, IsHex4, hex}
use Rattle.msp_asm.specs.Written.{number_text, index_text, readable_text, pointer_text, register_text, indexed_text, operand_text, source_text}
use Rattle.msp_asm.specs.Written.{destination_text, two_text, condition_text, width_text, one_text, instr_text}

-- each byte is a blank or a printed character
abbrev pub ArePlain : List ℕ → Type 0
ArePlain [] = Unit {0}
ArePlain (b ∷ bs) = (32 ≤ b) × ArePlain bs

plain_append : (xs ys : List ℕ) → ArePlain xs → ArePlain ys → ArePlain (xs ++ ys)
plain_append [] ys h k = k
plain_append (x ∷ xs) ys h k = (h.0, plain_append xs ys h.1 k)

digit_by : (t : Bool) (d : ℕ) → 32 ≤ (if t then 48 + d else 55 + d)
digit_by true d = omega arith
digit_by false d = omega arith

hex4_plain : (a b c d : ℕ) → 32 ≤ a → 32 ≤ b → 32 ≤ c → 32 ≤ d → ArePlain (hex a b c d)
hex4_plain a b c d h i j k = (omega arith, (omega arith, (h, (i, (j, (k, tt))))))

pub number_is : (w : ℕ) → number_text w ≡ hex (upper_digit (w / 256 / 16)) (upper_digit (w / 256 % 16)) (upper_digit (w % 256 / 16))
    (upper_digit (w % 256 % 16))
unfolding number_text upper_hex4 upper_hex
number_is w = refl

number_plain : (w : ℕ) → ArePlain (number_text w)
number_plain w = rw (number_is w) (hex4_plain _ _ _ _ (digit_by (nat_lt (w / 256 / 16) 10) (w / 256 / 16)) (digit_by (nat_lt (w / 256 % 16) 10) (w / 256 % 16))
    (digit_by (nat_lt (w % 256 / 16) 10) (w % 256 / 16)) (digit_by (nat_lt (w % 256 % 16) 10) (w % 256 % 16)))

below_back : (d : ℕ) → d < 16 → nat_lt d 16 ≡ true
below_back d h = grind (arith, nat_tests)

digit_back : (d : ℕ) → d < 16 → digit 16 (upper_digit d) ≡ Some d
unfolding digit
digit_back d h = rw (digit_upper d h, below_back d h) refl

is_hex : (d : ℕ) → d < 16 → IsHex (upper_digit d) d
is_hex d h = record {
  digit = digit_back d h;
  comment = grind (arith, nat_tests);
  colon = grind (arith, nat_tests);
  comma = grind (arith, nat_tests);
  blank = not_blank (upper_digit d) (upper_inked d h);
}

pub is_hex4 : (w : ℕ) → w < 65536 → IsHex4 (upper_digit (w / 256 / 16)) (upper_digit (w / 256 % 16)) (upper_digit (w % 256 / 16)) (upper_digit (w % 256 % 16)) w
is_hex4 w h = record {
  va = w / 256 / 16;
  vb = w / 256 % 16;
  vc = w % 256 / 16;
  vd = w % 256 % 16;
  first = is_hex (w / 256 / 16) (omega arith);
  second = is_hex (w / 256 % 16) (omega arith);
  third = is_hex (w % 256 / 16) (omega arith);
  fourth = is_hex (w % 256 % 16) (omega arith);
  value = omega arith;
  small = h;
}

index_plain : (r : IndexRegister) → ArePlain (index_text r)
index_plain Sp = (omega arith, (omega arith, tt))
index_plain R4 = (omega arith, (omega arith, tt))
index_plain R5 = (omega arith, (omega arith, tt))
index_plain R6 = (omega arith, (omega arith, tt))
index_plain R7 = (omega arith, (omega arith, tt))
index_plain R8 = (omega arith, (omega arith, tt))
index_plain R9 = (omega arith, (omega arith, tt))
index_plain R10 = (omega arith, (omega arith, (omega arith, tt)))
index_plain R11 = (omega arith, (omega arith, (omega arith, tt)))
index_plain R12 = (omega arith, (omega arith, (omega arith, tt)))
index_plain R13 = (omega arith, (omega arith, (omega arith, tt)))
index_plain R14 = (omega arith, (omega arith, (omega arith, tt)))
index_plain R15 = (omega arith, (omega arith, (omega arith, tt)))

readable_plain : (r : SourceRegister) → ArePlain (readable_text r)
readable_plain readable.Pc = (omega arith, (omega arith, tt))
readable_plain readable.Sr = (omega arith, (omega arith, tt))
readable_plain (readable.Index r) = index_plain r

pointer_plain : (r : IndirectRegister) → ArePlain (pointer_text r)
pointer_plain pointer.Pc = (omega arith, (omega arith, tt))
pointer_plain (pointer.Index r) = index_plain r

register_plain : (r : Reg) → ArePlain (register_text r)
register_plain reg.Pc = (omega arith, (omega arith, tt))
register_plain reg.Sr = (omega arith, (omega arith, tt))
register_plain reg.R3 = (omega arith, (omega arith, tt))
register_plain (reg.Index r) = index_plain r

indexed_plain : (x : ℕ) (r : IndexRegister) → ArePlain (indexed_text x r)
indexed_plain x r = plain_append (number_text x ++ codes "(" ++ index_text r) (codes ")")
    (plain_append (number_text x ++ codes "(") (index_text r) (plain_append (number_text x) (codes "(") (number_plain x) (omega arith, tt)) (index_plain r))
    (omega arith, tt)

operand_plain : (a : ℕ) (o : Operand) → ArePlain (operand_text a o)
unfolding operand_text
operand_plain a (operand.Reg r) = readable_plain r
operand_plain a (operand.Indexed r x) = indexed_plain x r
operand_plain a (operand.Symbolic x) = number_plain ((a + x) % 65536)
operand_plain a (operand.Absolute x) = (omega arith, number_plain x)
operand_plain a (operand.Indirect r) = (omega arith, pointer_plain r)
operand_plain a (operand.Increment r) = (omega arith, plain_append (index_text r) (codes "+") (index_plain r) (omega arith, tt))

source_plain : (a : ℕ) (s : Src) → ArePlain (source_text a s)
source_plain a (src.Operand o) = operand_plain a o
source_plain a (src.Immediate n) = (omega arith, number_plain n)
source_plain a (src.Constant k) = (omega arith, number_plain (constant_value k))

destination_plain : (a : ℕ) (d : Dst) → ArePlain (destination_text a d)
unfolding destination_text
destination_plain a (dst.Reg r) = register_plain r
destination_plain a (dst.Indexed r x) = indexed_plain x r
destination_plain a (dst.Symbolic x) = number_plain ((a + x) % 65536)
destination_plain a (dst.Absolute x) = (omega arith, number_plain x)

two_plain : (op : TwoOp) → ArePlain (two_text op)
two_plain Mov = (omega arith, (omega arith, (omega arith, tt)))
two_plain Add = (omega arith, (omega arith, (omega arith, tt)))
two_plain Addc = (omega arith, (omega arith, (omega arith, (omega arith, tt))))
two_plain Subc = (omega arith, (omega arith, (omega arith, (omega arith, tt))))
two_plain Sub = (omega arith, (omega arith, (omega arith, tt)))
two_plain Cmp = (omega arith, (omega arith, (omega arith, tt)))
two_plain Dadd = (omega arith, (omega arith, (omega arith, (omega arith, tt))))
two_plain Bit = (omega arith, (omega arith, (omega arith, tt)))
two_plain Bic = (omega arith, (omega arith, (omega arith, tt)))
two_plain Bis = (omega arith, (omega arith, (omega arith, tt)))
two_plain Xor = (omega arith, (omega arith, (omega arith, tt)))
two_plain And = (omega arith, (omega arith, (omega arith, tt)))

condition_plain : (c : Condition) → ArePlain (condition_text c)
condition_plain condition.NotEqual = (omega arith, (omega arith, (omega arith, tt)))
condition_plain condition.Equal = (omega arith, (omega arith, (omega arith, tt)))
condition_plain condition.NoCarry = (omega arith, (omega arith, (omega arith, tt)))
condition_plain condition.Carry = (omega arith, (omega arith, tt))
condition_plain condition.Negative = (omega arith, (omega arith, tt))
condition_plain condition.GreaterOrEqual = (omega arith, (omega arith, (omega arith, tt)))
condition_plain condition.Less = (omega arith, (omega arith, tt))
condition_plain condition.Always = (omega arith, (omega arith, (omega arith, tt)))

width_plain : (w : Width) → ArePlain (width_text w)
width_plain Word = tt
width_plain Byte = (omega arith, (omega arith, tt))

-- a name, a suffix and a blank, and what stands behind them
named_plain : (name rest : List ℕ) (w : Width) → ArePlain name → ArePlain rest → ArePlain (name ++ width_text w ++ codes " " ++ rest)
named_plain name rest w h k = plain_append (name ++ width_text w ++ codes " ") rest
    (plain_append (name ++ width_text w) (codes " ") (plain_append name (width_text w) h (width_plain w)) (omega arith, tt)) k

one_plain : (a : ℕ) (op : OneOp) → ArePlain (one_text a op)
one_plain a (Rrc w o) = named_plain (codes "rrc") (operand_text a o) w (omega arith, (omega arith, (omega arith, tt))) (operand_plain a o)
one_plain a (Swpb o) =
    plain_append (codes "swpb ") (operand_text a o) (omega arith, (omega arith, (omega arith, (omega arith, (omega arith, tt))))) (operand_plain a o)
one_plain a (Rra w o) = named_plain (codes "rra") (operand_text a o) w (omega arith, (omega arith, (omega arith, tt))) (operand_plain a o)
one_plain a (Sxt o) = plain_append (codes "sxt ") (operand_text a o) (omega arith, (omega arith, (omega arith, (omega arith, tt)))) (operand_plain a o)
one_plain a (Push w s) = named_plain (codes "push") (source_text a s) w (omega arith, (omega arith, (omega arith, (omega arith, tt)))) (source_plain a s)
one_plain a (Call s) =
    plain_append (codes "call ") (source_text a s) (omega arith, (omega arith, (omega arith, (omega arith, (omega arith, tt))))) (source_plain a s)

-- an instruction's text
pub instr_plain : (a : ℕ) (i : Instr) → ArePlain (instr_text a i)
unfolding instr_text
instr_plain a (instr.Two op w s d) =
    let source : List ℕ = source_text (words_on 1 a) s in
    let destination : List ℕ = destination_text (words_on (1 + length (source_row s).extension) a) d in
    plain_append (two_text op ++ width_text w ++ codes " " ++ source ++ codes ",") destination
    (plain_append (two_text op ++ width_text w ++ codes " " ++ source) (codes ",")
    (named_plain (two_text op) source w (two_plain op) (source_plain (words_on 1 a) s)) (omega arith, tt))
    (destination_plain (words_on (1 + length (source_row s).extension) a) d)
instr_plain a (instr.One op) = one_plain (words_on 1 a) op
instr_plain a (instr.Jump c bits) = plain_append (condition_text c ++ codes " ") (number_text (jump_target a bits))
    (plain_append (condition_text c) (codes " ") (condition_plain c) (omega arith, tt)) (number_plain (jump_target a bits))
instr_plain a instr.Reti = (omega arith, (omega arith, (omega arith, (omega arith, tt))))

pub word_plain : (w : ℕ) → ArePlain (codes ".word " ++ number_text w)
word_plain w =
    plain_append (codes ".word ") (number_text w) (omega arith, (omega arith, (omega arith, (omega arith, (omega arith, (omega arith, tt)))))) (number_plain w)

pub org_plain : (w : ℕ) → ArePlain (codes ".org " ++ number_text w)
org_plain w = plain_append (codes ".org ") (number_text w) (omega arith, (omega arith, (omega arith, (omega arith, (omega arith, tt))))) (number_plain w)

-- a plain line ends in no carriage return
pub plain_bare : (l : List ℕ) → ArePlain l → without_return l ≡ l
plain_bare [] h = refl
plain_bare (b ∷ []) h = let t : (b == 13) ≡ false = (let low = h.0 in grind (arith, nat_tests)) in rw t refl
plain_bare (b ∷ c ∷ bs) h = ap (λ r. b ∷ r) (plain_bare (c ∷ bs) h.1)
