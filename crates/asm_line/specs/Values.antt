-- Values, labels and registers, as operands name them.
use Rattle.std.specs.Prelude.{ℕ, ◌-◌, ◌%◌, ◌==◌, ◌&&◌, ◌||◌, Bool, false, not, nat_le, if◌then◌else◌, List, [], ◌∷◌, length, codes, Option, Some, None, is_none}
use Rattle.std.specs.List.{list_all}
use Rattle.std.specs.Str.{str_eq_ignore_ascii_case}
use Rattle.msp_isa.specs.declared.registers.IndexRegister.TheVariants.{Sp, R4, R5, R6, R7, R8, R9, R10, R11, R12, R13, R14, R15}
use Rattle.msp_isa.specs.declared.registers.Reg.{Reg}
use Rattle.msp_isa.specs.declared.registers.Reg.TheVariants.{Pc, Sr, R3, Index}
use Rattle.asm_line.specs.declared.numbers.Numeral.{Numeral}
use Rattle.asm_line.specs.Numbers.{number_of}
use Rattle.asm_line.specs.Pieces.{Located}

-- a number from -32768 to 65535, modulo 65536; another number, modulo 65536; a label; or `$`, the address of the item
pub data ValueMeaning : Type 0 where
  number : ℕ → ValueMeaning
  out_of_range : ℕ → ValueMeaning
  label : Located → ValueMeaning
  here : ValueMeaning

-- what stands at a name in a table, whose first column is in lower case; the name may be in either case
abbrev pub look_up : {A : Type 0} → List (List ℕ × A) → List ℕ → Option A
look_up [] name = None
look_up (row ∷ rows) name = if str_eq_ignore_ascii_case name row.0 then Some row.1 else look_up rows name

-- the names of the registers
unfoldable pub register_named : List ℕ → Option Reg
register_named name = look_up (
    (codes "pc", Pc) ∷ (codes "sp", Index Sp) ∷ (codes "sr", Sr)
    ∷ (codes "r0", Pc) ∷ (codes "r1", Index Sp) ∷ (codes "r2", Sr) ∷ (codes "r3", R3)
    ∷ (codes "r4", Index R4) ∷ (codes "r5", Index R5) ∷ (codes "r6", Index R6) ∷ (codes "r7", Index R7)
    ∷ (codes "r8", Index R8) ∷ (codes "r9", Index R9) ∷ (codes "r10", Index R10) ∷ (codes "r11", Index R11)
    ∷ (codes "r12", Index R12) ∷ (codes "r13", Index R13) ∷ (codes "r14", Index R14) ∷ (codes "r15", Index R15)
    ∷ []) name

-- a decimal digit
unfoldable pub is_digit : ℕ → Bool
is_digit b = nat_le 48 b && nat_le b 57

-- a letter or `_`
unfoldable pub is_letter : ℕ → Bool
is_letter b = (nat_le 97 b && nat_le b 122) || ((nat_le 65 b && nat_le b 90) || (b == 95))

-- a letter, `_` or a digit
unfoldable pub is_name_byte : ℕ → Bool
is_name_byte b = is_letter b || is_digit b

-- whether a letter or `_` comes first
abbrev pub begins_letter : List ℕ → Bool
begins_letter [] = false
begins_letter (b ∷ bs) = is_letter b

-- a name of at most 31 bytes that is no register's
unfoldable pub is_label : List ℕ → Bool
is_label text = begins_letter text && (nat_le (length text) 31 && (list_all is_name_byte text && is_none (register_named text)))

-- a number without a sign is at most 65535
abbrev pub unsigned : Option Numeral → Option ValueMeaning
unsigned None = None
unsigned (Some n) = Some (if n.large then out_of_range n.residue else number n.residue)

-- a number behind `-` is at most 32768
abbrev pub negative : Option Numeral → Option ValueMeaning
negative None = None
negative (Some n) = Some (if n.large || not (nat_le n.residue 32768) then out_of_range ((65536 - n.residue) % 65536) else number ((65536 - n.residue) % 65536))

-- a number, a label or `$`
abbrev pub value_at : ℕ → List ℕ → Option ValueMeaning
value_at at [] = None
value_at at (b ∷ bs) = if (b == 36) && nat_le (length bs) 0 then Some here
    else (if b == 45 then negative (number_of bs)
    else (if is_digit b then unsigned (number_of (b ∷ bs))
    else (if is_label (b ∷ bs) then Some (label (record { at = at; text = b ∷ bs })) else None)))

-- the value that a piece writes; nothing where it writes none
unfoldable pub value_of : Located → Option ValueMeaning
value_of p = value_at p.at p.text
