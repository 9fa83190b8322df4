-- The operands of an instruction, as they are written (SLAU144, CPU chapter, addressing modes).
use Rattle.std.specs.Prelude.{ℕ, ◌-◌, ◌==◌, ◌&&◌, nat_lt, if◌then◌else◌, List, [], ◌∷◌, length, take, slice_index, Option, Some, None}
use Rattle.msp_isa.specs.declared.registers.IndexRegister.{IndexRegister}
use Rattle.msp_isa.specs.declared.registers.SourceRegister.{SourceRegister}
use Rattle.msp_isa.specs.declared.registers.SourceRegister.TheVariants as readable
use Rattle.msp_isa.specs.declared.registers.IndirectRegister.{IndirectRegister}
use Rattle.msp_isa.specs.declared.registers.IndirectRegister.TheVariants as pointer
use Rattle.msp_isa.specs.declared.registers.Reg.{Reg}
use Rattle.msp_isa.specs.declared.registers.Reg.TheVariants.{Pc, Sr, R3, Index}
use Rattle.msp_isa.specs.declared.operands.Konst.{Konst}
use Rattle.msp_isa.specs.declared.operands.Konst.TheVariants as konst
use Rattle.msp_isa.specs.declared.operands.Operand.TheVariants as operand
use Rattle.msp_isa.specs.declared.operands.Src.{Src}
use Rattle.msp_isa.specs.declared.operands.Src.TheVariants as src
use Rattle.msp_isa.specs.declared.operands.Dst.{Dst}
use Rattle.msp_isa.specs.declared.operands.Dst.TheVariants as dst
use Rattle.asm_line.specs.Numbers.{◌>>?◌}
use Rattle.asm_line.specs.Pieces.{Located, behind, before_mark, behind_mark}
use Rattle.asm_line.specs.Values.{ValueMeaning, number, out_of_range, label, here, value_of, register_named}

-- `rN`, `#v`, `v(rN)`, `v`, `&v`, `@rN`, `@rN+`
pub data OperandMeaning : Type 0 where
  register : Reg → OperandMeaning
  immediate : ValueMeaning → OperandMeaning
  indexed : ValueMeaning → Reg → OperandMeaning
  symbolic : ValueMeaning → OperandMeaning
  absolute : ValueMeaning → OperandMeaning
  indirect : Reg → OperandMeaning
  increment : Reg → OperandMeaning

-- a text without its last byte, if that is this one
unfoldable pub without_last : ℕ → List ℕ → Option (List ℕ)
without_last b text = if nat_lt 0 (length text) && (slice_index text (length text - 1) == b) then Some (take (length text - 1) text) else None

-- what stands behind `@`
abbrev pub pointed : List ℕ → Option (List ℕ) → Option OperandMeaning
pointed text None = register_named text >>? λ r. Some (indirect r)
pointed text (Some name) = register_named name >>? λ r. Some (increment r)

-- what stands behind `(`
abbrev pub with_index : Located → Option (List ℕ) → Option OperandMeaning
with_index value None = None
with_index value (Some name) = value_of value >>? λ v. register_named name >>? λ r. Some (indexed v r)

-- a value, with a register in brackets or without
abbrev pub in_memory : Located → Option Located → Option OperandMeaning
in_memory p None = value_of p >>? λ v. Some (symbolic v)
in_memory p (Some rest) = with_index (before_mark 40 p) (without_last 41 rest.text)

-- a register's name, or memory
abbrev pub named : Located → Option Reg → Option OperandMeaning
named p (Some r) = Some (register r)
named p None = in_memory p (behind_mark 40 p)

-- the operand that begins with b
abbrev pub operand_from : Located → List ℕ → Option OperandMeaning
operand_from p [] = None
operand_from p (b ∷ bs) = if b == 35 then (value_of (behind 1 p) >>? λ v. Some (immediate v))
    else (if b == 38 then (value_of (behind 1 p) >>? λ v. Some (absolute v))
    else (if b == 64 then pointed bs (without_last 43 bs)
    else named p (register_named (b ∷ bs))))

-- the operand that a piece writes
unfoldable pub operand_of : Located → Option OperandMeaning
operand_of p = operand_from p p.text

-- the registers that each mode can name
abbrev pub source_register : Reg → Option SourceRegister
source_register Pc = Some readable.Pc
source_register Sr = Some readable.Sr
source_register R3 = None
source_register (Index r) = Some (readable.Index r)

-- those of indexed and increment mode: SP and R4 to R15
abbrev pub index_register : Reg → Option IndexRegister
index_register Pc = None
index_register Sr = None
index_register R3 = None
index_register (Index r) = Some r

-- those of indirect mode: all but SR and R3
abbrev pub indirect_register : Reg → Option IndirectRegister
indirect_register Pc = Some pointer.Pc
indirect_register Sr = None
indirect_register R3 = None
indirect_register (Index r) = Some (pointer.Index r)

-- the constant of a number modulo 65536, if there is one
abbrev pub constant_of : ℕ → Option Konst
constant_of n = if n == 0 then Some konst.Zero
    else (if n == 1 then Some konst.One
    else (if n == 2 then Some konst.Two
    else (if n == 4 then Some konst.Four
    else (if n == 8 then Some konst.Eight
    else (if n == 65535 then Some konst.MinusOne
    else None)))))

-- an operand in which the value is still 0, and the value
abbrev pub Open : Type 0 → Type 0
Open A = A × Option ValueMeaning

-- a constant, or else an extension word
abbrev pub or_word : Option Konst → Src
or_word (Some k) = src.Constant k
or_word None = src.Immediate 0

-- a number becomes a constant where there is one; labels and `$` are always a word
abbrev pub immediate_source : ValueMeaning → Src
immediate_source (number n) = or_word (constant_of n)
immediate_source (out_of_range n) = or_word (constant_of n)
immediate_source (label p) = src.Immediate 0
immediate_source here = src.Immediate 0

-- an operand as a source; R3 gives constants there, and PC and SR are in no index mode
abbrev pub source : OperandMeaning → Option (Open Src)
source (register r) = source_register r >>? λ r. Some (src.Operand (operand.Reg r), None)
source (immediate v) = Some (immediate_source v, Some v)
source (indexed v r) = index_register r >>? λ r. Some (src.Operand (operand.Indexed r 0), Some v)
source (symbolic v) = Some (src.Operand (operand.Symbolic 0), Some v)
source (absolute v) = Some (src.Operand (operand.Absolute 0), Some v)
source (indirect r) = indirect_register r >>? λ r. Some (src.Operand (operand.Indirect r), None)
source (increment r) = index_register r >>? λ r. Some (src.Operand (operand.Increment r), None)

-- an operand as a destination
abbrev pub destination : OperandMeaning → Option (Open Dst)
destination (register r) = Some (dst.Reg r, None)
destination (immediate v) = None
destination (indexed v r) = index_register r >>? λ r. Some (dst.Indexed r 0, Some v)
destination (symbolic v) = Some (dst.Symbolic 0, Some v)
destination (absolute v) = Some (dst.Absolute 0, Some v)
destination (indirect r) = None
destination (increment r) = None

-- what a piece writes as a source and as a destination
unfoldable pub source_of : Located → Option (Open Src)
source_of p = operand_of p >>? source

-- what a piece writes as a destination
unfoldable pub destination_of : Located → Option (Open Dst)
destination_of p = operand_of p >>? destination
