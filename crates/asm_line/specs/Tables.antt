-- The names of operations, in tables. Emulated operations are written by their core text (SLAU144, CPU chapter, emulated instructions).
use Rattle.std.specs.Prelude.{ℕ, List, [], ◌∷◌, codes, Option}
use Rattle.msp_isa.specs.declared.instructions.TwoOp.{TwoOp}
use Rattle.msp_isa.specs.declared.instructions.TwoOp.TheVariants.{Mov, Add, Addc, Subc, Sub, Cmp, Dadd, Bit, Bic, Bis, Xor, And}
use Rattle.msp_isa.specs.declared.instructions.Condition.{Condition}
use Rattle.msp_isa.specs.declared.instructions.Condition.TheVariants as condition
use Rattle.asm_line.specs.declared.tables.OneName.{OneName}
use Rattle.asm_line.specs.declared.tables.OneName.TheVariants as one
use Rattle.asm_line.specs.Values.{look_up}

-- the operations of two operands
unfoldable pub two_named : List ℕ → Option TwoOp
two_named name = look_up (
    (codes "mov", Mov) ∷ (codes "add", Add) ∷ (codes "addc", Addc) ∷ (codes "subc", Subc) ∷ (codes "sub", Sub) ∷ (codes "cmp", Cmp)
    ∷ (codes "dadd", Dadd) ∷ (codes "bit", Bit) ∷ (codes "bic", Bic) ∷ (codes "bis", Bis) ∷ (codes "xor", Xor) ∷ (codes "and", And)
    ∷ []) name

-- the operations of one operand
unfoldable pub one_named : List ℕ → Option OneName
one_named name = look_up (
    (codes "rrc", one.Rrc) ∷ (codes "swpb", one.Swpb) ∷ (codes "rra", one.Rra) ∷ (codes "sxt", one.Sxt)
    ∷ (codes "push", one.Push) ∷ (codes "call", one.Call)
    ∷ []) name

-- the jumps
unfoldable pub condition_named : List ℕ → Option Condition
condition_named name = look_up (
    (codes "jne", condition.NotEqual) ∷ (codes "jnz", condition.NotEqual) ∷ (codes "jeq", condition.Equal) ∷ (codes "jz", condition.Equal)
    ∷ (codes "jnc", condition.NoCarry) ∷ (codes "jlo", condition.NoCarry) ∷ (codes "jc", condition.Carry) ∷ (codes "jhs", condition.Carry)
    ∷ (codes "jn", condition.Negative) ∷ (codes "jge", condition.GreaterOrEqual) ∷ (codes "jl", condition.Less) ∷ (codes "jmp", condition.Always)
    ∷ []) name

-- an operand of a core text: the one that is written, or a text
pub data OperandText : Type 0 where
  written : OperandText
  fixed : List ℕ → OperandText

-- the core text of an emulated operation: an operation and its two operands
pub record CoreText : Type 0 where
  pub op : TwoOp
  pub source : OperandText
  pub destination : OperandText

-- a core text from its columns
abbrev pub core : TwoOp → OperandText → OperandText → CoreText
core op s d = record { op = op; source = s; destination = d }

-- the emulated operations
unfoldable pub emulated_named : List ℕ → Option CoreText
emulated_named name = look_up (
    (codes "adc", core Addc (fixed (codes "#0")) written)
    ∷ (codes "br", core Mov written (fixed (codes "pc")))
    ∷ (codes "clr", core Mov (fixed (codes "#0")) written)
    ∷ (codes "clrc", core Bic (fixed (codes "#1")) (fixed (codes "sr")))
    ∷ (codes "clrz", core Bic (fixed (codes "#2")) (fixed (codes "sr")))
    ∷ (codes "clrn", core Bic (fixed (codes "#4")) (fixed (codes "sr")))
    ∷ (codes "dadc", core Dadd (fixed (codes "#0")) written)
    ∷ (codes "dec", core Sub (fixed (codes "#1")) written)
    ∷ (codes "decd", core Sub (fixed (codes "#2")) written)
    ∷ (codes "dint", core Bic (fixed (codes "#8")) (fixed (codes "sr")))
    ∷ (codes "eint", core Bis (fixed (codes "#8")) (fixed (codes "sr")))
    ∷ (codes "inc", core Add (fixed (codes "#1")) written)
    ∷ (codes "incd", core Add (fixed (codes "#2")) written)
    ∷ (codes "inv", core Xor (fixed (codes "#-1")) written)
    ∷ (codes "nop", core Mov (fixed (codes "#0")) (fixed (codes "r3")))
    ∷ (codes "pop", core Mov (fixed (codes "@sp+")) written)
    ∷ (codes "ret", core Mov (fixed (codes "@sp+")) (fixed (codes "pc")))
    ∷ (codes "rla", core Add written written)
    ∷ (codes "rlc", core Addc written written)
    ∷ (codes "sbc", core Subc (fixed (codes "#0")) written)
    ∷ (codes "setc", core Bis (fixed (codes "#1")) (fixed (codes "sr")))
    ∷ (codes "setz", core Bis (fixed (codes "#2")) (fixed (codes "sr")))
    ∷ (codes "setn", core Bis (fixed (codes "#4")) (fixed (codes "sr")))
    ∷ (codes "tst", core Cmp (fixed (codes "#0")) written)
    ∷ []) name
