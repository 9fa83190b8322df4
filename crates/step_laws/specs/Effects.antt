-- Laws of the effects of instructions (SLAU049 and SLAU144, CPU chapter, "Instruction Set").
use Rattle.std.specs.Prelude.{◌≡◌, ◌≢◌, ℕ, ◌+◌, ◌*◌, ◌%◌, ◌<◌, true, length, None}
use Rattle.msp_step.specs.alp_words.declared.Width.{Width}
use Rattle.msp_step.specs.alp_words.Words.{operand}
use Rattle.msp_step.specs.msp_isa.declared.operands.Operand.{Operand}
use Rattle.msp_step.specs.msp_isa.declared.operands.Operand.TheVariants as mode
use Rattle.msp_step.specs.msp_isa.declared.operands.Src.{Src}
use Rattle.msp_step.specs.msp_isa.declared.operands.Src.TheVariants as src
use Rattle.msp_step.specs.msp_isa.declared.registers.SourceRegister.TheVariants as source_register
use Rattle.msp_step.specs.msp_isa.declared.operands.Dst.{Dst}
use Rattle.msp_step.specs.msp_isa.declared.operands.Dst.TheVariants as dst
use Rattle.msp_step.specs.msp_isa.declared.registers.Reg.{Reg}
use Rattle.msp_step.specs.msp_isa.declared.registers.Reg.TheVariants as reg
use Rattle.msp_step.specs.msp_isa.declared.instructions.TwoOp.{TwoOp}
use Rattle.msp_step.specs.msp_isa.declared.instructions.TwoOp.TheVariants.{Mov}
use Rattle.msp_step.specs.msp_isa.declared.instructions.OneOp.TheVariants as one
use Rattle.msp_step.specs.msp_isa.declared.instructions.Condition.{Condition}
use Rattle.msp_step.specs.msp_isa.declared.instructions.Instr.{Instr}
use Rattle.msp_step.specs.msp_isa.declared.instructions.Instr.TheVariants as instr
use Rattle.msp_step.specs.msp_isa.Encoding.{encoding, index_number, register_number, source_row, destination_row}
use Rattle.msp_step.specs.declared.operand.Location.TheVariants.{Register}
use Rattle.msp_step.specs.Registers.{Registers, with_register}
use Rattle.msp_step.specs.Access.{BusModel, Access, Completed, Faulted, then_do}
use Rattle.msp_step.specs.Effect.{word_sum, source, store, destination_location, after_source, operated, flags_of, writes_destination}
use Rattle.msp_step.specs.Step.{effect}

-- a fact of what an access gives, where it is served
abbrev pub Gives : {S A : Type 0} → Access S A → (A → Type 0) → Type 0
Gives (Completed x s) P = P x
Gives (Faulted e a s) P = Unit {0}

-- CMP and BIT write nothing to memory
abbrev pub ComparesOnly : {S : Type 0} → BusModel S → TwoOp → Type 0
ComparesOnly {S} bus op = (w : Width) (x : Src) (d : Dst) (r : Registers) (s : S)
    → Gives (effect bus (instr.Two op w x d) r s) (λ y. y.1 ≡ None)

-- MOV is the read of its source and the write of its destination, which it doesn't read
abbrev pub MovesOnly : {S : Type 0} → BusModel S → Type 0
MovesOnly {S} bus = (w : Width) (x : Src) (d : Dst) (r : Registers) (s : S)
    → let first = word_sum (r 0) 2 in
    let extension = word_sum first (2 * length (source_row x).extension) in
    effect bus (instr.Two Mov w x d) r s ≡ then_do (source bus (with_register r 0 first) w x s) (λ y t.
    let moved = with_register y.1 0 (word_sum extension (2 * length (destination_row d).extension)) in
    store bus moved w (destination_location moved extension d) y.0 t)

-- a result that is written to SR stays there, whatever the flags
abbrev pub StatusIsTheResult : {S : Type 0} → BusModel S → Type 0
StatusIsTheResult {S} bus = (op : TwoOp) (w : Width) (v : ℕ) (r : Registers) (s : S)
    → writes_destination op ≡ true
    → Gives (after_source bus op w (Register reg.Sr) v r s)
    (λ y. y.0 2 ≡ (operated op w (operand w (r 2)) v (flags_of (r 2))).value % 0x200)

-- an instruction keeps SR: the flags and the control bits
abbrev pub KeepsStatus : {S : Type 0} → BusModel S → Instr → Type 0
KeepsStatus {S} bus i = (r : Registers) (s : S) → Gives (effect bus i r s) (λ y. y.0 2 ≡ r 2)

-- jumps, PUSH and CALL keep SR
pub record StatusStays {S : Type 0} (bus : BusModel S) : Type 0 where
  pub jump : (c : Condition) (o : ℕ) → KeepsStatus bus (instr.Jump c o)
  pub push : (w : Width) (x : Src) → KeepsStatus bus (instr.One (one.Push w x))
  pub call : (x : Src) → KeepsStatus bus (instr.One (one.Call x))

-- a destination other than this register
abbrev pub IsNot : Reg → Dst → Type 0
IsNot n (dst.Reg m) = m ≢ n
IsNot n (dst.Indexed b x) = Unit {0}
IsNot n (dst.Symbolic x) = Unit {0}
IsNot n (dst.Absolute a) = Unit {0}

-- MOV, BIC and BIS keep SR where it isn't their destination
abbrev pub CopiesKeepStatus : {S : Type 0} → BusModel S → TwoOp → Type 0
CopiesKeepStatus bus op = (w : Width) (x : Src) (d : Dst) → IsNot reg.Sr d → KeepsStatus bus (instr.Two op w x d)

-- SWPB keeps SR where it isn't its operand
abbrev pub SwapKeepsStatus : {S : Type 0} → BusModel S → Type 0
SwapKeepsStatus bus = (o : Operand) → o ≢ mode.Reg source_register.Sr → KeepsStatus bus (instr.One (one.Swpb o))

-- an instruction moves PC by its length
abbrev pub MovesOn : {S : Type 0} → BusModel S → Instr → Type 0
MovesOn {S} bus i = (r : Registers) (s : S) → r 0 % 2 ≡ 0
    → Gives (effect bus i r s) (λ y. y.0 0 ≡ (r 0 + 2 * length (encoding i)) % 0x10000)

-- an instruction moves PC by its length, where PC isn't its destination
pub record MovesByLength {S : Type 0} (bus : BusModel S) : Type 0 where
  pub two : (op : TwoOp) (w : Width) (x : Src) (d : Dst) → IsNot reg.Pc d → MovesOn bus (instr.Two op w x d)
  pub rrc : (w : Width) (o : Operand) → o ≢ mode.Reg source_register.Pc → MovesOn bus (instr.One (one.Rrc w o))
  pub rra : (w : Width) (o : Operand) → o ≢ mode.Reg source_register.Pc → MovesOn bus (instr.One (one.Rra w o))
  pub swpb : (o : Operand) → o ≢ mode.Reg source_register.Pc → MovesOn bus (instr.One (one.Swpb o))
  pub sxt : (o : Operand) → o ≢ mode.Reg source_register.Pc → MovesOn bus (instr.One (one.Sxt o))
  pub push : (w : Width) (x : Src) → MovesOn bus (instr.One (one.Push w x))

-- an operand that doesn't raise this register
abbrev pub DoesNotRaise : ℕ → Operand → Type 0
DoesNotRaise n (mode.Increment b) = n ≢ index_number b
DoesNotRaise n (mode.Reg h) = Unit {0}
DoesNotRaise n (mode.Indexed b x) = Unit {0}
DoesNotRaise n (mode.Symbolic x) = Unit {0}
DoesNotRaise n (mode.Absolute a) = Unit {0}
DoesNotRaise n (mode.Indirect p) = Unit {0}

-- a source that doesn't raise this register
abbrev pub SourceDoesNotRaise : ℕ → Src → Type 0
SourceDoesNotRaise n (src.Operand o) = DoesNotRaise n o
SourceDoesNotRaise n (src.Immediate v) = Unit {0}
SourceDoesNotRaise n (src.Constant k) = Unit {0}

-- a destination other than the register of this number
abbrev pub DoesNotWrite : ℕ → Dst → Type 0
DoesNotWrite n (dst.Reg m) = n ≢ register_number m
DoesNotWrite n (dst.Indexed b x) = Unit {0}
DoesNotWrite n (dst.Symbolic x) = Unit {0}
DoesNotWrite n (dst.Absolute a) = Unit {0}

-- an instruction of two operands keeps each register but PC, SR, the one that it raises and the one that it writes
abbrev pub RegistersStay : {S : Type 0} → BusModel S → Type 0
RegistersStay {S} bus = (n : ℕ) (op : TwoOp) (w : Width) (x : Src) (d : Dst) → n ≢ 0 → n ≢ 2 → SourceDoesNotRaise n x → DoesNotWrite n d
    → (r : Registers) (s : S) → Gives (effect bus (instr.Two op w x d) r s) (λ y. y.0 n ≡ r n)

-- what each register file keeps
pub record IsValid (r : Registers) : Type 0 where
  pub pc : r 0 % 2 ≡ 0
  pub sp : r 1 % 2 ≡ 0
  pub sr : r 2 < 0x200
  pub r3 : r 3 ≡ 0

-- valid registers stay valid
abbrev pub StaysValid : {S : Type 0} → BusModel S → Type 0
StaysValid {S} bus = (i : Instr) (r : Registers) (s : S) → IsValid r → Gives (effect bus i r s) (λ y. IsValid y.0)
