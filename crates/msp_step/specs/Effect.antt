-- The effect of an instruction (SLAU049 and SLAU144, CPU chapter, addressing modes and instruction set): the source operand with its
-- increment, then the destination's address and operand, then the flags, then the one write.
use Rattle.std.specs.Prelude.{ℕ, ◌+◌, ◌-◌, ◌*◌, ◌/◌, ◌%◌, Bool, true, false, not, ◌==◌, if◌then◌else◌, bit_and, bit_or, length, Option, Some, None}
use Rattle.alp_words.specs.declared.Width.{Width}
use Rattle.alp_words.specs.declared.Width.TheVariants.{Word, Byte}
use Rattle.alp_words.specs.declared.Flags.{Flags}
pub use Rattle.alp_words.specs.Words.{word_sum}
use Rattle.alp_words.specs.Words.{bit, same, operand, sum_of, difference_of, decimal_of, and_of, xor_of, rrc_of, rra_of, swapped, sxt_of}
use Rattle.msp_isa.specs.declared.registers.SourceRegister.{SourceRegister}
use Rattle.msp_isa.specs.declared.registers.SourceRegister.TheVariants as source_register
use Rattle.msp_isa.specs.declared.registers.Reg.{Reg}
use Rattle.msp_isa.specs.declared.registers.Reg.TheVariants as reg
use Rattle.msp_isa.specs.declared.operands.Operand.{Operand}
use Rattle.msp_isa.specs.declared.operands.Operand.TheVariants as mode
use Rattle.msp_isa.specs.declared.operands.Src.{Src}
use Rattle.msp_isa.specs.declared.operands.Src.TheVariants as src
use Rattle.msp_isa.specs.declared.operands.Dst.{Dst}
use Rattle.msp_isa.specs.declared.operands.Dst.TheVariants as dst
use Rattle.msp_isa.specs.declared.instructions.TwoOp.{TwoOp}
use Rattle.msp_isa.specs.declared.instructions.TwoOp.TheVariants.{Mov, Add, Addc, Subc, Sub, Cmp, Dadd, Bit, Bic, Bis, Xor, And}
use Rattle.msp_isa.specs.declared.instructions.Condition.{Condition}
use Rattle.msp_isa.specs.declared.instructions.Condition.TheVariants as condition
use Rattle.msp_isa.specs.Encoding.{index_number, indirect_number, register_number, source_row, destination_row, operand_row}
use Rattle.msp_isa.specs.Constant.{constant_value}
use Rattle.msp_step.specs.declared.operand.Location.{Location}
use Rattle.msp_step.specs.declared.operand.Location.TheVariants.{Register, Memory}
use Rattle.msp_step.specs.declared.effect.Modification.{Modification}
use Rattle.msp_step.specs.declared.effect.Modification.TheVariants as change
use Rattle.msp_step.specs.Registers.{Registers, with_register}
use Rattle.msp_step.specs.Access.{BusModel, Access, Completed, then_do, read_at, write_at}

-- a register that can be a source, among all registers
abbrev pub register_of : SourceRegister → Reg
register_of source_register.Pc = reg.Pc
register_of source_register.Sr = reg.Sr
register_of (source_register.Index b) = reg.Index b

-- where an operand is; ext is the address of its own word
abbrev pub operand_location : Registers → ℕ → Operand → Location
operand_location r ext (mode.Reg h) = Register (register_of h)
operand_location r ext (mode.Indexed b x) = Memory (word_sum (r (index_number b)) x)
operand_location r ext (mode.Symbolic x) = Memory (word_sum ext x)
operand_location r ext (mode.Absolute a) = Memory a
operand_location r ext (mode.Indirect p) = Memory (r (indirect_number p))
operand_location r ext (mode.Increment b) = Memory (r (index_number b))

-- where a destination is; ext is the address of its own word
abbrev pub destination_location : Registers → ℕ → Dst → Location
destination_location r ext (dst.Reg n) = Register n
destination_location r ext (dst.Indexed b x) = Memory (word_sum (r (index_number b)) x)
destination_location r ext (dst.Symbolic x) = Memory (word_sum ext x)
destination_location r ext (dst.Absolute a) = Memory a

-- by how much a register goes up: by 1 for a byte, SP always by 2
abbrev pub step_of : Width → ℕ → ℕ
step_of Word n = 2
step_of Byte n = if n == 1 then 2 else 1

-- the registers after an operand: @Rn+ raises its register, the other modes none
abbrev pub incremented : Registers → Width → Operand → Registers
incremented r w (mode.Increment b) = with_register r (index_number b) (word_sum (r (index_number b)) (step_of w (index_number b)))
incremented r w (mode.Reg h) = r
incremented r w (mode.Indexed b x) = r
incremented r w (mode.Symbolic x) = r
incremented r w (mode.Absolute a) = r
incremented r w (mode.Indirect p) = r

-- the operand at a location
abbrev pub load : {S : Type 0} → BusModel S → Registers → Width → Location → S → Access S ℕ
load bus r w (Register n) s = Completed (operand w (r (register_number n))) s
load bus r w (Memory a) s = read_at bus a w s

-- an address, and what was written there
abbrev pub Written : Type 0
Written = ℕ × ℕ

-- the one write: the registers after it, and the write, if it goes to memory
abbrev pub store : {S : Type 0} → BusModel S → Registers → Width → Location → ℕ → S → Access S (Registers × Option Written)
store bus r w (Register n) v s = Completed (with_register r (register_number n) v, None) s
store bus r w (Memory a) v s = write_at bus a w v (r, Some (a, v)) s

-- a source operand, and the registers after its increment. PC stands behind the operation word
abbrev pub source : {S : Type 0} → BusModel S → Registers → Width → Src → S → Access S (ℕ × Registers)
source bus r w (src.Operand p) s = then_do (load bus r w (operand_location r (r 0) p) s) (λ v t. Completed (v, incremented r w p) t)
source bus r w (src.Immediate n) s = Completed (operand w n, r) s
source bus r w (src.Constant k) s = Completed (operand w (constant_value k), r) s

-- the flags N, Z, C and V in a status word (bits 2, 1, 0 and 8)
abbrev pub flags_of : ℕ → Flags
flags_of sr = record { n = (sr / 4 % 2) == 1; z = (sr / 2 % 2) == 1; c = (sr % 2) == 1; v = (sr / 0x100 % 2) == 1 }

-- a status word with these flags; its control bits 3 to 7 stay
abbrev pub status_with : ℕ → Flags → ℕ
status_with sr f = bit f.c + 2 * bit f.z + 4 * bit f.n + sr / 8 % 0x20 * 8 + 0x100 * bit f.v

-- what an operation gives: the result, and the flags, if it changes them
pub record Operated : Type 0 where
  pub value : ℕ
  pub flags : Option Flags

-- a result that leaves the flags
abbrev pub plain : ℕ → Operated
plain v = record { value = v; flags = None }

-- a result with flags
abbrev pub flagged : ℕ × Flags → Operated
flagged p = record { value = p.0; flags = Some p.1 }

-- what each two-operand operation makes of destination d and source s
abbrev pub operated : TwoOp → Width → ℕ → ℕ → Flags → Operated
operated Mov w d s f = plain s
operated Bic w d s f = plain (d - bit_and d s)
operated Bis w d s f = plain (bit_or d s)
operated Add w d s f = flagged (sum_of w d s false)
operated Addc w d s f = flagged (sum_of w d s f.c)
operated Subc w d s f = flagged (difference_of w d s f.c)
operated Sub w d s f = flagged (difference_of w d s true)
operated Cmp w d s f = flagged (difference_of w d s true)
operated Dadd w d s f = flagged (decimal_of w d s f)
operated Bit w d s f = flagged (and_of w d s)
operated And w d s f = flagged (and_of w d s)
operated Xor w d s f = flagged (xor_of w d s)

-- the registers with these flags in SR, if the operation changes them
abbrev pub with_flags : Registers → Option Flags → Registers
with_flags r None = r
with_flags r (Some f) = with_register r 2 (status_with (r 2) f)

-- MOV alone doesn't read its destination
abbrev pub reads_destination : TwoOp → Bool
reads_destination Mov = false
reads_destination _ = true

-- CMP and BIT don't write it
abbrev pub writes_destination : TwoOp → Bool
writes_destination Cmp = false
writes_destination Bit = false
writes_destination _ = true

-- the destination operand, where the operation reads it
abbrev pub destination_operand : {S : Type 0} → Bool → BusModel S → Registers → Width → Location → S → Access S ℕ
destination_operand true bus r w l s = load bus r w l s
destination_operand false bus r w l s = Completed 0 s

-- the one write, where the operation makes one
abbrev pub finish : {S : Type 0} → Bool → BusModel S → Registers → Width → Location → ℕ → S → Access S (Registers × Option Written)
finish true bus r w l v s = store bus r w l v s
finish false bus r w l v s = Completed (r, None) s

-- behind the source: the registers have PC behind the instruction
abbrev pub after_source : {S : Type 0} → BusModel S → TwoOp → Width → Location → ℕ → Registers → S → Access S (Registers × Option Written)
after_source bus op w l v r s =
    then_do (destination_operand (reads_destination op) bus r w l s) (λ d t.
    let o = operated op w d v (flags_of (r 2)) in
    finish (writes_destination op) bus (with_flags r o.flags) w l o.value t)

-- an instruction of two operands: the source with its increment, then the destination, from PC behind the instruction
abbrev pub two_operand_effect : {S : Type 0} → BusModel S → TwoOp → Width → Src → Dst → Registers → S → Access S (Registers × Option Written)
two_operand_effect bus op w sr d r s =
    let first = word_sum (r 0) 2 in
    let ext = word_sum first (2 * length (source_row sr).extension) in
    then_do (source bus (with_register r 0 first) w sr s) (λ x t.
    let moved = with_register x.1 0 (word_sum ext (2 * length (destination_row d).extension)) in
    after_source bus op w (destination_location moved ext d) x.0 moved t)

-- whether a jump's condition is met
abbrev pub is_met : Condition → Flags → Bool
is_met condition.NotEqual f = not f.z
is_met condition.Equal f = f.z
is_met condition.NoCarry f = not f.c
is_met condition.Carry f = f.c
is_met condition.Negative f = f.n
is_met condition.GreaterOrEqual f = same f.n f.v
is_met condition.Less f = not (same f.n f.v)
is_met condition.Always f = true

-- twice the signed offset, modulo 0x10000
abbrev pub distance : ℕ → ℕ
distance o = (2 * o + (if (o / 0x200) == 0 then 0 else 0x10000 - 0x800)) % 0x10000

-- a jump: PC moves behind it, and by the distance where the condition is met
abbrev pub jump_effect : Condition → ℕ → Registers → Registers
jump_effect c o r =
    let next = word_sum (r 0) 2 in
    with_register r 0 (if is_met c (flags_of (r 2)) then word_sum next (distance o) else next)

-- what follows the load of a place
abbrev pub written_back : {S : Type 0} → BusModel S → (Width → ℕ → Flags → Operated) → Width → Location → ℕ → Registers → S
    → Access S (Registers × Option Written)
written_back bus f w l v r t =
    let o = f w v (flags_of (r 2)) in
    store bus (with_flags r o.flags) w l o.value t

-- an operation on one place, which is written where it was read
abbrev pub read_modify_write : {S : Type 0} → BusModel S → (Width → ℕ → Flags → Operated) → Width → Operand → Registers → S
    → Access S (Registers × Option Written)
read_modify_write bus f w p r s =
    let first = word_sum (r 0) 2 in
    let moved = with_register r 0 first in
    let l = operand_location moved first p in
    then_do (load bus moved w l s) (λ v t.
    written_back bus f w l v (with_register (incremented moved w p) 0 (word_sum first (2 * length (operand_row p).extension))) t)

-- RRC
abbrev pub rotated : Width → ℕ → Flags → Operated
rotated w v f = flagged (rrc_of w v f.c)

-- RRA
abbrev pub shifted : Width → ℕ → Flags → Operated
shifted w v f = flagged (rra_of w v)

-- SWPB
abbrev pub exchanged : Width → ℕ → Flags → Operated
exchanged w v f = plain (swapped v)

-- SXT
abbrev pub sign_extended : Width → ℕ → Flags → Operated
sign_extended w v f = flagged (sxt_of v)

-- what an operation on one operand makes of it
abbrev pub modification_of : Modification → Width → ℕ → Flags → Operated
modification_of change.Rrc = rotated
modification_of change.Rra = shifted
modification_of change.Swpb = exchanged
modification_of change.Sxt = sign_extended

-- down by two
abbrev pub below_stack : Registers → ℕ
below_stack r = word_sum (r 1) 0xFFFE

-- what follows the operand of PUSH
abbrev pub pushed : {S : Type 0} → BusModel S → Width → ℕ → Registers → S → Access S (Registers × Option Written)
pushed bus w v r s = write_at bus (below_stack r) w v (with_register r 1 (below_stack r), Some (below_stack r, v)) s

-- PUSH: the operand, then SP goes down by two, then the store at SP
abbrev pub push_effect : {S : Type 0} → BusModel S → Width → Src → Registers → S → Access S (Registers × Option Written)
push_effect bus w x r s =
    let first = word_sum (r 0) 2 in
    then_do (source bus (with_register r 0 first) w x s) (λ y t.
    pushed bus w y.0 (with_register y.1 0 (word_sum first (2 * length (source_row x).extension))) t)

-- what follows the operand of CALL
abbrev pub called : {S : Type 0} → BusModel S → ℕ → Registers → S → Access S (Registers × Option Written)
called bus to r s = write_at bus (below_stack r) Word (r 0) (with_register (with_register r 1 (below_stack r)) 0 to, Some (below_stack r, r 0)) s

-- CALL: the operand, then SP goes down by two, then the address behind the instruction at SP, then PC
abbrev pub call_effect : {S : Type 0} → BusModel S → Src → Registers → S → Access S (Registers × Option Written)
call_effect bus x r s =
    let first = word_sum (r 0) 2 in
    then_do (source bus (with_register r 0 first) Word x s) (λ y t.
    called bus y.0 (with_register y.1 0 (word_sum first (2 * length (source_row x).extension))) t)

-- RETI: SR, then PC from the stack, SP up by two after each
abbrev pub reti_effect : {S : Type 0} → BusModel S → Registers → S → Access S (Registers × Option Written)
reti_effect bus r s =
    then_do (read_at bus (r 1) Word s) (λ sr t.
    then_do (read_at bus (word_sum (r 1) 2) Word t) (λ pc u.
    Completed (with_register (with_register (with_register r 1 (word_sum (r 1) 4)) 2 sr) 0 pc, None) u))
