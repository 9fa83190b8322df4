-- Valid registers stay valid.
use Rattle.std.proofs.Common.{◌≡◌, ℕ, ◌*◌, ◌/◌, ◌%◌, ◌<◌, arith, length, Option, Some, None, refl, Bool, true, false}
use Rattle.msp_step.specs.alp_words.declared.Width.{Width}
use Rattle.msp_step.specs.alp_words.declared.Width.TheVariants.{Word}
use Rattle.msp_step.specs.alp_words.declared.Flags.{Flags}
use Rattle.msp_step.specs.msp_isa.declared.registers.IndexRegister.{IndexRegister}
use Rattle.msp_step.specs.msp_isa.declared.registers.IndexRegister.TheVariants as index
use Rattle.msp_step.specs.msp_isa.declared.registers.Reg.{Reg}
use Rattle.msp_step.specs.msp_isa.declared.registers.Reg.TheVariants as reg
use Rattle.msp_step.specs.msp_isa.declared.operands.Operand.{Operand}
use Rattle.msp_step.specs.msp_isa.declared.operands.Operand.TheVariants as mode
use Rattle.msp_step.specs.msp_isa.declared.operands.Src.{Src}
use Rattle.msp_step.specs.msp_isa.declared.operands.Src.TheVariants as src
use Rattle.msp_step.specs.msp_isa.declared.operands.Dst.{Dst}
use Rattle.msp_step.specs.msp_isa.declared.instructions.TwoOp.{TwoOp}
use Rattle.msp_step.specs.msp_isa.declared.instructions.OneOp.{OneOp}
use Rattle.msp_step.specs.msp_isa.declared.instructions.OneOp.TheVariants as one
use Rattle.msp_step.specs.msp_isa.declared.instructions.Instr.TheVariants as instr
use Rattle.msp_step.specs.msp_isa.Encoding.{index_number, register_number, operand_row}
use Rattle.msp_step.specs.declared.operand.Location.{Location}
use Rattle.msp_step.specs.declared.operand.Location.TheVariants.{Register, Memory}
use Rattle.msp_step.specs.Registers.{Registers, with_register}
use Rattle.msp_step.specs.Access.{BusModel, read_at}
use Rattle.msp_step.specs.Effect.{Operated, word_sum, step_of, source, load, store, finish, operand_location, incremented, destination_operand, after_source}
use Rattle.msp_step.specs.Effect.{operated, flags_of, with_flags, reads_destination, writes_destination, two_operand_effect, read_modify_write, rotated}
use Rattle.msp_step.specs.Effect.{shifted, exchanged, sign_extended, push_effect, call_effect, reti_effect}
use Rattle.msp_step.specs.Step.{effect, one_operand_effect}
use Rattle.step_laws.specs.Effects.{Gives, IsValid, StaysValid}
use Rattle.step_laws.proofs.Gives.{then_gives, then_keeps, write_gives}

valid_pc : (r : Registers) (v : ℕ) → IsValid r → IsValid (with_register r 0 v)
valid_pc r v h = record { pc = let e : v / 2 * 2 % 2 ≡ 0 = omega arith in e; sp = h.sp; sr = h.sr; r3 = h.r3 }

valid_sr : (r : Registers) (v : ℕ) → IsValid r → IsValid (with_register r 2 v)
valid_sr r v h = record { pc = h.pc; sp = h.sp; sr = let e : v % 0x200 < 0x200 = omega arith in e; r3 = h.r3 }

valid_r3 : (r : Registers) (v : ℕ) → IsValid r → IsValid (with_register r 3 v)
valid_r3 r v h = record { pc = h.pc; sp = h.sp; sr = h.sr; r3 = refl }

valid_index : (b : IndexRegister) (r : Registers) (v : ℕ) → IsValid r → IsValid (with_register r (index_number b) v)
valid_index index.Sp r v h = record { pc = h.pc; sp = let e : v / 2 * 2 % 2 ≡ 0 = omega arith in e; sr = h.sr; r3 = h.r3 }
valid_index index.R4 r v h = record { pc = h.pc; sp = h.sp; sr = h.sr; r3 = h.r3 }
valid_index index.R5 r v h = record { pc = h.pc; sp = h.sp; sr = h.sr; r3 = h.r3 }
valid_index index.R6 r v h = record { pc = h.pc; sp = h.sp; sr = h.sr; r3 = h.r3 }
valid_index index.R7 r v h = record { pc = h.pc; sp = h.sp; sr = h.sr; r3 = h.r3 }
valid_index index.R8 r v h = record { pc = h.pc; sp = h.sp; sr = h.sr; r3 = h.r3 }
valid_index index.R9 r v h = record { pc = h.pc; sp = h.sp; sr = h.sr; r3 = h.r3 }
valid_index index.R10 r v h = record { pc = h.pc; sp = h.sp; sr = h.sr; r3 = h.r3 }
valid_index index.R11 r v h = record { pc = h.pc; sp = h.sp; sr = h.sr; r3 = h.r3 }
valid_index index.R12 r v h = record { pc = h.pc; sp = h.sp; sr = h.sr; r3 = h.r3 }
valid_index index.R13 r v h = record { pc = h.pc; sp = h.sp; sr = h.sr; r3 = h.r3 }
valid_index index.R14 r v h = record { pc = h.pc; sp = h.sp; sr = h.sr; r3 = h.r3 }
valid_index index.R15 r v h = record { pc = h.pc; sp = h.sp; sr = h.sr; r3 = h.r3 }

valid_register : (n : Reg) (r : Registers) (v : ℕ) → IsValid r → IsValid (with_register r (register_number n) v)
valid_register reg.Pc r v h = valid_pc r v h
valid_register reg.Sr r v h = valid_sr r v h
valid_register reg.R3 r v h = valid_r3 r v h
valid_register (reg.Index b) r v h = valid_index b r v h

valid_increment : (p : Operand) (r : Registers) (w : Width) → IsValid r → IsValid (incremented r w p)
valid_increment (mode.Increment b) r w h = valid_index b r (word_sum (r (index_number b)) (step_of w (index_number b))) h
valid_increment (mode.Reg n) r w h = h
valid_increment (mode.Indexed b x) r w h = h
valid_increment (mode.Symbolic x) r w h = h
valid_increment (mode.Absolute a) r w h = h
valid_increment (mode.Indirect p) r w h = h

valid_flags : (f : Option Flags) (r : Registers) → IsValid r → IsValid (with_flags r f)
valid_flags None r h = h
valid_flags (Some f) r h = valid_sr r _ h

source_valid : {S : Type 0} (bus : BusModel S) (r : Registers) (w : Width) (x : Src) (s : S) → IsValid r → Gives (source bus r w x s) (λ y. IsValid y.1)
source_valid bus r w (src.Operand p) s h = then_gives (load bus r w (operand_location r (r 0) p) s) _ (λ y. IsValid y.1) (λ v t. valid_increment p r w h)
source_valid bus r w (src.Immediate n) s h = h
source_valid bus r w (src.Constant k) s h = h

store_valid : {S : Type 0} (bus : BusModel S) (r : Registers) (w : Width) (l : Location) (v : ℕ) (s : S) → IsValid r
    → Gives (store bus r w l v s) (λ y. IsValid y.0)
store_valid bus r w (Register n) v s h = valid_register n r v h
store_valid bus r w (Memory a) v s h = write_gives (bus.writes s a w v) a s (r, Some (a, v)) (λ y. IsValid y.0) h

finish_valid : {S : Type 0} (b : Bool) (bus : BusModel S) (r : Registers) (w : Width) (l : Location) (v : ℕ) (s : S) → IsValid r
    → Gives (finish b bus r w l v s) (λ y. IsValid y.0)
finish_valid true bus r w l v s h = store_valid bus r w l v s h
finish_valid false bus r w l v s h = h

after_valid : {S : Type 0} (bus : BusModel S) (op : TwoOp) (w : Width) (l : Location) (v : ℕ) (r : Registers) (s : S) → IsValid r
    → Gives (after_source bus op w l v r s) (λ y. IsValid y.0)
after_valid bus op w l v r s h = then_gives (destination_operand (reads_destination op) bus r w l s) _ (λ y. IsValid y.0)
    (λ d t. finish_valid (writes_destination op) bus (with_flags r (operated op w d v (flags_of (r 2))).flags) w l (operated op w d v (flags_of (r 2))).value
    t (valid_flags (operated op w d v (flags_of (r 2))).flags r h))

two_valid : {S : Type 0} (bus : BusModel S) (op : TwoOp) (w : Width) (x : Src) (d : Dst) (r : Registers) (s : S) → IsValid r
    → Gives (two_operand_effect bus op w x d r s) (λ y. IsValid y.0)
two_valid bus op w x d r s h = then_keeps (source bus (with_register r 0 (word_sum (r 0) 2)) w x s) _ (λ y. IsValid y.1) (λ y. IsValid y.0)
    (source_valid bus (with_register r 0 (word_sum (r 0) 2)) w x s (valid_pc r (word_sum (r 0) 2) h))
    (λ y t k. after_valid bus op w _ y.0 _ t (valid_pc y.1 _ k))

modified_valid : {S : Type 0} (bus : BusModel S) (f : Width → ℕ → Flags → Operated) (w : Width) (p : Operand) (r : Registers) (s : S) → IsValid r
    → Gives (read_modify_write bus f w p r s) (λ y. IsValid y.0)
modified_valid bus f w p r s h =
    let first = word_sum (r 0) 2 in
    let moved = with_register r 0 first in
    let ready = with_register (incremented moved w p) 0 (word_sum first (2 * length (operand_row p).extension)) in
    then_gives (load bus moved w (operand_location moved first p) s) _ (λ y. IsValid y.0)
    (λ v t. store_valid bus (with_flags ready (f w v (flags_of (ready 2))).flags) w (operand_location moved first p) (f w v (flags_of (ready 2))).value t
    (valid_flags (f w v (flags_of (ready 2))).flags ready (valid_pc (incremented moved w p) _ (valid_increment p moved w (valid_pc r first h)))))

push_valid : {S : Type 0} (bus : BusModel S) (w : Width) (x : Src) (r : Registers) (s : S) → IsValid r → Gives (push_effect bus w x r s) (λ y. IsValid y.0)
push_valid bus w x r s h =
    let first = word_sum (r 0) 2 in
    then_keeps (source bus (with_register r 0 first) w x s) _ (λ y. IsValid y.1) (λ y. IsValid y.0)
    (source_valid bus (with_register r 0 first) w x s (valid_pc r first h))
    (λ y t k. write_gives (bus.writes t _ w y.0) _ t _ (λ z. IsValid z.0) (valid_index index.Sp _ _ (valid_pc y.1 _ k)))

call_valid : {S : Type 0} (bus : BusModel S) (x : Src) (r : Registers) (s : S) → IsValid r → Gives (call_effect bus x r s) (λ y. IsValid y.0)
call_valid bus x r s h =
    let first = word_sum (r 0) 2 in
    then_keeps (source bus (with_register r 0 first) Word x s) _ (λ y. IsValid y.1) (λ y. IsValid y.0)
    (source_valid bus (with_register r 0 first) Word x s (valid_pc r first h))
    (λ y t k. write_gives (bus.writes t _ Word _) _ t _ (λ z. IsValid z.0) (valid_pc _ y.0 (valid_index index.Sp _ _ (valid_pc y.1 _ k))))

reti_valid : {S : Type 0} (bus : BusModel S) (r : Registers) (s : S) → IsValid r → Gives (reti_effect bus r s) (λ y. IsValid y.0)
reti_valid bus r s h = then_gives (read_at bus (r 1) Word s) _ (λ y. IsValid y.0) (λ sr t.
    then_gives (read_at bus (word_sum (r 1) 2) Word t) _ (λ y. IsValid y.0)
    (λ pc u. valid_pc _ pc (valid_sr _ sr (valid_index index.Sp r (word_sum (r 1) 4) h))))

one_valid : {S : Type 0} (bus : BusModel S) (o : OneOp) (r : Registers) (s : S) → IsValid r → Gives (one_operand_effect bus o r s) (λ y. IsValid y.0)
one_valid bus (one.Rrc w p) r s h = modified_valid bus rotated w p r s h
one_valid bus (one.Rra w p) r s h = modified_valid bus shifted w p r s h
one_valid bus (one.Swpb p) r s h = modified_valid bus exchanged Word p r s h
one_valid bus (one.Sxt p) r s h = modified_valid bus sign_extended Word p r s h
one_valid bus (one.Push w x) r s h = push_valid bus w x r s h
one_valid bus (one.Call x) r s h = call_valid bus x r s h

-- valid registers stay valid
pub stays_valid : {S : Type 0} (bus : BusModel S) → StaysValid bus
unfolding effect
stays_valid bus (instr.Two op w x d) r s h = two_valid bus op w x d r s h
stays_valid bus (instr.Jump c o) r s h = valid_pc r _ h
stays_valid bus (instr.One o) r s h = one_valid bus o r s h
stays_valid bus instr.Reti r s h = reti_valid bus r s h
