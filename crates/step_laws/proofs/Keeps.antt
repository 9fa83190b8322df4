-- What an instruction keeps: SR, where the operation gives no flags, and PC but for its length.
use Rattle.std.proofs.Common.{◌≡◌, ◌≢◌, ℕ, suc, ◌+◌, ◌*◌, ◌/◌, ◌%◌, arith, length, Option, Some, None, refl, ◌∙◌, Bool, true, false}
use Rattle.msp_step.specs.msp_isa.declared.operands.Operand.{Operand}
use Rattle.msp_step.specs.msp_isa.declared.operands.Operand.TheVariants as mode
use Rattle.msp_step.specs.msp_isa.declared.operands.Src.{Src}
use Rattle.msp_step.specs.msp_isa.declared.registers.SourceRegister.TheVariants as source_register
use Rattle.std.proofs.lemmas.List.{length-append}
use Rattle.msp_step.specs.alp_words.declared.Width.{Width}
use Rattle.msp_step.specs.alp_words.declared.Width.TheVariants.{Word}
use Rattle.msp_step.specs.alp_words.declared.Flags.{Flags}
use Rattle.msp_step.specs.msp_isa.declared.registers.IndexRegister.{IndexRegister}
use Rattle.msp_step.specs.msp_isa.declared.registers.IndexRegister.TheVariants as index
use Rattle.msp_step.specs.msp_isa.declared.registers.Reg.{Reg}
use Rattle.msp_step.specs.msp_isa.declared.registers.Reg.TheVariants as reg
use Rattle.msp_step.specs.msp_isa.declared.operands.Dst.{Dst}
use Rattle.msp_step.specs.msp_isa.declared.operands.Dst.TheVariants as dst
use Rattle.msp_step.specs.msp_isa.declared.instructions.TwoOp.{TwoOp}
use Rattle.msp_step.specs.msp_isa.declared.instructions.TwoOp.TheVariants.{Mov, Bic, Bis}
use Rattle.msp_step.specs.msp_isa.declared.instructions.OneOp.TheVariants as one
use Rattle.msp_step.specs.msp_isa.declared.instructions.Instr.TheVariants as instr
use Rattle.msp_step.specs.msp_isa.Encoding.{encoding, index_number, register_number, operand_row, source_row, destination_row}
use Rattle.msp_step.specs.Registers.{Registers, with_register}
use Rattle.msp_step.specs.Access.{BusModel, Access, Completed, Faulted}
use Rattle.msp_step.specs.Effect.{Written, Operated, word_sum, source, operand_location, incremented, written_back, read_modify_write, exchanged, rotated}
use Rattle.msp_step.specs.Effect.{shifted, sign_extended, pushed, load, store, finish, destination_operand, destination_location, after_source, operated}
use Rattle.msp_step.specs.Effect.{flags_of, with_flags, reads_destination, writes_destination}
use Rattle.msp_step.specs.Step.{effect}
use Rattle.step_laws.specs.Effects.{Gives, IsNot, CopiesKeepStatus, SwapKeepsStatus, MovesOn, MovesByLength}
use Rattle.step_laws.proofs.Gives.{then_gives, then_keeps, write_gives, register_keeps, increment_keeps, source_keeps}

pub gives_more : {S A : Type 0} (x : Access S A) (P Q : A → Type 0) → ((a : A) → P a → Q a) → Gives x P → Gives x Q
gives_more (Completed a t) P Q f h = f a h
gives_more (Faulted e a t) P Q f h = tt

-- a register other than SR
status_keeps : (n : Reg) (r : Registers) (v : ℕ) → n ≢ reg.Sr → with_register r (register_number n) v 2 ≡ r 2
status_keeps reg.Pc r v other = refl
status_keeps reg.Sr r v other = absurd (other refl)
status_keeps reg.R3 r v other = refl
status_keeps (reg.Index b) r v other = register_keeps b r v

store_keeps_status : {S : Type 0} (bus : BusModel S) (r : Registers) (w : Width) (extension : ℕ) (d : Dst) (v : ℕ) (s : S) → IsNot reg.Sr d
    → Gives (store bus r w (destination_location r extension d) v s) (λ y. y.0 2 ≡ r 2)
store_keeps_status bus r w extension (dst.Reg n) v s other = status_keeps n r v other
store_keeps_status bus r w extension (dst.Indexed b x) v s other = write_gives (bus.writes s _ w v) _ s _ (λ y. y.0 2 ≡ r 2) refl
store_keeps_status bus r w extension (dst.Symbolic x) v s other = write_gives (bus.writes s _ w v) _ s _ (λ y. y.0 2 ≡ r 2) refl
store_keeps_status bus r w extension (dst.Absolute a) v s other = write_gives (bus.writes s _ w v) _ s _ (λ y. y.0 2 ≡ r 2) refl

pub mov_keeps : {S : Type 0} (bus : BusModel S) → CopiesKeepStatus bus Mov
unfolding effect
mov_keeps bus w x d other r s =
    let first = word_sum (r 0) 2 in
    let extension = word_sum first (2 * length (source_row x).extension) in
    then_keeps (source bus (with_register r 0 first) w x s) _ (λ y. y.1 2 ≡ r 2) (λ y. y.0 2 ≡ r 2) (source_keeps bus (with_register r 0 first) w x s) (λ y t k.
    let moved = with_register y.1 0 (word_sum extension (2 * length (destination_row d).extension)) in
    gives_more (store bus moved w (destination_location moved extension d) y.0 t) (λ z. z.0 2 ≡ moved 2) (λ z. z.0 2 ≡ r 2) (λ z h. h ∙ k)
    (store_keeps_status bus moved w extension d y.0 t other))

pub bic_keeps : {S : Type 0} (bus : BusModel S) → CopiesKeepStatus bus Bic
unfolding effect
bic_keeps bus w x d other r s =
    let first = word_sum (r 0) 2 in
    let extension = word_sum first (2 * length (source_row x).extension) in
    then_keeps (source bus (with_register r 0 first) w x s) _ (λ y. y.1 2 ≡ r 2) (λ y. y.0 2 ≡ r 2) (source_keeps bus (with_register r 0 first) w x s) (λ y t k.
    let moved = with_register y.1 0 (word_sum extension (2 * length (destination_row d).extension)) in
    then_gives (load bus moved w (destination_location moved extension d) t) _ (λ z. z.0 2 ≡ r 2) (λ v u.
    gives_more (store bus moved w (destination_location moved extension d) (operated Bic w v y.0 (flags_of (moved 2))).value u) (λ z. z.0 2 ≡ moved 2)
    (λ z. z.0 2 ≡ r 2) (λ z h. h ∙ k) (store_keeps_status bus moved w extension d _ u other)))

pub bis_keeps : {S : Type 0} (bus : BusModel S) → CopiesKeepStatus bus Bis
unfolding effect
bis_keeps bus w x d other r s =
    let first = word_sum (r 0) 2 in
    let extension = word_sum first (2 * length (source_row x).extension) in
    then_keeps (source bus (with_register r 0 first) w x s) _ (λ y. y.1 2 ≡ r 2) (λ y. y.0 2 ≡ r 2) (source_keeps bus (with_register r 0 first) w x s) (λ y t k.
    let moved = with_register y.1 0 (word_sum extension (2 * length (destination_row d).extension)) in
    then_gives (load bus moved w (destination_location moved extension d) t) _ (λ z. z.0 2 ≡ r 2) (λ v u.
    gives_more (store bus moved w (destination_location moved extension d) (operated Bis w v y.0 (flags_of (moved 2))).value u) (λ z. z.0 2 ≡ moved 2)
    (λ z. z.0 2 ≡ r 2) (λ z h. h ∙ k) (store_keeps_status bus moved w extension d _ u other)))

-- a register other than PC
index_keeps_pc : (b : IndexRegister) (r : Registers) (v : ℕ) → with_register r (index_number b) v 0 ≡ r 0
index_keeps_pc index.Sp r v = refl
index_keeps_pc index.R4 r v = refl
index_keeps_pc index.R5 r v = refl
index_keeps_pc index.R6 r v = refl
index_keeps_pc index.R7 r v = refl
index_keeps_pc index.R8 r v = refl
index_keeps_pc index.R9 r v = refl
index_keeps_pc index.R10 r v = refl
index_keeps_pc index.R11 r v = refl
index_keeps_pc index.R12 r v = refl
index_keeps_pc index.R13 r v = refl
index_keeps_pc index.R14 r v = refl
index_keeps_pc index.R15 r v = refl

pc_keeps : (n : Reg) (r : Registers) (v : ℕ) → n ≢ reg.Pc → with_register r (register_number n) v 0 ≡ r 0
pc_keeps reg.Pc r v other = absurd (other refl)
pc_keeps reg.Sr r v other = refl
pc_keeps reg.R3 r v other = refl
pc_keeps (reg.Index b) r v other = index_keeps_pc b r v

flags_keep_pc : (r : Registers) (f : Option Flags) → with_flags r f 0 ≡ r 0
flags_keep_pc r None = refl
flags_keep_pc r (Some f) = refl

store_keeps_pc : {S : Type 0} (bus : BusModel S) (r q : Registers) (w : Width) (extension : ℕ) (d : Dst) (v : ℕ) (s : S) → IsNot reg.Pc d
    → Gives (store bus r w (destination_location q extension d) v s) (λ y. y.0 0 ≡ r 0)
store_keeps_pc bus r q w extension (dst.Reg n) v s other = pc_keeps n r v other
store_keeps_pc bus r q w extension (dst.Indexed b x) v s other = write_gives (bus.writes s _ w v) _ s _ (λ y. y.0 0 ≡ r 0) refl
store_keeps_pc bus r q w extension (dst.Symbolic x) v s other = write_gives (bus.writes s _ w v) _ s _ (λ y. y.0 0 ≡ r 0) refl
store_keeps_pc bus r q w extension (dst.Absolute a) v s other = write_gives (bus.writes s _ w v) _ s _ (λ y. y.0 0 ≡ r 0) refl

finish_keeps_pc : {S : Type 0} (b : Bool) (bus : BusModel S) (r q : Registers) (w : Width) (extension : ℕ) (d : Dst) (v : ℕ) (s : S) → IsNot reg.Pc d
    → Gives (finish b bus r w (destination_location q extension d) v s) (λ y. y.0 0 ≡ r 0)
finish_keeps_pc true bus r q w extension d v s other = store_keeps_pc bus r q w extension d v s other
finish_keeps_pc false bus r q w extension d v s other = refl

-- PC behind an instruction of words in front of it, from an even PC
behind : (pc a b n : ℕ) → pc % 2 ≡ 0 → n ≡ a + b → word_sum (word_sum (word_sum pc 2) (2 * a)) (2 * b) / 2 * 2 ≡ (pc + 2 * suc n) % 0x10000
behind pc a b n even is = omega arith

two_moves : {S : Type 0} (bus : BusModel S) (op : TwoOp) (w : Width) (x : Src) (d : Dst) → IsNot reg.Pc d → MovesOn bus (instr.Two op w x d)
unfolding effect
two_moves bus op w x d other r s even =
    let first = word_sum (r 0) 2 in
    let a = length (source_row x).extension in
    let b = length (destination_row d).extension in
    let extension = word_sum first (2 * a) in
    let P : Registers × Option Written → Type 0 = λ z. z.0 0 ≡ (r 0 + 2 * length (encoding (instr.Two op w x d))) % 0x10000 in
    let at = behind (r 0) a b _ even (length-append (source_row x).extension (destination_row d).extension) in
    then_gives (source bus (with_register r 0 first) w x s)
    (λ y t. after_source bus op w (destination_location (with_register y.1 0 (word_sum extension (2 * b))) extension d) y.0
    (with_register y.1 0 (word_sum extension (2 * b))) t) P (λ y t.
    let moved = with_register y.1 0 (word_sum extension (2 * b)) in
    let l = destination_location moved extension d in
    let o : ℕ → _ = λ v. operated op w v y.0 (flags_of (moved 2)) in
    then_gives (destination_operand (reads_destination op) bus moved w l t)
    (λ v u. finish (writes_destination op) bus (with_flags moved (o v).flags) w l (o v).value u) P (λ v u.
    gives_more (finish (writes_destination op) bus (with_flags moved (o v).flags) w l (o v).value u) (λ z. z.0 0 ≡ with_flags moved (o v).flags 0) P
    (λ z h. h ∙ flags_keep_pc moved (o v).flags ∙ at)
    (finish_keeps_pc (writes_destination op) bus (with_flags moved (o v).flags) moved w extension d (o v).value u other)))

-- a store to an operand other than SR, or than PC
store_operand_keeps_status : {S : Type 0} (bus : BusModel S) (r q : Registers) (w : Width) (extension : ℕ) (o : Operand) (v : ℕ) (s : S)
    → o ≢ mode.Reg source_register.Sr → Gives (store bus r w (operand_location q extension o) v s) (λ y. y.0 2 ≡ r 2)
store_operand_keeps_status bus r q w extension (mode.Reg source_register.Pc) v s other = refl
store_operand_keeps_status bus r q w extension (mode.Reg source_register.Sr) v s other = absurd (other refl)
store_operand_keeps_status bus r q w extension (mode.Reg (source_register.Index b)) v s other = register_keeps b r v
store_operand_keeps_status bus r q w extension (mode.Indexed b x) v s other = write_gives (bus.writes s _ w v) _ s _ (λ y. y.0 2 ≡ r 2) refl
store_operand_keeps_status bus r q w extension (mode.Symbolic x) v s other = write_gives (bus.writes s _ w v) _ s _ (λ y. y.0 2 ≡ r 2) refl
store_operand_keeps_status bus r q w extension (mode.Absolute a) v s other = write_gives (bus.writes s _ w v) _ s _ (λ y. y.0 2 ≡ r 2) refl
store_operand_keeps_status bus r q w extension (mode.Indirect p) v s other = write_gives (bus.writes s _ w v) _ s _ (λ y. y.0 2 ≡ r 2) refl
store_operand_keeps_status bus r q w extension (mode.Increment b) v s other = write_gives (bus.writes s _ w v) _ s _ (λ y. y.0 2 ≡ r 2) refl

store_operand_keeps_pc : {S : Type 0} (bus : BusModel S) (r q : Registers) (w : Width) (extension : ℕ) (o : Operand) (v : ℕ) (s : S)
    → o ≢ mode.Reg source_register.Pc → Gives (store bus r w (operand_location q extension o) v s) (λ y. y.0 0 ≡ r 0)
store_operand_keeps_pc bus r q w extension (mode.Reg source_register.Pc) v s other = absurd (other refl)
store_operand_keeps_pc bus r q w extension (mode.Reg source_register.Sr) v s other = refl
store_operand_keeps_pc bus r q w extension (mode.Reg (source_register.Index b)) v s other = index_keeps_pc b r v
store_operand_keeps_pc bus r q w extension (mode.Indexed b x) v s other = write_gives (bus.writes s _ w v) _ s _ (λ y. y.0 0 ≡ r 0) refl
store_operand_keeps_pc bus r q w extension (mode.Symbolic x) v s other = write_gives (bus.writes s _ w v) _ s _ (λ y. y.0 0 ≡ r 0) refl
store_operand_keeps_pc bus r q w extension (mode.Absolute a) v s other = write_gives (bus.writes s _ w v) _ s _ (λ y. y.0 0 ≡ r 0) refl
store_operand_keeps_pc bus r q w extension (mode.Indirect p) v s other = write_gives (bus.writes s _ w v) _ s _ (λ y. y.0 0 ≡ r 0) refl
store_operand_keeps_pc bus r q w extension (mode.Increment b) v s other = write_gives (bus.writes s _ w v) _ s _ (λ y. y.0 0 ≡ r 0) refl

pub swap_keeps : {S : Type 0} (bus : BusModel S) → SwapKeepsStatus bus
unfolding effect
swap_keeps bus o other r s =
    let first = word_sum (r 0) 2 in
    let moved = with_register r 0 first in
    let l = operand_location moved first o in
    let past = with_register (incremented moved Word o) 0 (word_sum first (2 * length (operand_row o).extension)) in
    let P : Registers × Option Written → Type 0 = λ y. y.0 2 ≡ r 2 in
    then_gives (load bus moved Word l s) (λ v t. written_back bus exchanged Word l v past t) P (λ v t.
    gives_more (store bus past Word l (exchanged Word v (flags_of (past 2))).value t) (λ z. z.0 2 ≡ past 2) P (λ z h. h ∙ increment_keeps o moved Word)
    (store_operand_keeps_status bus past moved Word first o _ t other))

-- PC behind an instruction of one operand
behind_one : (pc a : ℕ) → pc % 2 ≡ 0 → word_sum (word_sum pc 2) (2 * a) / 2 * 2 ≡ (pc + 2 * suc a) % 0x10000
behind_one pc a even = omega arith

modify_moves : {S : Type 0} (bus : BusModel S) (f : Width → ℕ → Flags → Operated) (w : Width) (o : Operand) → o ≢ mode.Reg source_register.Pc
    → (r : Registers) (s : S) → r 0 % 2 ≡ 0
    → Gives (read_modify_write bus f w o r s) (λ y. y.0 0 ≡ (r 0 + 2 * suc (length (operand_row o).extension)) % 0x10000)
modify_moves bus f w o other r s even =
    let first = word_sum (r 0) 2 in
    let moved = with_register r 0 first in
    let l = operand_location moved first o in
    let a = length (operand_row o).extension in
    let past = with_register (incremented moved w o) 0 (word_sum first (2 * a)) in
    let P : Registers × Option Written → Type 0 = λ y. y.0 0 ≡ (r 0 + 2 * suc a) % 0x10000 in
    then_gives (load bus moved w l s) (λ v t. written_back bus f w l v past t) P (λ v t.
    let done = f w v (flags_of (past 2)) in
    gives_more (store bus (with_flags past done.flags) w l done.value t) (λ z. z.0 0 ≡ with_flags past done.flags 0) P
    (λ z h. h ∙ flags_keep_pc past done.flags ∙ behind_one (r 0) a even) (store_operand_keeps_pc bus (with_flags past done.flags) moved w first o _ t other))

push_moves : {S : Type 0} (bus : BusModel S) (w : Width) (x : Src) → MovesOn bus (instr.One (one.Push w x))
unfolding effect
push_moves bus w x r s even =
    let first = word_sum (r 0) 2 in
    let a = length (source_row x).extension in
    let P : Registers × Option Written → Type 0 = λ y. y.0 0 ≡ (r 0 + 2 * suc a) % 0x10000 in
    then_gives (source bus (with_register r 0 first) w x s) (λ y t. pushed bus w y.0 (with_register y.1 0 (word_sum first (2 * a))) t) P (λ y t.
    write_gives (bus.writes t _ w y.0) _ t _ P (behind_one (r 0) a even))

pub moves_by_length : {S : Type 0} (bus : BusModel S) → MovesByLength bus
unfolding effect
moves_by_length bus = record {
  two = two_moves bus;
  rrc = λ w o other r s even. modify_moves bus rotated w o other r s even;
  rra = λ w o other r s even. modify_moves bus shifted w o other r s even;
  swpb = λ o other r s even. modify_moves bus exchanged Word o other r s even;
  sxt = λ o other r s even. modify_moves bus sign_extended Word o other r s even;
  push = push_moves bus;
}
