-- A two-operand instruction keeps each register but PC, SR, the one that it raises and the one that it writes.
use Rattle.std.proofs.Common.{◌≡◌, ◌≢◌, ℕ, ◌*◌, length, Option, Some, None, refl, ◌∙◌, Bool, true, false}
use Rattle.std.proofs.lemmas.Bool.{ne_eqb}
use Rattle.msp_step.specs.alp_words.declared.Width.{Width}
use Rattle.msp_step.specs.alp_words.declared.Flags.{Flags}
use Rattle.msp_step.specs.msp_isa.declared.operands.Operand.{Operand}
use Rattle.msp_step.specs.msp_isa.declared.operands.Operand.TheVariants as mode
use Rattle.msp_step.specs.msp_isa.declared.operands.Src.{Src}
use Rattle.msp_step.specs.msp_isa.declared.operands.Src.TheVariants as src
use Rattle.msp_step.specs.msp_isa.declared.operands.Dst.{Dst}
use Rattle.msp_step.specs.msp_isa.declared.operands.Dst.TheVariants as dst
use Rattle.msp_step.specs.msp_isa.Encoding.{index_number, register_number, source_row, destination_row}
use Rattle.msp_step.specs.Registers.{Registers, with_register}
use Rattle.msp_step.specs.Access.{BusModel}
use Rattle.msp_step.specs.Effect.{Written, word_sum, step_of, source, load, store, finish, operand_location, incremented, destination_operand}
use Rattle.msp_step.specs.Effect.{destination_location, after_source, operated, flags_of, with_flags, status_with, reads_destination, writes_destination}
use Rattle.msp_step.specs.Step.{effect}
use Rattle.step_laws.specs.Effects.{Gives, DoesNotRaise, SourceDoesNotRaise, DoesNotWrite, RegistersStay}
use Rattle.step_laws.proofs.Gives.{then_gives, then_keeps, write_gives}
use Rattle.step_laws.proofs.Keeps.{gives_more}

-- a write to another register
other_register : (r : Registers) (m v n : ℕ) → n ≢ m → with_register r m v n ≡ r n
other_register r m v n other = rw (ne_eqb n m other) refl

flags_keep : (r : Registers) (f : Option Flags) (n : ℕ) → n ≢ 2 → with_flags r f n ≡ r n
flags_keep r None n other = refl
flags_keep r (Some f) n other = other_register r 2 (status_with (r 2) f) n other

raised_keeps : (o : Operand) (r : Registers) (w : Width) (n : ℕ) → DoesNotRaise n o → incremented r w o n ≡ r n
raised_keeps (mode.Increment b) r w n other = other_register r (index_number b) (word_sum (r (index_number b)) (step_of w (index_number b))) n other
raised_keeps (mode.Reg h) r w n other = refl
raised_keeps (mode.Indexed b x) r w n other = refl
raised_keeps (mode.Symbolic x) r w n other = refl
raised_keeps (mode.Absolute a) r w n other = refl
raised_keeps (mode.Indirect p) r w n other = refl

source_keeps_other : {S : Type 0} (bus : BusModel S) (r : Registers) (w : Width) (x : Src) (s : S) (n : ℕ) → SourceDoesNotRaise n x
    → Gives (source bus r w x s) (λ y. y.1 n ≡ r n)
source_keeps_other bus r w (src.Operand o) s n other =
    then_gives (load bus r w (operand_location r (r 0) o) s) _ (λ y. y.1 n ≡ r n) (λ v t. raised_keeps o r w n other)
source_keeps_other bus r w (src.Immediate v) s n other = refl
source_keeps_other bus r w (src.Constant k) s n other = refl

store_keeps_other : {S : Type 0} (bus : BusModel S) (r q : Registers) (w : Width) (extension : ℕ) (d : Dst) (v : ℕ) (s : S) (n : ℕ) → DoesNotWrite n d
    → Gives (store bus r w (destination_location q extension d) v s) (λ y. y.0 n ≡ r n)
store_keeps_other bus r q w extension (dst.Reg m) v s n other = other_register r (register_number m) v n other
store_keeps_other bus r q w extension (dst.Indexed b x) v s n other = write_gives (bus.writes s _ w v) _ s _ (λ y. y.0 n ≡ r n) refl
store_keeps_other bus r q w extension (dst.Symbolic x) v s n other = write_gives (bus.writes s _ w v) _ s _ (λ y. y.0 n ≡ r n) refl
store_keeps_other bus r q w extension (dst.Absolute a) v s n other = write_gives (bus.writes s _ w v) _ s _ (λ y. y.0 n ≡ r n) refl

finish_keeps_other : {S : Type 0} (b : Bool) (bus : BusModel S) (r q : Registers) (w : Width) (extension : ℕ) (d : Dst) (v : ℕ) (s : S) (n : ℕ)
    → DoesNotWrite n d → Gives (finish b bus r w (destination_location q extension d) v s) (λ y. y.0 n ≡ r n)
finish_keeps_other true bus r q w extension d v s n other = store_keeps_other bus r q w extension d v s n other
finish_keeps_other false bus r q w extension d v s n other = refl

pub registers_stay : {S : Type 0} (bus : BusModel S) → RegistersStay bus
unfolding effect
registers_stay bus n op w x d not_pc not_sr not_raised not_written r s =
    let first = word_sum (r 0) 2 in
    let started = with_register r 0 first in
    let b = length (destination_row d).extension in
    let extension = word_sum first (2 * length (source_row x).extension) in
    let P : Registers × Option Written → Type 0 = λ z. z.0 n ≡ r n in
    then_keeps (source bus started w x s) (λ y t. after_source bus op w (destination_location (with_register y.1 0 (word_sum extension (2 * b))) extension d)
    y.0 (with_register y.1 0 (word_sum extension (2 * b))) t) (λ y. y.1 n ≡ started n) P (source_keeps_other bus started w x s n not_raised) (λ y t k.
    let moved = with_register y.1 0 (word_sum extension (2 * b)) in
    let l = destination_location moved extension d in
    let o : ℕ → _ = λ v. operated op w v y.0 (flags_of (moved 2)) in
    then_gives (destination_operand (reads_destination op) bus moved w l t)
    (λ v u. finish (writes_destination op) bus (with_flags moved (o v).flags) w l (o v).value u) P (λ v u.
    gives_more (finish (writes_destination op) bus (with_flags moved (o v).flags) w l (o v).value u) (λ z. z.0 n ≡ with_flags moved (o v).flags n) P
    (λ z h. h ∙ flags_keep moved (o v).flags n not_sr ∙ other_register y.1 0 (word_sum extension (2 * b)) n not_pc ∙ k ∙ other_register r 0 first n not_pc)
    (finish_keeps_other (writes_destination op) bus (with_flags moved (o v).flags) moved w extension d (o v).value u n not_written)))
