-- What an instruction gives where it is served, along the accesses that it makes.
use Rattle.std.proofs.Common.{◌≡◌, ℕ, ◌*◌, length, Option, Some, None, refl}
use Rattle.msp_step.specs.alp_words.declared.Width.{Width}
use Rattle.msp_step.specs.alp_words.declared.Width.TheVariants.{Word}
use Rattle.msp_step.specs.msp_isa.declared.registers.IndexRegister.{IndexRegister}
use Rattle.msp_step.specs.msp_isa.declared.registers.IndexRegister.TheVariants as index
use Rattle.msp_step.specs.msp_isa.declared.operands.Operand.{Operand}
use Rattle.msp_step.specs.msp_isa.declared.operands.Operand.TheVariants as mode
use Rattle.msp_step.specs.msp_isa.declared.operands.Src.{Src}
use Rattle.msp_step.specs.msp_isa.declared.operands.Src.TheVariants as src
use Rattle.msp_step.specs.msp_isa.declared.instructions.TwoOp.TheVariants.{Mov, Add, Addc, Subc, Sub, Cmp, Dadd, Bit, Bic, Bis, Xor, And}
use Rattle.msp_step.specs.msp_isa.Encoding.{index_number, source_row, destination_row}
use Rattle.msp_step.specs.Registers.{Registers, with_register}
use Rattle.msp_step.specs.Access.{BusModel, Access, Completed, Faulted, then_do, write_answer}
use Rattle.msp_step.specs.Effect.{word_sum, step_of, source, load, operand_location, incremented, destination_location, push_effect, call_effect}
use Rattle.msp_step.specs.Step.{effect}
use Rattle.step_laws.specs.Effects.{Gives, ComparesOnly, MovesOnly, StatusIsTheResult, StatusStays}

pub then_gives : {S A B : Type 0} (x : Access S A) (f : A → S → Access S B) (P : B → Type 0) → ((a : A) (t : S) → Gives (f a t) P) → Gives (then_do x f) P
then_gives (Completed a t) f P h = h a t
then_gives (Faulted e a t) f P h = tt

pub then_keeps : {S A B : Type 0} (x : Access S A) (f : A → S → Access S B) (Q : A → Type 0) (P : B → Type 0) → Gives x Q
    → ((a : A) (t : S) → Q a → Gives (f a t) P) → Gives (then_do x f) P
then_keeps (Completed a t) f Q P g h = h a t g
then_keeps (Faulted e a t) f Q P g h = tt

pub write_gives : {S A : Type 0} (o : Option S) (a : ℕ) (s : S) (x : A) (P : A → Type 0) → P x → Gives (write_answer o a s x) P
write_gives (Some t) a s x P h = h
write_gives None a s x P h = tt

pub compares_cmp : {S : Type 0} (bus : BusModel S) → ComparesOnly bus Cmp
unfolding effect
compares_cmp bus w x d r s = then_gives (source bus (with_register r 0 (word_sum (r 0) 2)) w x s) _ (λ y. y.1 ≡ None) (λ y t.
    let extension = word_sum (word_sum (r 0) 2) (2 * length (source_row x).extension) in
    let moved = with_register y.1 0 (word_sum extension (2 * length (destination_row d).extension)) in
    then_gives (load bus moved w (destination_location moved extension d) t) _ (λ z. z.1 ≡ None) (λ v u. refl))

pub compares_bit : {S : Type 0} (bus : BusModel S) → ComparesOnly bus Bit
unfolding effect
compares_bit bus w x d r s = then_gives (source bus (with_register r 0 (word_sum (r 0) 2)) w x s) _ (λ y. y.1 ≡ None) (λ y t.
    let extension = word_sum (word_sum (r 0) 2) (2 * length (source_row x).extension) in
    let moved = with_register y.1 0 (word_sum extension (2 * length (destination_row d).extension)) in
    then_gives (load bus moved w (destination_location moved extension d) t) _ (λ z. z.1 ≡ None) (λ v u. refl))

pub moves : {S : Type 0} (bus : BusModel S) → MovesOnly bus
unfolding effect
moves bus w x d r s = refl

pub status_written : {S : Type 0} (bus : BusModel S) → StatusIsTheResult bus
status_written bus Mov w v r s e = refl
status_written bus Add w v r s e = refl
status_written bus Addc w v r s e = refl
status_written bus Subc w v r s e = refl
status_written bus Sub w v r s e = refl
status_written bus Cmp w v r s e = absurd cc
status_written bus Dadd w v r s e = refl
status_written bus Bit w v r s e = absurd cc
status_written bus Bic w v r s e = refl
status_written bus Bis w v r s e = refl
status_written bus Xor w v r s e = refl
status_written bus And w v r s e = refl

-- no increment reaches SR
pub register_keeps : (b : IndexRegister) (r : Registers) (v : ℕ) → with_register r (index_number b) v 2 ≡ r 2
register_keeps index.Sp r v = refl
register_keeps index.R4 r v = refl
register_keeps index.R5 r v = refl
register_keeps index.R6 r v = refl
register_keeps index.R7 r v = refl
register_keeps index.R8 r v = refl
register_keeps index.R9 r v = refl
register_keeps index.R10 r v = refl
register_keeps index.R11 r v = refl
register_keeps index.R12 r v = refl
register_keeps index.R13 r v = refl
register_keeps index.R14 r v = refl
register_keeps index.R15 r v = refl

pub increment_keeps : (p : Operand) (r : Registers) (w : Width) → incremented r w p 2 ≡ r 2
increment_keeps (mode.Increment b) r w = register_keeps b r (word_sum (r (index_number b)) (step_of w (index_number b)))
increment_keeps (mode.Reg h) r w = refl
increment_keeps (mode.Indexed b x) r w = refl
increment_keeps (mode.Symbolic x) r w = refl
increment_keeps (mode.Absolute a) r w = refl
increment_keeps (mode.Indirect p) r w = refl

pub source_keeps : {S : Type 0} (bus : BusModel S) (r : Registers) (w : Width) (x : Src) (s : S) → Gives (source bus r w x s) (λ y. y.1 2 ≡ r 2)
source_keeps bus r w (src.Operand p) s = then_gives (load bus r w (operand_location r (r 0) p) s) _ (λ y. y.1 2 ≡ r 2) (λ v t. increment_keeps p r w)
source_keeps bus r w (src.Immediate n) s = refl
source_keeps bus r w (src.Constant k) s = refl

push_keeps : {S : Type 0} (bus : BusModel S) (w : Width) (x : Src) (r : Registers) (s : S) → Gives (push_effect bus w x r s) (λ y. y.0 2 ≡ r 2)
push_keeps bus w x r s =
    let first = word_sum (r 0) 2 in
    then_keeps (source bus (with_register r 0 first) w x s) _ (λ y. y.1 2 ≡ r 2) (λ y. y.0 2 ≡ r 2) (source_keeps bus (with_register r 0 first) w x s)
    (λ y t k. write_gives (bus.writes t (word_sum (y.1 1) 0xFFFE) w y.0) _ t _ (λ z. z.0 2 ≡ r 2) k)

call_keeps : {S : Type 0} (bus : BusModel S) (x : Src) (r : Registers) (s : S) → Gives (call_effect bus x r s) (λ y. y.0 2 ≡ r 2)
call_keeps bus x r s =
    let first = word_sum (r 0) 2 in
    then_keeps (source bus (with_register r 0 first) Word x s) _ (λ y. y.1 2 ≡ r 2) (λ y. y.0 2 ≡ r 2) (source_keeps bus (with_register r 0 first) Word x s)
    (λ y t k. write_gives (bus.writes t _ Word _) _ t _ (λ z. z.0 2 ≡ r 2) k)

pub status_stays : {S : Type 0} (bus : BusModel S) → StatusStays bus
unfolding effect
status_stays bus = record {
  jump = λ c o r s. refl;
  push = λ w x r s. push_keeps bus w x r s;
  call = λ x r s. call_keeps bus x r s;
}
