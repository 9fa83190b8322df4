-- An instruction reads at most twice, and then writes at most once; where an access is refused, it has only read.
use Rattle.std.proofs.Common.{◌≡◌, ◌≤◌, suc, arith, ◌*◌, length, ℕ, refl, ◌∙◌, subst, Option, Some, None, Bool, true, false}
use Rattle.std.specs.Prelude.{Result, Ok, Err}
use Rattle.alp_words.specs.declared.Width.{Width}
use Rattle.alp_words.specs.declared.Width.TheVariants.{Word}
use Rattle.alp_words.specs.declared.Flags.{Flags}
use Rattle.msp_isa.specs.declared.instructions.Instr.{Instr}
use Rattle.msp_isa.specs.declared.instructions.Instr.TheVariants as instr
use Rattle.msp_isa.specs.declared.instructions.OneOp.{OneOp}
use Rattle.msp_isa.specs.declared.instructions.OneOp.TheVariants as one
use Rattle.msp_isa.specs.declared.instructions.TwoOp.{TwoOp}
use Rattle.msp_isa.specs.declared.operands.Operand.{Operand}
use Rattle.msp_isa.specs.declared.operands.Src.{Src}
use Rattle.msp_isa.specs.declared.operands.Src.TheVariants as src
use Rattle.msp_isa.specs.declared.operands.Dst.{Dst}
use Rattle.msp_isa.specs.Encoding.{source_row, destination_row, operand_row}
use Rattle.msp_step.specs.declared.bus.Refused.{Refused}
use Rattle.msp_step.specs.declared.operand.Location.{Location}
use Rattle.msp_step.specs.declared.operand.Location.TheVariants.{Register, Memory}
use Rattle.msp_step.specs.Registers.{Registers, with_register}
use Rattle.msp_step.specs.Access.{BusModel, Access, Completed, Faulted, then_do, read_answer, write_answer, read_at, write_at}
use Rattle.msp_step.specs.Reads.{HasRead, Nothing, Once, OnlyReads}
use Rattle.msp_step.specs.Effect.{Written, Operated, load, store, source, destination_operand, finish, after_source, two_operand_effect, reads_destination}
use Rattle.msp_step.specs.Effect.{writes_destination, operand_location, incremented, operated, flags_of, with_flags, destination_location, word_sum}
use Rattle.msp_step.specs.Effect.{read_modify_write, written_back, rotated, shifted, exchanged, sign_extended, pushed, push_effect, called, call_effect}
use Rattle.msp_step.specs.Effect.{reti_effect, below_stack}
use Rattle.msp_step.specs.Step.{effect, one_operand_effect}
use Rattle.msp_step.specs.Laws.{AfterWrite}

-- at most n reads before it is completed or faulted
abbrev pub Reads : {S A : Type 0} → BusModel S → ℕ → S → Access S A → Type 0
Reads bus n s (Completed x t) = OnlyReads bus n s t
Reads bus n s (Faulted r a t) = OnlyReads bus n s t

-- at most n reads, and then, where it is completed, at most one write
abbrev pub Ends : {S : Type 0} → BusModel S → ℕ → S → Access S (Registers × Option Written) → Type 0
Ends {S} bus n s (Completed x t) = (u : S) × OnlyReads bus n s u × AfterWrite bus x.1 u t
Ends bus n s (Faulted r a t) = OnlyReads bus n s t

pub none_read : {S : Type 0} (bus : BusModel S) (s : S) → OnlyReads bus 0 s s
none_read bus s = record { count = 0; few = omega arith; reads = Nothing }

weaken : {S : Type 0} (bus : BusModel S) (n m : ℕ) (s t : S) → n ≤ m → OnlyReads bus n s t → OnlyReads bus m s t
weaken bus n m s t le h = record { count = h.count; few = let f = h.few in omega arith; reads = h.reads }

then_reads : {S A B : Type 0} (bus : BusModel S) (n m : ℕ) (s : S) (x : Access S A) (f : A → S → Access S B) → n ≤ m → Reads bus n s x
    → ((a : A) (t : S) → OnlyReads bus n s t → Reads bus m s (f a t)) → Reads bus m s (then_do x f)
then_reads bus n m s (Completed x t) f le h g = g x t h
then_reads bus n m s (Faulted r a t) f le h g = weaken bus n m s t le h

then_ends : {S A : Type 0} (bus : BusModel S) (n m : ℕ) (s : S) (x : Access S A) (f : A → S → Access S (Registers × Option Written)) → n ≤ m
    → Reads bus n s x → ((a : A) (t : S) → OnlyReads bus n s t → Ends bus m s (f a t)) → Ends bus m s (then_do x f)
then_ends bus n m s (Completed x t) f le h g = g x t h
then_ends bus n m s (Faulted r a t) f le h g = weaken bus n m s t le h

answered : {S : Type 0} (bus : BusModel S) (n : ℕ) (s t : S) (r : Result ℕ Refused) (a : ℕ) (w : Width) → OnlyReads bus n s t → bus.reads t a w ≡ r
    → Reads bus (suc n) s (read_answer r a t (bus.after_read t a w))
answered bus n s t (Ok v) a w h e = record { count = suc h.count; few = let f = h.few in omega arith; reads = Once h.count t a w v h.reads e }
answered bus n s t (Err r) a w h e = weaken bus n (suc n) s t (omega arith) h

read_reads : {S : Type 0} (bus : BusModel S) (n : ℕ) (s t : S) (a : ℕ) (w : Width) → OnlyReads bus n s t → Reads bus (suc n) s (read_at bus a w t)
read_reads bus n s t a w h = answered bus n s t (bus.reads t a w) a w h refl

written : {S : Type 0} (bus : BusModel S) (n : ℕ) (s t : S) (r : Option S) (a : ℕ) (w : Width) (v : ℕ) (q : Registers) → OnlyReads bus n s t
    → bus.writes t a w v ≡ r → Ends bus n s (write_answer r a t (q, Some (a, v)))
written bus n s t (Some u) a w v q h e = (t, h, (w, e))
written bus n s t None a w v q h e = h

write_ends : {S : Type 0} (bus : BusModel S) (n : ℕ) (s t : S) (a : ℕ) (w : Width) (v : ℕ) (q : Registers) → OnlyReads bus n s t
    → Ends bus n s (write_at bus a w v (q, Some (a, v)) t)
write_ends bus n s t a w v q h = written bus n s t (bus.writes t a w v) a w v q h refl

load_reads : {S : Type 0} (bus : BusModel S) (n : ℕ) (s t : S) (r : Registers) (w : Width) (l : Location) → OnlyReads bus n s t
    → Reads bus (suc n) s (load bus r w l t)
load_reads bus n s t r w (Register q) h = weaken bus n (suc n) s t (omega arith) h
load_reads bus n s t r w (Memory a) h = read_reads bus n s t a w h

store_ends : {S : Type 0} (bus : BusModel S) (n : ℕ) (s t : S) (r : Registers) (w : Width) (l : Location) (v : ℕ) → OnlyReads bus n s t
    → Ends bus n s (store bus r w l v t)
store_ends bus n s t r w (Register q) v h = (t, h, refl)
store_ends bus n s t r w (Memory a) v h = write_ends bus n s t a w v r h

source_reads : {S : Type 0} (bus : BusModel S) (s : S) (r : Registers) (w : Width) (x : Src) → Reads bus 1 s (source bus r w x s)
source_reads bus s r w (src.Operand p) = then_reads {A = ℕ} bus 1 1 s (load bus r w (operand_location r (r 0) p) s)
    (λ v t. Completed (v, incremented r w p) t) (omega arith) (load_reads bus 0 s s r w (operand_location r (r 0) p) (none_read bus s)) (λ v t h. h)
source_reads bus s r w (src.Immediate v) = weaken bus 0 1 s s (omega arith) (none_read bus s)
source_reads bus s r w (src.Constant k) = weaken bus 0 1 s s (omega arith) (none_read bus s)

destination_reads : {S : Type 0} (bus : BusModel S) (n : ℕ) (s t : S) (b : Bool) (r : Registers) (w : Width) (l : Location) → OnlyReads bus n s t
    → Reads bus (suc n) s (destination_operand b bus r w l t)
destination_reads bus n s t true r w l h = load_reads bus n s t r w l h
destination_reads bus n s t false r w l h = weaken bus n (suc n) s t (omega arith) h

finish_ends : {S : Type 0} (bus : BusModel S) (n : ℕ) (s t : S) (b : Bool) (r : Registers) (w : Width) (l : Location) (v : ℕ) → OnlyReads bus n s t
    → Ends bus n s (finish b bus r w l v t)
finish_ends bus n s t true r w l v h = store_ends bus n s t r w l v h
finish_ends bus n s t false r w l v h = (t, h, refl)

after_source_ends : {S : Type 0} (bus : BusModel S) (s t : S) (op : TwoOp) (w : Width) (l : Location) (v : ℕ) (r : Registers) → OnlyReads bus 1 s t
    → Ends bus 2 s (after_source bus op w l v r t)
after_source_ends bus s t op w l v r h =
    let last : ℕ → _ = λ d. operated op w d v (flags_of (r 2)) in
    then_ends {A = ℕ} bus 2 2 s (destination_operand (reads_destination op) bus r w l t)
    (λ d u. finish (writes_destination op) bus (with_flags r (last d).flags) w l (last d).value u) (omega arith)
    (destination_reads bus 1 s t (reads_destination op) r w l h)
    (λ d u g. finish_ends bus 2 s u (writes_destination op) (with_flags r (last d).flags) w l (last d).value g)

two_ends : {S : Type 0} (bus : BusModel S) (s : S) (op : TwoOp) (w : Width) (x : Src) (d : Dst) (r : Registers)
    → Ends bus 2 s (two_operand_effect bus op w x d r s)
two_ends bus s op w x d r =
    let first = word_sum (r 0) 2 in
    let ext = word_sum first (2 * length (source_row x).extension) in
    let moved : Registers → Registers = λ q. with_register q 0 (word_sum ext (2 * length (destination_row d).extension)) in
    then_ends {A = ℕ × Registers} bus 1 2 s (source bus (with_register r 0 first) w x s)
    (λ y t. after_source bus op w (destination_location (moved y.1) ext d) y.0 (moved y.1) t) (omega arith) (source_reads bus s (with_register r 0 first) w x)
    (λ y t h. after_source_ends bus s t op w (destination_location (moved y.1) ext d) y.0 (moved y.1) h)

modify_ends : {S : Type 0} (bus : BusModel S) (s : S) (f : Width → ℕ → Flags → Operated) (w : Width) (p : Operand) (r : Registers)
    → Ends bus 2 s (read_modify_write bus f w p r s)
modify_ends bus s f w p r =
    let first = word_sum (r 0) 2 in
    let moved = with_register r 0 first in
    let l = operand_location moved first p in
    let past = with_register (incremented moved w p) 0 (word_sum first (2 * length (operand_row p).extension)) in
    then_ends {A = ℕ} bus 1 2 s (load bus moved w l s) (λ v t. written_back bus f w l v past t) (omega arith) (load_reads bus 0 s s moved w l (none_read bus s))
    (λ v t h. store_ends bus 2 s t (with_flags past (f w v (flags_of (past 2))).flags) w l (f w v (flags_of (past 2))).value
    (weaken bus 1 2 s t (omega arith) h))

push_ends : {S : Type 0} (bus : BusModel S) (s : S) (w : Width) (x : Src) (r : Registers) → Ends bus 2 s (push_effect bus w x r s)
push_ends bus s w x r =
    let first = word_sum (r 0) 2 in
    let past : Registers → Registers = λ q. with_register q 0 (word_sum first (2 * length (source_row x).extension)) in
    then_ends {A = ℕ × Registers} bus 1 2 s (source bus (with_register r 0 first) w x s) (λ y t. pushed bus w y.0 (past y.1) t) (omega arith)
    (source_reads bus s (with_register r 0 first) w x)
    (λ y t h. write_ends bus 2 s t (below_stack (past y.1)) w y.0 (with_register (past y.1) 1 (below_stack (past y.1))) (weaken bus 1 2 s t (omega arith) h))

call_ends : {S : Type 0} (bus : BusModel S) (s : S) (x : Src) (r : Registers) → Ends bus 2 s (call_effect bus x r s)
call_ends bus s x r =
    let first = word_sum (r 0) 2 in
    let past : Registers → Registers = λ q. with_register q 0 (word_sum first (2 * length (source_row x).extension)) in
    then_ends {A = ℕ × Registers} bus 1 2 s (source bus (with_register r 0 first) Word x s) (λ y t. called bus y.0 (past y.1) t) (omega arith)
    (source_reads bus s (with_register r 0 first) Word x)
    (λ y t h. write_ends bus 2 s t (below_stack (past y.1)) Word (past y.1 0) (with_register (with_register (past y.1) 1 (below_stack (past y.1))) 0 y.0)
    (weaken bus 1 2 s t (omega arith) h))

reti_ends : {S : Type 0} (bus : BusModel S) (s : S) (r : Registers) → Ends bus 2 s (reti_effect bus r s)
reti_ends bus s r =
    let after : ℕ → ℕ → Registers = λ sr pc. with_register (with_register (with_register r 1 (word_sum (r 1) 4)) 2 sr) 0 pc in
    then_ends {A = ℕ} bus 1 2 s (read_at bus (r 1) Word s) (λ sr t. then_do (read_at bus (word_sum (r 1) 2) Word t) (λ pc u. Completed (after sr pc, None) u))
    (omega arith) (read_reads bus 0 s s (r 1) Word (none_read bus s))
    (λ sr t h. then_ends {A = ℕ} bus 2 2 s (read_at bus (word_sum (r 1) 2) Word t) (λ pc u. Completed (after sr pc, None) u) (omega arith)
    (read_reads bus 1 s t (word_sum (r 1) 2) Word h) (λ pc u g. (u, g, refl)))

one_ends : {S : Type 0} (bus : BusModel S) (s : S) (o : OneOp) (r : Registers) → Ends bus 2 s (one_operand_effect bus o r s)
one_ends bus s (one.Rrc w p) r = modify_ends bus s rotated w p r
one_ends bus s (one.Rra w p) r = modify_ends bus s shifted w p r
one_ends bus s (one.Swpb p) r = modify_ends bus s exchanged Word p r
one_ends bus s (one.Sxt p) r = modify_ends bus s sign_extended Word p r
one_ends bus s (one.Push w x) r = push_ends bus s w x r
one_ends bus s (one.Call x) r = call_ends bus s x r

-- an instruction reads at most twice, and then may write
pub effect_ends : {S : Type 0} (bus : BusModel S) (i : Instr) (r : Registers) (s : S) → Ends bus 2 s (effect bus i r s)
unfolding effect
effect_ends bus (instr.Two op w x d) r s = two_ends bus s op w x d r
effect_ends bus (instr.One o) r s = one_ends bus s o r
effect_ends bus (instr.Jump c o) r s = (s, weaken bus 0 2 s s (omega arith) (none_read bus s), refl)
effect_ends bus instr.Reti r s = reti_ends bus s r

pub faulted_after_reads : {S : Type 0} (bus : BusModel S) (i : Instr) (r : Registers) (s t : S) (e : Refused) (a : ℕ) → effect bus i r s ≡ Faulted e a t
    → OnlyReads bus 2 s t
faulted_after_reads {S} bus i r s t e a h =
    let P : Access S (Registers × Option Written) → Type 0 = λ m. Ends bus 2 s m in
    subst P h (effect_ends bus i r s)

-- reads keep the memory, where each of them does
pub reads_keep : {S : Type 0} (bus : BusModel S) → ((s : S) (a : ℕ) (w : Width) → bus.memory (bus.after_read s a w) ≡ bus.memory s) → (s t : S) (n : ℕ)
    → HasRead bus s n t → bus.memory t ≡ bus.memory s
reads_keep bus keeps s t n Nothing = refl
reads_keep bus keeps s t n (Once m u a w v h e) = keeps u a w ∙ reads_keep bus keeps s u m h
