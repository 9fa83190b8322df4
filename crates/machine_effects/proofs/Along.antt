-- What an instruction leaves of its registers and its bus, along the accesses that it makes.
use Rattle.std.proofs.Common.{◌≡◌, ◌<◌, ◌*◌, if◌then◌else◌, arith, ℕ, refl, length, Bool, true, false, Option, Some, None}
use Rattle.std.specs.Prelude.{Result, Ok, Err}
use Rattle.fram_board.specs.alp_words.declared.Width.{Width}
use Rattle.fram_board.specs.alp_words.declared.Width.TheVariants.{Word}
use Rattle.fram_board.specs.alp_words.declared.Flags.{Flags}
use Rattle.fram_board.specs.alp_words.Words.{operand}
use Rattle.fram_board.specs.msp_isa.declared.registers.Reg.{Reg}
use Rattle.fram_board.specs.msp_isa.declared.operands.Konst.{Konst}
use Rattle.fram_board.specs.msp_isa.declared.operands.Operand.{Operand}
use Rattle.fram_board.specs.msp_isa.declared.operands.Operand.TheVariants as mode
use Rattle.fram_board.specs.msp_isa.declared.operands.Src.{Src}
use Rattle.fram_board.specs.msp_isa.declared.operands.Src.TheVariants as src
use Rattle.fram_board.specs.msp_isa.declared.operands.Dst.{Dst}
use Rattle.fram_board.specs.msp_isa.declared.instructions.TwoOp.{TwoOp}
use Rattle.fram_board.specs.msp_isa.declared.instructions.OneOp.{OneOp}
use Rattle.fram_board.specs.msp_isa.declared.instructions.OneOp.TheVariants as one
use Rattle.fram_board.specs.msp_isa.declared.instructions.Instr.{Instr}
use Rattle.fram_board.specs.msp_isa.declared.instructions.Instr.TheVariants as instr
use Rattle.fram_board.specs.msp_isa.Constant.{constant_value}
use Rattle.fram_board.specs.msp_isa.Encoding.{index_number, register_number, source_row, destination_row, operand_row}
use Rattle.fram_board.proofs.msp_isa.Interface.{index_below}
use Rattle.fram_board.specs.msp_step.declared.bus.Refused.{Refused}
use Rattle.fram_board.specs.msp_step.declared.operand.Location.{Location}
use Rattle.fram_board.specs.msp_step.declared.operand.Location.TheVariants.{Register, Memory}
use Rattle.fram_board.specs.msp_step.Registers.{Registers, with_register}
use Rattle.fram_board.specs.msp_step.Access.{BusModel, Access, Completed, Faulted, then_do, read_answer, write_answer, read_at, write_at}
use Rattle.fram_board.specs.msp_step.Effect.{Operated, word_sum, step_of, status_with, Written, source, load, store, finish, operand_location, incremented}
use Rattle.fram_board.specs.msp_step.Effect.{destination_operand, after_source, operated, flags_of, with_flags, reads_destination, writes_destination}
use Rattle.fram_board.specs.msp_step.Effect.{destination_location, two_operand_effect, is_met, distance, read_modify_write, rotated, shifted, exchanged}
use Rattle.fram_board.specs.msp_step.Effect.{sign_extended}
use Rattle.fram_board.specs.msp_step.Effect.{below_stack, push_effect, call_effect, reti_effect}
use Rattle.fram_board.specs.msp_step.Step.{effect, one_operand_effect}

-- W holds of values, P of registers and Q of the bus, and each part of an instruction keeps them
pub record IsClosed {S : Type 0} (bus : BusModel S) (W : ℕ → Type 0) (P : Registers → Type 0) (Q : S → Type 0) : Type 0 where
  pub register : (r : Registers) (n : ℕ) → P r → W (r n)
  pub with : (r : Registers) (n v : ℕ) → n < 16 → W v → P r → P (with_register r n v)
  pub read : (s : S) (a : ℕ) (w : Width) (v : ℕ) → Q s → bus.reads s a w ≡ Ok v → W v
  pub after : (s : S) (a : ℕ) (w : Width) (v : ℕ) → Q s → bus.reads s a w ≡ Ok v → Q (bus.after_read s a w)
  pub write : (s : S) (a : ℕ) (w : Width) (v : ℕ) (t : S) → Q s → W v → bus.writes s a w v ≡ Some t → Q t
  pub narrow : (w : Width) (v : ℕ) → W v → W (operand w v)
  pub sum : (a b : ℕ) → W (word_sum a b)
  pub constant : (k : Konst) → W (constant_value k)
  pub status : (sr : ℕ) (f : Flags) → W (status_with sr f)
  pub two : (op : TwoOp) (w : Width) (d s : ℕ) (f : Flags) → W d → W s → W (operated op w d s f).value
  pub rotate : (w : Width) (v : ℕ) (f : Flags) → W v → W (rotated w v f).value
  pub shift : (w : Width) (v : ℕ) (f : Flags) → W v → W (shifted w v f).value
  pub exchange : (w : Width) (v : ℕ) (f : Flags) → W v → W (exchanged w v f).value
  pub extend : (w : Width) (v : ℕ) (f : Flags) → W v → W (sign_extended w v f).value
  pub nothing : W 0

-- of an immediate
abbrev pub SourceHas : (ℕ → Type 0) → Src → Type 0
SourceHas W (src.Operand p) = Unit {0}
SourceHas W (src.Immediate n) = W n
SourceHas W (src.Constant k) = Unit {0}

-- of the immediate of an instruction, if it has one
abbrev pub InstructionHas : (ℕ → Type 0) → Instr → Type 0
InstructionHas W (instr.Two op w x d) = SourceHas W x
InstructionHas W (instr.One (one.Push w x)) = SourceHas W x
InstructionHas W (instr.One (one.Call x)) = SourceHas W x
InstructionHas W (instr.One (one.Rrc w p)) = Unit {0}
InstructionHas W (instr.One (one.Rra w p)) = Unit {0}
InstructionHas W (instr.One (one.Swpb p)) = Unit {0}
InstructionHas W (instr.One (one.Sxt p)) = Unit {0}
InstructionHas W (instr.Jump c o) = Unit {0}
InstructionHas W instr.Reti = Unit {0}

-- of what an access gives, and of the bus after it
abbrev pub Gives : {S A : Type 0} → (S → Type 0) → (A → Type 0) → Access S A → Type 0
Gives Q G (Completed x s) = G x × Q s
Gives Q G (Faulted e a s) = Q s

register_low : (n : Reg) → register_number n < 16
register_low n = grind arith

module _ {S : Type 0} (bus : BusModel S) (W : ℕ → Type 0) (P : Registers → Type 0) (Q : S → Type 0) (closed : IsClosed bus W P Q) where
  then_gives : {A B : Type 0} (x : Access S A) (f : A → S → Access S B) (G : A → Type 0) (H : B → Type 0) → Gives Q G x
      → ((a : A) (t : S) → G a → Q t → Gives Q H (f a t)) → Gives Q H (then_do x f)
  then_gives (Completed a t) f G H g h = h a t g.0 g.1
  then_gives (Faulted e a t) f G H g h = g

  answered : (o : Result ℕ Refused) (a : ℕ) (s : S) (w : Width) → bus.reads s a w ≡ o → Q s → Gives Q W (read_answer o a s (bus.after_read s a w))
  answered (Ok v) a s w e q = (closed.read s a w v q e, closed.after s a w v q e)
  answered (Err r) a s w e q = q

  read_gives : (a : ℕ) (w : Width) (s : S) → Q s → Gives Q W (read_at bus a w s)
  read_gives a w s q = answered (bus.reads s a w) a s w refl q

  wrote : {A : Type 0} (o : Option S) (a : ℕ) (s : S) (w : Width) (v : ℕ) (x : A) (G : A → Type 0) → bus.writes s a w v ≡ o → Q s → W v → G x
      → Gives Q G (write_answer o a s x)
  wrote (Some t) a s w v x G e q h g = (g, closed.write s a w v t q h e)
  wrote None a s w v x G e q h g = q

  write_gives : {A : Type 0} (a : ℕ) (w : Width) (v : ℕ) (x : A) (s : S) (G : A → Type 0) → Q s → W v → G x → Gives Q G (write_at bus a w v x s)
  write_gives a w v x s G q h g = wrote (bus.writes s a w v) a s w v x G refl q h g

  load_gives : (r : Registers) (w : Width) (l : Location) (s : S) → P r → Q s → Gives Q W (load bus r w l s)
  load_gives r w (Register n) s p q = (closed.narrow w (r (register_number n)) (closed.register r (register_number n) p), q)
  load_gives r w (Memory a) s p q = read_gives a w s q

  abbrev Left : Registers × Option Written → Type 0
  Left y = P y.0

  store_gives : (r : Registers) (w : Width) (l : Location) (v : ℕ) (s : S) → P r → Q s → W v → Gives Q Left (store bus r w l v s)
  store_gives r w (Register n) v s p q h = (closed.with r (register_number n) v (register_low n) h p, q)
  store_gives r w (Memory a) v s p q h = write_gives a w v (r, Some (a, v)) s Left q h p

  finish_gives : (b : Bool) (r : Registers) (w : Width) (l : Location) (v : ℕ) (s : S) → P r → Q s → W v → Gives Q Left (finish b bus r w l v s)
  finish_gives true r w l v s p q h = store_gives r w l v s p q h
  finish_gives false r w l v s p q h = (p, q)

  pc_gives : (r : Registers) (a b : ℕ) → P r → P (with_register r 0 (word_sum a b))
  pc_gives r a b p = closed.with r 0 (word_sum a b) (omega arith) (closed.sum a b) p

  increment_gives : (o : Operand) (r : Registers) (w : Width) → P r → P (incremented r w o)
  increment_gives (mode.Increment b) r w p =
      closed.with r (index_number b) (word_sum (r (index_number b)) (step_of w (index_number b))) (index_below b)
      (closed.sum (r (index_number b)) (step_of w (index_number b))) p
  increment_gives (mode.Reg n) r w p = p
  increment_gives (mode.Indexed b x) r w p = p
  increment_gives (mode.Symbolic x) r w p = p
  increment_gives (mode.Absolute a) r w p = p
  increment_gives (mode.Indirect b) r w p = p

  flags_gives : (f : Option Flags) (r : Registers) → P r → P (with_flags r f)
  flags_gives None r p = p
  flags_gives (Some f) r p = closed.with r 2 (status_with (r 2) f) (omega arith) (closed.status (r 2) f) p

  abbrev Loaded : ℕ × Registers → Type 0
  Loaded y = W y.0 × P y.1

  source_gives : (r : Registers) (w : Width) (x : Src) (s : S) → SourceHas W x → P r → Q s → Gives Q Loaded (source bus r w x s)
  source_gives r w (src.Operand o) s i p q =
      then_gives (load bus r w (operand_location r (r 0) o) s) _ W Loaded (load_gives r w (operand_location r (r 0) o) s p q)
      (λ v t g k. ((g, increment_gives o r w p), k))
  source_gives r w (src.Immediate n) s i p q = ((closed.narrow w n i, p), q)
  source_gives r w (src.Constant k) s i p q = ((closed.narrow w (constant_value k) (closed.constant k), p), q)

  destination_gives : (b : Bool) (r : Registers) (w : Width) (l : Location) (s : S) → P r → Q s → Gives Q W (destination_operand b bus r w l s)
  destination_gives true r w l s p q = load_gives r w l s p q
  destination_gives false r w l s p q = (closed.nothing, q)

  after_gives : (op : TwoOp) (w : Width) (l : Location) (v : ℕ) (r : Registers) (s : S) → P r → Q s → W v → Gives Q Left (after_source bus op w l v r s)
  after_gives op w l v r s p q h =
      then_gives (destination_operand (reads_destination op) bus r w l s) _ W Left (destination_gives (reads_destination op) r w l s p q)
      (λ d t g k. finish_gives (writes_destination op) (with_flags r (operated op w d v (flags_of (r 2))).flags) w l
      (operated op w d v (flags_of (r 2))).value t (flags_gives (operated op w d v (flags_of (r 2))).flags r p) k
      (closed.two op w d v (flags_of (r 2)) g h))

  two_gives : (op : TwoOp) (w : Width) (x : Src) (d : Dst) (r : Registers) (s : S) → SourceHas W x → P r → Q s
      → Gives Q Left (two_operand_effect bus op w x d r s)
  two_gives op w x d r s i p q =
      let first = word_sum (r 0) 2 in
      let ext = word_sum first (2 * length (source_row x).extension) in
      then_gives (source bus (with_register r 0 first) w x s) _ Loaded Left (source_gives (with_register r 0 first) w x s i (pc_gives r (r 0) 2 p) q)
      (λ y t g k. after_gives op w (destination_location (with_register y.1 0 (word_sum ext (2 * length (destination_row d).extension))) ext d) y.0
      (with_register y.1 0 (word_sum ext (2 * length (destination_row d).extension))) t
      (pc_gives y.1 ext (2 * length (destination_row d).extension) g.1) k g.0)

  modified_gives : (f : Width → ℕ → Flags → Operated) → ((w : Width) (v : ℕ) (g : Flags) → W v → W (f w v g).value)
      → (w : Width) (o : Operand) (r : Registers) (s : S) → P r → Q s → Gives Q Left (read_modify_write bus f w o r s)
  modified_gives f keeps w o r s p q =
      let first = word_sum (r 0) 2 in
      let moved = with_register r 0 first in
      let ready = with_register (incremented moved w o) 0 (word_sum first (2 * length (operand_row o).extension)) in
      then_gives (load bus moved w (operand_location moved first o) s) _ W Left (load_gives moved w (operand_location moved first o) s (pc_gives r (r 0) 2 p) q)
      (λ v t g k. store_gives (with_flags ready (f w v (flags_of (ready 2))).flags) w (operand_location moved first o) (f w v (flags_of (ready 2))).value t
      (flags_gives (f w v (flags_of (ready 2))).flags ready (pc_gives (incremented moved w o) first (2 * length (operand_row o).extension)
      (increment_gives o moved w (pc_gives r (r 0) 2 p)))) k (keeps w v (flags_of (ready 2)) g))

  lowered_gives : (r : Registers) → P r → P (with_register r 1 (below_stack r))
  lowered_gives r p = closed.with r 1 (below_stack r) (omega arith) (closed.sum (r 1) 0xFFFE) p

  push_gives : (w : Width) (x : Src) (r : Registers) (s : S) → SourceHas W x → P r → Q s → Gives Q Left (push_effect bus w x r s)
  push_gives w x r s i p q =
      let first = word_sum (r 0) 2 in
      then_gives (source bus (with_register r 0 first) w x s) _ Loaded Left (source_gives (with_register r 0 first) w x s i (pc_gives r (r 0) 2 p) q)
      (λ y t g k.
      let ready = with_register y.1 0 (word_sum first (2 * length (source_row x).extension)) in
      write_gives (below_stack ready) w y.0 (with_register ready 1 (below_stack ready), Some (below_stack ready, y.0)) t Left k g.0
      (lowered_gives ready (pc_gives y.1 first (2 * length (source_row x).extension) g.1)))

  call_gives : (x : Src) (r : Registers) (s : S) → SourceHas W x → P r → Q s → Gives Q Left (call_effect bus x r s)
  call_gives x r s i p q =
      let first = word_sum (r 0) 2 in
      then_gives (source bus (with_register r 0 first) Word x s) _ Loaded Left (source_gives (with_register r 0 first) Word x s i (pc_gives r (r 0) 2 p) q)
      (λ y t g k.
      let ready = with_register y.1 0 (word_sum first (2 * length (source_row x).extension)) in
      let ok : P ready = pc_gives y.1 first (2 * length (source_row x).extension) g.1 in
      write_gives (below_stack ready) Word (ready 0) (
        with_register (with_register ready 1 (below_stack ready)) 0 y.0,
        Some
            (below_stack ready, ready 0),
      ) t Left k (closed.register ready 0 ok) (closed.with (with_register ready 1 (below_stack ready)) 0 y.0
      (omega arith) g.0 (lowered_gives ready ok)))

  reti_gives : (r : Registers) (s : S) → P r → Q s → Gives Q Left (reti_effect bus r s)
  reti_gives r s p q = then_gives (read_at bus (r 1) Word s) _ W Left (read_gives (r 1) Word s q) (λ sr t g k.
      then_gives (read_at bus (word_sum (r 1) 2) Word t) _ W Left (read_gives (word_sum (r 1) 2) Word t k) (λ pc u h j. (
        closed.with (with_register (with_register r 1 (word_sum (r 1) 4)) 2 sr) 0 pc (omega arith) h
            (closed.with (with_register r 1 (word_sum (r 1) 4)) 2 sr (omega arith) g (closed.with r 1 (word_sum (r 1) 4) (omega arith) (closed.sum (r 1) 4) p)),
        j,
      )))

  one_gives : (o : OneOp) (r : Registers) (s : S) → InstructionHas W (instr.One o) → P r → Q s → Gives Q Left (one_operand_effect bus o r s)
  one_gives (one.Rrc w o) r s i p q = modified_gives rotated closed.rotate w o r s p q
  one_gives (one.Rra w o) r s i p q = modified_gives shifted closed.shift w o r s p q
  one_gives (one.Swpb o) r s i p q = modified_gives exchanged closed.exchange Word o r s p q
  one_gives (one.Sxt o) r s i p q = modified_gives sign_extended closed.extend Word o r s p q
  one_gives (one.Push w x) r s i p q = push_gives w x r s i p q
  one_gives (one.Call x) r s i p q = call_gives x r s i p q

  jump_gives : (b : Bool) (r : Registers) (d : ℕ) → P r → P (with_register r 0 (if b then word_sum (word_sum (r 0) 2) d else word_sum (r 0) 2))
  jump_gives true r d p = pc_gives r (word_sum (r 0) 2) d p
  jump_gives false r d p = pc_gives r (r 0) 2 p

  pub effect_gives : (i : Instr) (r : Registers) (s : S) → InstructionHas W i → P r → Q s → Gives Q (λ y. P y.0) (effect bus i r s)
  unfolding effect
  effect_gives (instr.Two op w x d) r s i p q = two_gives op w x d r s i p q
  effect_gives (instr.Jump c o) r s i p q = (jump_gives (is_met c (flags_of (r 2))) r (distance o) p, q)
  effect_gives (instr.One o) r s i p q = one_gives o r s i p q
  effect_gives instr.Reti r s i p q = reti_gives r s p q
