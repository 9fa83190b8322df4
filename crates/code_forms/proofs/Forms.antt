-- Each form does what its instruction does.
use Rattle.std.proofs.Common.{◌≡◌, ◌/◌, ◌==◌, ◌&&◌, if◌then◌else◌, ◌+◌, ◌-◌, ◌*◌, ◌%◌, ◌≤◌, ℕ, refl, sym, ◌∙◌, ap, ap₂, Bool, true, false, arith, List, [], ◌∷◌, Option}
use Rattle.std.proofs.Common.{Some, None, length, nat_le, nat_lt, ◌<◌, append-nil}
use Rattle.std.specs.Prelude.{is_some, unwrap_or}
use Rattle.std.proofs.lemmas.Bool.Decides.{nat_tests}
use Rattle.machine_effects.specs.alp_words.declared.Flags.{Flags}
use Rattle.machine_effects.specs.alp_words.declared.Width.{Width}
use Rattle.machine_effects.specs.alp_words.declared.Width.TheVariants.{Word}
use Rattle.machine_effects.specs.alp_words.Words.{sum_of, difference_of}
use Rattle.machine_effects.specs.msp_isa.declared.instructions.TwoOp.{TwoOp}
use Rattle.machine_effects.specs.msp_isa.declared.instructions.TwoOp.TheVariants.{Mov, Add, Addc, Subc, Sub, Cmp, Dadd, Bit, Bic, Bis, Xor, And}
use Rattle.machine_effects.specs.msp_isa.declared.instructions.Condition.{Condition}
use Rattle.machine_effects.specs.msp_isa.declared.instructions.Instr.TheVariants as instr
use Rattle.machine_effects.specs.msp_isa.declared.operands.Dst.{Dst}
use Rattle.machine_effects.specs.msp_isa.declared.operands.Dst.TheVariants as dst
use Rattle.machine_effects.specs.msp_isa.declared.operands.Konst.TheVariants as konst
use Rattle.machine_effects.specs.msp_isa.declared.operands.Operand.TheVariants as mode
use Rattle.machine_effects.specs.msp_isa.declared.registers.Reg.TheVariants as reg
use Rattle.machine_effects.specs.msp_isa.declared.registers.IndexRegister.TheVariants as index
use Rattle.machine_effects.specs.msp_isa.declared.registers.SourceRegister.TheVariants as source_register
use Rattle.machine_effects.specs.msp_isa.Encoding.{source_row, destination_row, index_number}
use Rattle.machine_effects.specs.msp_cycles.Cycles.{cycles_of}
use Rattle.machine_effects.specs.msp_step.declared.operand.Location.TheVariants as location
use Rattle.machine_effects.specs.msp_step.Registers.{Registers, with_register}
use Rattle.machine_effects.specs.msp_step.Access.{Access, Completed, then_do, read_at}
use Rattle.machine_effects.specs.msp_step.Effect.{written_back, store, read_modify_write, shifted, rotated, exchanged, sign_extended}
use Rattle.machine_effects.specs.msp_step.Effect.{push_effect, pushed, call_effect, called, reads_destination, writes_destination, with_flags, Operated}
use Rattle.machine_effects.specs.msp_step.Effect.{finish, word_sum, source}
use Rattle.machine_effects.specs.msp_step.Effect.{after_source, two_operand_effect, destination_location, Written, distance, is_met, operated}
use Rattle.machine_effects.specs.msp_step.Step.{effect, off_bit}
use Rattle.machine_effects.specs.event_places.Places.{handler_place, head_place, ring_place, is_ring}
use Rattle.machine_effects.specs.fram_board.Bus.{is_word, is_ram}
use Rattle.machine_effects.specs.fram_board.Effects.{Effect, Store}
use Rattle.machine_effects.specs.World.{put}
use Rattle.machine_effects.specs.Going.{Goes, Stops, step_behind}
use Rattle.machine_effects.specs.msp_step.declared.machine.Stop.TheVariants as stop
use Rattle.machine_effects.specs.msp_isa.declared.instructions.Instr.{Instr}
use Rattle.machine_effects.specs.Inputs.{Look, first_look, other_looks, look_effects}
use Rattle.machine_effects.specs.Machine.{MachineBoard, MachineOutcome, MachineBus, machine_bus, machine_outcome, word_address, is_readable}
use Rattle.machine_effects.specs.Machine.{IsPlace, IsRam}
use Rattle.machine_effects.specs.Machine.{looks_there, source_looks, machine_executed, executed_looking, code_executed}
use Rattle.code_forms.specs.Forms.{WorkRegister, work_number, index_of, Core, register_file, board_of, outcome_of_core, Source, Register, Number, Constant}
use Rattle.code_forms.specs.Forms.{Fram, Ram, Pointed, PointedNext, Indexed, Popped, StackNext, Head, Slot}
use Rattle.code_forms.specs.Forms.{source_operand, source_bytes, source_value, source_read, source_effects, SourceNeeds, CoreOutcome, behind_source}
use Rattle.code_forms.specs.Forms.{Target, ToRegister, ToFram, ToRam, ToIndexed, ToPointed, ToOutnum, ToOutdata, target_operand, target_bytes, target_written}
use Rattle.code_forms.specs.Forms.{TargetNeeds, Form, Move, Calculate, Compare, Update, Push, Modify, SetStack, Sense, Jump, Skip, Branch, BranchIndexed}
use Rattle.code_forms.specs.Forms.{SkipBy, instruction_of, flags_after, calculated, sensed, form_step, FormNeeds, IsNotMov, HasPushRoom, IsCodeAddress, IsSlot}
use Rattle.code_forms.specs.Forms.{EnableInterrupts, Call, Return, KeepStack, RestoreStack, Modification, modified}
use Rattle.instruction_forms.specs.declared.kinds.Modification.TheVariants as change
use Rattle.code_forms.specs.Forms.{CodeRules, IsKnown, ram_word}
use Rattle.code_forms.proofs.Registers.{set_pc, set_sp, set_work, get_work, high, number, set_flags, flags_back, enable, is_on, no_port}

-- what an instruction does, but for the words that it uncovers
abbrev pub plainly : Instr → MachineBoard → MachineOutcome
plainly i s = if off_bit s.registers == 1 then Stops [] 0 stop.Off else code_executed s i

-- what a form does but for those
abbrev pub plain_step : Form → Core → CoreOutcome
plain_step (SetStack n) u = Goes [] 2 (record u { pc = u.pc + 4; sp = n })
plain_step m u = form_step m u

-- code without events of which nothing is said
abbrev plain : CodeRules
plain = record { events = false; low = 0; high = 0x10000 }

-- the bus of an instruction that began with SP here, and sees this of the ring
abbrev inside : ℕ → Option Look → Core → MachineBus
inside floor ring u = record { fram = u.fram; ram = u.ram; inputs = u.inputs; outnum = u.outnum; log = []; floor = floor; ring = ring }

-- the bus as an instruction begins that takes the first of these looks, if it looks
abbrev seen_by : List Look → Core → MachineBus
seen_by looks u = inside u.sp (Some (first_look looks)) (record u { inputs = record u.inputs { looks = other_looks looks } })

-- as one begins with this source
abbrev begun : Source → Core → MachineBus
begun Head u = seen_by u.inputs.looks u
begun (Slot b) u = seen_by u.inputs.looks u
begun (Register b) u = inside u.sp None u
begun (Number n) u = inside u.sp None u
begun (Constant k) u = inside u.sp None u
begun (Fram a) u = inside u.sp None u
begun (Ram a) u = inside u.sp None u
begun (Pointed b) u = inside u.sp None u
begun (PointedNext b) u = inside u.sp None u
begun (Indexed b x) u = inside u.sp None u
begun Popped u = inside u.sp None u
begun (StackNext b) u = inside u.sp None u

-- what it sees of the ring
abbrev ring_of : Source → Core → Option Look
ring_of Head u = Some (first_look u.inputs.looks)
ring_of (Slot b) u = Some (first_look u.inputs.looks)
ring_of (Register b) u = None
ring_of (Number n) u = None
ring_of (Constant k) u = None
ring_of (Fram a) u = None
ring_of (Ram a) u = None
ring_of (Pointed b) u = None
ring_of (PointedNext b) u = None
ring_of (Indexed b x) u = None
ring_of Popped u = None
ring_of (StackNext b) u = None

abbrev regs_in : Core → ℕ → Registers
regs_in u p = register_file p u.sp u.enabled u.flags u.work

-- a word of memory is read, and the bus stays
is_word_fram : (a : ℕ) → IsPlace a → is_word a ≡ true
is_word_fram a h = grind (arith, nat_tests)

no_ram_fram : (a : ℕ) → IsPlace a → is_ram a ≡ false
no_ram_fram a h = grind (arith, nat_tests)

-- an even address is its word's
even_fram : (a : ℕ) → IsPlace a → word_address a ≡ a
even_fram a h = let e = h.even in omega arith

even_ram : (a : ℕ) → IsRam a → word_address a ≡ a
even_ram a h = let e = h.even in omega arith

is_word_ram : (a : ℕ) → IsRam a → is_word a ≡ true
is_word_ram a h = grind (arith, nat_tests)

is_ram_ram : (a : ℕ) → IsRam a → is_ram a ≡ true
is_ram_ram a h = grind (arith, nat_tests)

-- it stands in front of the handler
low_fram : (a : ℕ) → IsPlace a → nat_lt a handler_place ≡ true
low_fram a h = let l = h.high in grind (arith, nat_tests)

low_ram : (a : ℕ) → IsRam a → nat_lt a handler_place ≡ true
low_ram a h = let l = h.high in grind (arith, nat_tests)

-- and may be read, in RAM from the floor on
abbrev readable_by : MachineBus → ℕ → Bool → Bool
readable_by s a b = if b then nat_le s.floor (word_address a) && is_some (s.ram (word_address a)) else nat_lt a handler_place

readable_fram : (s : MachineBus) (a : ℕ) → IsPlace a → is_readable s a ≡ true
readable_fram s a h = ap (readable_by s a) (no_ram_fram a h) ∙ low_fram a h

not_below : (floor a : ℕ) → floor ≤ a → nat_le floor a ≡ true
not_below floor a l = grind (arith, nat_tests)

readable_ram : (s : MachineBus) (a : ℕ) → IsRam a → s.floor ≤ a → IsKnown (s.ram a) → is_readable s a ≡ true
readable_ram s a h l known =
    ap (readable_by s a) (is_ram_ram a h)
    ∙ ap (λ n. nat_le s.floor n && is_some (s.ram n)) (even_ram a h)
    ∙ ap₂ (λ b c. b && c) (not_below s.floor a l) known

pub read_fram : (s : MachineBus) (a : ℕ) → IsPlace a → read_at machine_bus a Word s ≡ Completed (s.fram a) s
read_fram s a h =
    let w = is_word_fram a h in let r = readable_fram s a h in let e = no_port a 0x200 w (omega arith) in let f = no_ram_fram a h in
    let g = even_fram a h in
    rw (w, r, e, f, g) refl

pub read_ram : (s : MachineBus) (a : ℕ) → IsRam a → s.floor ≤ a → IsKnown (s.ram a) → read_at machine_bus a Word s ≡ Completed (unwrap_or (s.ram a) 0) s
read_ram s a h l known =
    let w = is_word_ram a h in let r = readable_ram s a h l known in let e = no_port a 0x200 w (omega arith) in let f = is_ram_ram a h in
    let g = even_ram a h in
    rw (w, r, e, f, g) refl

-- a word of the ring is seen, and the bus stays
slot_tests : (s : MachineBus) (a : ℕ) → IsSlot a → (is_word a ≡ true) × ((is_readable s a ≡ false) × ((is_ring a ≡ true) × ((a == 0x200) ≡ false)))
slot_tests s a h =
    let e = h.even in let l = h.low in let k = h.high in
    let no : is_ram a ≡ false = grind (arith, nat_tests) in
    let far : nat_lt a handler_place ≡ false = grind (arith, nat_tests) in (
      grind (arith, nat_tests),
      (
        ap (readable_by s a) no ∙ far,
        (grind (arith, nat_tests), grind (arith, nat_tests)),
      ),
    )

read_slot : (s : MachineBus) (look : Look) (a : ℕ) → s.ring ≡ Some look → IsSlot a → read_at machine_bus a Word s ≡ Completed (look a) s
read_slot s look a e h = let t = slot_tests s a h in rw (t.0, t.1.0, e, t.1.1.0, t.1.1.1) refl

-- the source operand, with PC behind the operation word
module _ (u : Core) (p : ℕ) where
  got : (b : WorkRegister) → regs_in u p (index_number (index_of b)) ≡ u.work (work_number b)
  got b = ap (regs_in u p) (number b) ∙ get_work p u.sp (work_number b) u.enabled u.flags u.work (high b)

  up : (b : WorkRegister) (v : ℕ) → with_register (regs_in u p) (index_number (index_of b)) v
      ≡ register_file p u.sp u.enabled u.flags (put u.work (work_number b) v)
  up b v = ap (λ n. with_register (regs_in u p) n v) (number b) ∙ set_work p u.sp (work_number b) v u.enabled u.flags u.work (high b)

  -- a word of the ring
  from_head : (looks : List Look)
      → source machine_bus (regs_in u p) Word (source_operand Head) (seen_by looks u) ≡ Completed (first_look looks head_place, regs_in u p) (seen_by looks u)
  from_head looks = refl

  from_slot : (looks : List Look) (b : WorkRegister) → IsSlot (u.work (work_number b) + ring_place)
      → source machine_bus (regs_in u p) Word (source_operand (Slot b)) (seen_by looks u) ≡
      Completed (first_look looks (u.work (work_number b) + ring_place), regs_in u p) (seen_by looks u)
  from_slot looks b at =
      let e : word_sum (u.work (work_number b)) ring_place ≡ u.work (work_number b) + ring_place = let hi = at.high in omega arith in
      let s = seen_by looks u in
      rw (got b, e, read_slot s (first_look looks) (u.work (work_number b) + ring_place) refl at) refl

  pub from_source : (x : Source) → SourceNeeds plain x u
      → source machine_bus (regs_in u p) Word (source_operand x) (begun x u) ≡ Completed (source_value x u, regs_in (source_read x u) p) (begun x u)
  from_source (Register b) h = rw (got b) refl
  from_source (Number n) h = refl
  from_source (Constant k) h = refl
  from_source (Fram a) h = rw (read_fram (inside u.sp None u) a h) refl
  from_source (Ram a) h = rw (read_ram (inside u.sp None u) a h.0 h.1 h.2) refl
  from_source (Pointed b) h = rw (got b, read_fram (inside u.sp None u) (u.work (work_number b)) h) refl
  from_source (PointedNext b) h =
      let e : word_sum (u.work (work_number b)) 2 ≡ u.work (work_number b) + 2 = let hi = h.high in omega arith in
      rw (up b (word_sum (regs_in u p (index_number (index_of b))) 2), got b, read_fram (inside u.sp None u) (u.work (work_number b)) h, e) refl
  from_source (Indexed b x) h =
      let e : word_sum (u.work (work_number b)) x ≡ u.work (work_number b) + x = let hi = h.high in omega arith in
      rw (got b, e, read_fram (inside u.sp None u) (u.work (work_number b) + x) h) refl
  from_source Popped h =
      let v = h.0.even in let l = h.0.high in
      let e : word_sum u.sp 2 / 2 * 2 ≡ u.sp + 2 = omega arith in
      rw (read_ram (inside u.sp None u) u.sp h.0 (omega arith) h.1, set_sp p u.sp (word_sum u.sp 2) (u.sp + 2) u.enabled u.flags u.work e) refl
  from_source (StackNext b) h =
      let e : word_sum (u.work (work_number b)) 2 ≡ u.work (work_number b) + 2 = let hi = h.0.high in omega arith in
      rw (
        up b (word_sum (regs_in u p (index_number (index_of b))) 2),
        got b,
        read_ram (inside u.sp None u) (u.work (work_number b)) h.0 h.1 h.2,
        e,
      ) refl
  from_source Head h = from_head u.inputs.looks
  from_source (Slot b) h = from_slot u.inputs.looks b h

pub from_length : (x : Source) → 2 * length (source_row (source_operand x)).extension ≡ source_bytes x
from_length (Register b) = refl
from_length (Number n) = refl
from_length (Constant konst.Zero) = refl
from_length (Constant konst.One) = refl
from_length (Constant konst.Two) = refl
from_length (Constant konst.Four) = refl
from_length (Constant konst.Eight) = refl
from_length (Constant konst.MinusOne) = refl
from_length (Fram a) = refl
from_length (Ram a) = refl
from_length (Pointed b) = refl
from_length (PointedNext b) = refl
from_length (Indexed b x) = refl
from_length Popped = refl
from_length (StackNext b) = refl
from_length Head = refl
from_length (Slot b) = refl

pub from_small : (x : Source) → (source_bytes x ≤ 2) × (source_bytes x % 2 ≡ 0)
from_small (Register b) = (omega arith, refl)
from_small (Number n) = (omega arith, refl)
from_small (Constant k) = (omega arith, refl)
from_small (Fram a) = (omega arith, refl)
from_small (Ram a) = (omega arith, refl)
from_small (Pointed b) = (omega arith, refl)
from_small (PointedNext b) = (omega arith, refl)
from_small (Indexed b x) = (omega arith, refl)
from_small Popped = (omega arith, refl)
from_small (StackNext b) = (omega arith, refl)
from_small Head = (omega arith, refl)
from_small (Slot b) = (omega arith, refl)

dest_small : (d : Dst) → length (destination_row d).extension ≤ 1
dest_small d = grind arith

read_same : (x : Source) (u : Core) → SourceNeeds plain x u → inside u.sp (ring_of x u) (source_read x u) ≡ begun x u
read_same (Register b) u h = refl
read_same (Number n) u h = refl
read_same (Constant k) u h = refl
read_same (Fram a) u h = refl
read_same (Ram a) u h = refl
read_same (Pointed b) u h = refl
read_same (PointedNext b) u h = refl
read_same (Indexed b x) u h = refl
read_same Popped u h = refl
read_same (StackNext b) u h = refl
read_same Head u h = refl
read_same (Slot b) u h = refl

-- a source that is no look, by its needs
place_no_ring : (a : ℕ) → IsPlace a → is_ring a ≡ false
place_no_ring a h = let l = h.high in grind (arith, nat_tests)

ram_no_ring : (a : ℕ) → IsRam a → is_ring a ≡ false
ram_no_ring a h = let l = h.high in grind (arith, nat_tests)

below_no_ring : (a n : ℕ) → a + n < handler_place → is_ring n ≡ false
below_no_ring a n l = grind (arith, nat_tests)

-- no effects in front of a step
none_behind : (o : MachineOutcome) → o ≡ step_behind [] o
none_behind (Goes es c t) = refl
none_behind (Stops es price e) = refl

-- effects in front of what a form does
core_behind : (es : List Effect) (o : CoreOutcome) → step_behind es (outcome_of_core o) ≡ outcome_of_core (behind_source es o)
core_behind es (Goes [] c u) = ap (λ l. Goes l c (board_of u)) (append-nil es)
core_behind es (Goes (f ∷ fs) c u) = refl
core_behind es (Stops fs price e) = refl

by_test : (b : Bool) (o p : MachineOutcome) → b ≡ false → (if b then o else p) ≡ p
by_test true o p e = absurd cc
by_test false o p e = refl

code_begun : (x : Source) (u : Core) (i : Instr) → SourceNeeds plain x u → looks_there i ≡ source_looks (source_operand x)
    → code_executed (board_of u) i
    ≡ step_behind (source_effects x u) (machine_outcome u.pc (cycles_of i) (effect machine_bus i (regs_in u u.pc) (begun x u)))
code_begun (Register b) u i h e = by_test (looks_there i) _ _ e ∙ none_behind _
code_begun (Number n) u i h e = by_test (looks_there i) _ _ e ∙ none_behind _
code_begun (Constant k) u i h e = by_test (looks_there i) _ _ e ∙ none_behind _
code_begun (Fram a) u i h e = by_test (looks_there i) _ _ (e ∙ place_no_ring a h) ∙ none_behind _
code_begun (Ram a) u i h e = by_test (looks_there i) _ _ (e ∙ ram_no_ring a h.0) ∙ none_behind _
code_begun (Pointed b) u i h e = by_test (looks_there i) _ _ e ∙ none_behind _
code_begun (PointedNext b) u i h e = by_test (looks_there i) _ _ e ∙ none_behind _
code_begun (Indexed b x) u i h e = by_test (looks_there i) _ _ (e ∙ below_no_ring (u.work (work_number b)) x h.high) ∙ none_behind _
code_begun Popped u i h e = by_test (looks_there i) _ _ e ∙ none_behind _
code_begun (StackNext b) u i h e = by_test (looks_there i) _ _ e ∙ none_behind _
code_begun Head u i h e =
    ap (λ c. if c then executed_looking u.inputs.looks (board_of u) i else machine_executed (board_of u) i) e
code_begun (Slot b) u i h e =
    ap (λ c. if c then executed_looking u.inputs.looks (board_of u) i else machine_executed (board_of u) i) e

abbrev ext_of : Source → Core → ℕ
ext_of x u = word_sum (word_sum u.pc 2) (2 * length (source_row (source_operand x)).extension)

-- an instruction with two operands, up to its destination
pub two : (op : TwoOp) (x : Source) (d : Dst) (u : Core) → IsCodeAddress u.pc → SourceNeeds plain x u →
    two_operand_effect machine_bus op Word (source_operand x) d (regs_in u u.pc) (begun x u) ≡
    after_source machine_bus op Word (destination_location (regs_in (source_read x u)
    (u.pc + (2 + source_bytes x + 2 * length (destination_row d).extension))) (ext_of x u) d) (source_value x u)
    (regs_in (source_read x u) (u.pc + (2 + source_bytes x + 2 * length (destination_row d).extension))) (begun x u)
two op x d u c h =
    let even = c.even in let high = c.high in
    let s = from_small x in let l = from_length x in let m = dest_small d in
    let a : word_sum u.pc 2 / 2 * 2 ≡ u.pc + 2 = omega arith in
    let b : word_sum (ext_of x u) (2 * length (destination_row d).extension) / 2 * 2 ≡ u.pc +
    (2 + source_bytes x + 2 * length (destination_row d).extension) = omega (arith, l, s.0, s.1) in
    let t = source_read x u in
    rw (
      set_pc u.pc u.sp (word_sum u.pc 2) (u.pc + 2) u.enabled u.flags u.work a,
      from_source u (u.pc + 2) x h,
      set_pc (u.pc + 2) t.sp
          (word_sum (ext_of x u) (2 * length (destination_row d).extension)) (u.pc + (2 + source_bytes x + 2 * length (destination_row d).extension))
          t.enabled t.flags t.work b,
    ) refl

pub to_length : (y : Target) → 2 * length (destination_row (target_operand y)).extension ≡ target_bytes y
to_length (ToRegister b) = refl
to_length (ToFram a) = refl
to_length (ToRam a) = refl
to_length (ToIndexed b x) = refl
to_length (ToPointed b) = refl
to_length ToOutnum = refl
to_length ToOutdata = refl

-- MOV's write
written : (y : Target) (v ext pc c floor : ℕ) (ring : Option Look) (t : Core) → TargetNeeds y t
    → machine_outcome pc c (after_source machine_bus Mov Word (destination_location (regs_in t t.pc) ext (target_operand y)) v (regs_in t t.pc)
    (inside floor ring t)) ≡ outcome_of_core (target_written y c v t)
written (ToRegister b) v ext pc c floor ring t h = rw (up t t.pc b v) refl
written (ToFram a) v ext pc c floor ring t h =
    let w = is_word_fram a h in let l = low_fram a h in let f = no_ram_fram a h in let g = even_fram a h in rw (w, l, f, g) refl
written (ToRam a) v ext pc c floor ring t h =
    let w = is_word_ram a h in let l = low_ram a h in let f = is_ram_ram a h in let g = even_ram a h in rw (w, l, f, g) refl
written (ToIndexed b x) v ext pc c floor ring t h =
    let hi = h.high in
    let e : word_sum (t.work (work_number b)) x ≡ t.work (work_number b) + x = omega arith in
    let a = t.work (work_number b) + x in
    let w = is_word_fram a h in let l = low_fram a h in let f = no_ram_fram a h in let g = even_fram a h in
    rw (got t t.pc b, e, w, l, f, g) refl
written (ToPointed b) v ext pc c floor ring t h =
    let hi = h.high in
    let e : word_sum (t.work (work_number b)) 0 ≡ t.work (work_number b) = omega arith in
    let a = t.work (work_number b) in
    let w = is_word_fram a h in let l = low_fram a h in let f = no_ram_fram a h in let g = even_fram a h in
    rw (got t t.pc b, e, w, l, f, g) refl
written ToOutnum v ext pc c floor ring t h = refl
written ToOutdata v ext pc c floor ring t h = refl

ok_pc : (y : Target) (t : Core) (p : ℕ) → TargetNeeds y t → TargetNeeds y (record t { pc = p })
ok_pc (ToRegister b) t p h = h
ok_pc (ToFram a) t p h = h
ok_pc (ToRam a) t p h = h
ok_pc (ToIndexed b x) t p h = h
ok_pc (ToPointed b) t p h = h
ok_pc ToOutnum t p h = h
ok_pc ToOutdata t p h = h

-- an instruction with two operands, where the machine is on
on_two : (op : TwoOp) (x : Source) (d : Dst) (u : Core) → IsCodeAddress u.pc → SourceNeeds plain x u →
    plainly (instr.Two op Word (source_operand x) d) (board_of u) ≡
    step_behind (source_effects x u) (machine_outcome u.pc (cycles_of (instr.Two op Word (source_operand x) d)) (after_source machine_bus op Word
    (destination_location (regs_in (source_read x u) (u.pc + (2 + source_bytes x + 2 * length (destination_row d).extension))) (ext_of x u) d)
    (source_value x u) (regs_in (source_read x u) (u.pc + (2 + source_bytes x + 2 * length (destination_row d).extension)))
    (inside u.sp (ring_of x u) (source_read x u))))
unfolding effect
on_two op x d u c h =
    let i = instr.Two op Word (source_operand x) d in
    let e = is_on u.pc u.sp u.enabled u.flags u.work in
    ap (λ b. if b then Stops [] 0 stop.Off else code_executed (board_of u) i) e
    ∙ code_begun x u i h refl
    ∙ rw (two op x d u c h, read_same x u h) refl

moves : (x : Source) (y : Target) (u : Core) → IsCodeAddress u.pc → SourceNeeds plain x u → TargetNeeds y (source_read x u)
    → plainly (instruction_of (Move x y)) (board_of u) ≡ outcome_of_core (form_step (Move x y) u)
moves x y u c h k =
    let n : Core = record (source_read x u) { pc = u.pc + (2 + source_bytes x + 2 * length (destination_row (target_operand y)).extension) } in
    let out : ℕ → CoreOutcome = λ m.
    target_written y (cycles_of (instruction_of (Move x y))) (source_value x u) (record (source_read x u) { pc = u.pc + (2 + source_bytes x + m) }) in
    on_two Mov x (target_operand y) u c h
    ∙ ap (step_behind (source_effects x u))
    (written y (source_value x u) (ext_of x u) u.pc (cycles_of (instruction_of (Move x y))) u.sp (ring_of x u) n (ok_pc y (source_read x u) n.pc k)
    ∙ ap (λ m. outcome_of_core (out m)) (to_length y))
    ∙ core_behind (source_effects x u) (out (target_bytes y))

-- the others read their destination
reads : (op : TwoOp) → IsNotMov op → reads_destination op ≡ true
reads Mov n = elim n [ ]
reads Add n = refl
reads Addc n = refl
reads Subc n = refl
reads Sub n = refl
reads Cmp n = refl
reads Dadd n = refl
reads Bit n = refl
reads Bic n = refl
reads Bis n = refl
reads Xor n = refl
reads And n = refl

with_new : (o : Option Flags) (t : Core) (p : ℕ) → with_flags (regs_in t p) o ≡ register_file p t.sp t.enabled (flags_after o t.flags) t.work
with_new None t p = refl
with_new (Some g) t p = set_flags p t.sp t.enabled t.flags g t.work

ends : (w : Bool) (b : WorkRegister) (o : Operated) (pc c floor : ℕ) (ring : Option Look) (t : Core) →
    machine_outcome pc c (finish w machine_bus (register_file t.pc t.sp t.enabled (flags_after o.flags t.flags) t.work) Word
    (destination_location (regs_in t t.pc) 0 (target_operand (ToRegister b))) o.value (inside floor ring t))
    ≡ Goes [] c (board_of (record t { flags = flags_after o.flags t.flags; work = if w then put t.work (work_number b) o.value else t.work }))
ends true b o pc c floor ring t = rw (up (record t { flags = flags_after o.flags t.flags }) t.pc b o.value) refl
ends false b o pc c floor ring t = refl

calculated_half : (op : TwoOp) (v ext pc c floor : ℕ) (ring : Option Look) (b : WorkRegister) (t : Core) → reads_destination op ≡ true
    → machine_outcome pc c (after_source machine_bus op Word (destination_location (regs_in t t.pc) ext (target_operand (ToRegister b))) v
    (regs_in t t.pc) (inside floor ring t)) ≡ outcome_of_core (Goes [] c (calculated op b (operated op Word (t.work (work_number b)) v t.flags) t))
calculated_half op v ext pc c floor ring b t n =
    let o = operated op Word (t.work (work_number b)) v t.flags in
    rw (n, got t t.pc b, flags_back t.enabled t.flags, with_new o.flags t t.pc) (ends (writes_destination op) b o pc c floor ring t)

read_flags : (x : Source) (u : Core) → (source_read x u).flags ≡ u.flags
read_flags (Register b) u = refl
read_flags (Number n) u = refl
read_flags (Constant k) u = refl
read_flags (Fram a) u = refl
read_flags (Ram a) u = refl
read_flags (Pointed b) u = refl
read_flags (PointedNext b) u = refl
read_flags (Indexed b x) u = refl
read_flags Popped u = refl
read_flags (StackNext b) u = refl
read_flags Head u = refl
read_flags (Slot b) u = refl

calculates : (op : TwoOp) (x : Source) (b : WorkRegister) (u : Core) → IsCodeAddress u.pc → IsNotMov op → SourceNeeds plain x u
    → plainly (instruction_of (Calculate op x b)) (board_of u) ≡ outcome_of_core (form_step (Calculate op x b) u)
calculates op x b u c n h =
    let t : Core = record (source_read x u) { pc = u.pc + (2 + source_bytes x) } in
    on_two op x (target_operand (ToRegister b)) u c h
    ∙ ap (step_behind (source_effects x u)) (ap (λ p. machine_outcome u.pc (cycles_of (instruction_of (Calculate op x b)))
    (after_source machine_bus op Word (destination_location (regs_in (source_read x u) p) (ext_of x u) (target_operand (ToRegister b)))
    (source_value x u) (regs_in (source_read x u) p) (inside u.sp (ring_of x u) (source_read x u))))
    (let e : u.pc + (2 + source_bytes x + 2 * 0) ≡ u.pc + (2 + source_bytes x) = omega arith in e)
    ∙ calculated_half op (source_value x u) (ext_of x u) u.pc (cycles_of (instruction_of (Calculate op x b))) u.sp (ring_of x u) b t (reads op n)
    ∙ ap (λ f. outcome_of_core (Goes [] (cycles_of (instruction_of (Calculate op x b)))
    (calculated op b (operated op Word (t.work (work_number b)) (source_value x u) f) t))) (read_flags x u))
    ∙ ap (λ es. outcome_of_core (Goes es (cycles_of (instruction_of (Calculate op x b)))
    (calculated op b (operated op Word (t.work (work_number b)) (source_value x u) u.flags) t))) (append-nil (source_effects x u))

compared_half : (v a ext pc c floor : ℕ) (ring : Option Look) (t : Core) → IsPlace a
    → machine_outcome pc c (after_source machine_bus Cmp Word (destination_location (regs_in t t.pc) ext (dst.Absolute a)) v (regs_in t t.pc)
    (inside floor ring t)) ≡ outcome_of_core (Goes [] c (record t { flags = flags_after (operated Cmp Word (t.fram a) v t.flags).flags t.flags }))
compared_half v a ext pc c floor ring t h =
    rw (read_fram (inside floor ring t) a h, set_flags t.pc t.sp t.enabled t.flags (difference_of Word (t.fram a) v true).1 t.work) refl

read_memory : (x : Source) (u : Core) → (source_read x u).fram ≡ u.fram
read_memory (Register b) u = refl
read_memory (Number n) u = refl
read_memory (Constant k) u = refl
read_memory (Fram a) u = refl
read_memory (Ram a) u = refl
read_memory (Pointed b) u = refl
read_memory (PointedNext b) u = refl
read_memory (Indexed b x) u = refl
read_memory Popped u = refl
read_memory (StackNext b) u = refl
read_memory Head u = refl
read_memory (Slot b) u = refl

compares : (x : Source) (a : ℕ) (u : Core) → IsCodeAddress u.pc → SourceNeeds plain x u → IsPlace a
    → plainly (instruction_of (Compare x a)) (board_of u) ≡ outcome_of_core (form_step (Compare x a) u)
compares x a u c h k =
    let t : Core = record (source_read x u) { pc = u.pc + (2 + source_bytes x + 2) } in
    on_two Cmp x (dst.Absolute a) u c h
    ∙ ap (step_behind (source_effects x u))
    (compared_half (source_value x u) a (ext_of x u) u.pc (cycles_of (instruction_of (Compare x a))) u.sp (ring_of x u) t k
    ∙ ap (λ f. outcome_of_core (Goes [] (cycles_of (instruction_of (Compare x a))) (record t { flags = f }))) (rw (read_memory x u) refl))
    ∙ ap (λ es. outcome_of_core (Goes es (cycles_of (instruction_of (Compare x a))) (record t {
      flags = flags_after (operated Cmp Word (u.fram a) (source_value x u) u.flags).flags u.flags;
    }))) (append-nil (source_effects x u))

updated_half : (op : TwoOp) (v a ext pc c floor : ℕ) (ring : Option Look) (t : Core) → reads_destination op ≡ true → writes_destination op ≡ true → IsPlace a
    → machine_outcome pc c (after_source machine_bus op Word (destination_location (regs_in t t.pc) ext (dst.Absolute a)) v (regs_in t t.pc)
    (inside floor ring t)) ≡ outcome_of_core (let o = operated op Word (t.fram a) v t.flags in Goes (Store a o.value ∷ []) c
    (record t { flags = flags_after o.flags t.flags; fram = put t.fram a o.value }))
updated_half op v a ext pc c floor ring t n m h =
    let w = is_word_fram a h in let l = low_fram a h in let f = no_ram_fram a h in let g = even_fram a h in
    let o = operated op Word (t.fram a) v t.flags in
    rw (n, read_fram (inside floor ring t) a h, flags_back t.enabled t.flags, with_new o.flags t t.pc, m, w, l, f, g) refl

updates : (op : TwoOp) (x : Source) (a : ℕ) (u : Core) → IsCodeAddress u.pc → FormNeeds plain (Update op x a) u
    → plainly (instruction_of (Update op x a)) (board_of u) ≡ outcome_of_core (form_step (Update op x a) u)
updates op x a u c h =
    let t : Core = record (source_read x u) { pc = u.pc + (2 + source_bytes x + 2) } in
    let out : (ℕ → ℕ) → Flags → MachineOutcome = λ f g. outcome_of_core (let o = operated op Word (f a) (source_value x u) g in Goes
    (Store a o.value ∷ []) (cycles_of (instruction_of (Update op x a))) (record t { flags = flags_after o.flags g; fram = put f a o.value })) in
    on_two op x (dst.Absolute a) u c h.2
    ∙ ap (step_behind (source_effects x u))
    (updated_half op (source_value x u) a (ext_of x u) u.pc (cycles_of (instruction_of (Update op x a))) u.sp (ring_of x u) t (reads op h.0) h.1 h.3
    ∙ ap (λ f. out f t.flags) (read_memory x u) ∙ ap (λ g. out u.fram g) (read_flags x u))

-- no operand that is written
push_half : (x : Source) (u : Core) → IsCodeAddress u.pc → SourceNeeds plain x u
    → push_effect machine_bus Word (source_operand x) (regs_in u u.pc) (begun x u) ≡ pushed machine_bus Word (source_value x u)
    (regs_in (source_read x u) (u.pc + (2 + source_bytes x))) (inside u.sp (ring_of x u) (source_read x u))
push_half x u c h =
    let even = c.even in let high = c.high in
    let s = from_small x in let l = from_length x in
    let a : word_sum u.pc 2 / 2 * 2 ≡ u.pc + 2 = omega arith in
    let p : ext_of x u / 2 * 2 ≡ u.pc + (2 + source_bytes x) = omega (arith, l, s.0, s.1) in
    let t = source_read x u in
    let next : ℕ × Registers → MachineBus → Access MachineBus (Registers × Option Written) =
    λ y l. pushed machine_bus Word y.0 (with_register y.1 0 (ext_of x u)) l in
    ap (λ q. then_do (source machine_bus q Word (source_operand x) (begun x u)) next) (set_pc u.pc u.sp (word_sum u.pc 2) (u.pc + 2) u.enabled u.flags u.work a)
    ∙ ap (λ y. then_do y next) (from_source u (u.pc + 2) x h)
    ∙ ap (λ r. pushed machine_bus Word (source_value x u) r (begun x u))
    (set_pc (u.pc + 2) t.sp (ext_of x u) (u.pc + (2 + source_bytes x)) t.enabled t.flags t.work p)
    ∙ ap (λ l. pushed machine_bus Word (source_value x u) (regs_in t (u.pc + (2 + source_bytes x))) l) (sym (read_same x u h))

pushed_at : (v pc c floor : ℕ) (ring : Option Look) (t : Core) → HasPushRoom plain t.sp
    → machine_outcome pc c (pushed machine_bus Word v (regs_in t t.pc) (inside floor ring t)) ≡ Goes [] c
    (board_of (record t { sp = t.sp - 2; ram = put t.ram (t.sp - 2) (Some v) }))
pushed_at v pc c floor ring t h =
    let even = h.even in let room = h.room.fits in let high = h.high in
    let k : IsRam (t.sp - 2) = record { even = omega arith; low = omega arith; high = omega arith } in
    let word = is_word_ram (t.sp - 2) k in let below = low_ram (t.sp - 2) k in let ram = is_ram_ram (t.sp - 2) k in let g = even_ram (t.sp - 2) k in
    let l : word_sum t.sp 0xFFFE ≡ t.sp - 2 = omega arith in
    let m : (t.sp - 2) / 2 * 2 ≡ t.sp - 2 = omega arith in
    rw (l, set_sp t.pc t.sp (t.sp - 2) (t.sp - 2) t.enabled t.flags t.work m, word, below, ram, g) refl

pushes : (x : Source) (u : Core) → IsCodeAddress u.pc → FormNeeds plain (Push x) u
    → plainly (instruction_of (Push x)) (board_of u) ≡ outcome_of_core (form_step (Push x) u)
unfolding effect
pushes x u c h =
    let on = is_on u.pc u.sp u.enabled u.flags u.work in
    let t : Core = record (source_read x u) { pc = u.pc + (2 + source_bytes x) } in
    let cycles = cycles_of (instruction_of (Push x)) in
    let after : Core = record t { sp = t.sp - 2; ram = put t.ram (t.sp - 2) (Some (source_value x u)) } in
    let made : machine_outcome u.pc cycles (effect machine_bus (instruction_of (Push x)) (regs_in u u.pc) (begun x u)) ≡ Goes [] cycles (board_of after) =
    rw (push_half x u c h.0) (pushed_at (source_value x u) u.pc cycles u.sp (ring_of x u) t h.1) in
    ap (λ b. if b then Stops [] 0 stop.Off else code_executed (board_of u) (instruction_of (Push x))) on
    ∙ code_begun x u (instruction_of (Push x)) h.0 refl
    ∙ ap (step_behind (source_effects x u)) made
    ∙ ap (λ es. Goes es cycles (board_of after)) (append-nil (source_effects x u))

sets_stack : (n : ℕ) (u : Core) → IsCodeAddress u.pc → n % 2 ≡ 0
    → plainly (instruction_of (SetStack n)) (board_of u) ≡ outcome_of_core (plain_step (SetStack n) u)
sets_stack n u c h =
    let e : n / 2 * 2 ≡ n = omega arith in
    on_two Mov (Number n) (dst.Reg (reg.Index index.Sp)) u c tt
    ∙ rw (set_sp (u.pc + 4) u.sp n n u.enabled u.flags u.work e) refl

enables : (u : Core) → IsCodeAddress u.pc
    → plainly (instruction_of EnableInterrupts) (board_of u) ≡ outcome_of_core (form_step EnableInterrupts u)
enables u c =
    on_two Bis (Constant konst.Eight) (dst.Reg reg.Sr) u c tt
    ∙ rw (enable (u.pc + 2) u.sp u.enabled u.flags u.work) refl

sense_on : (b : WorkRegister) (u : Core) (ws : List ℕ) → IsCodeAddress u.pc
    → let v : Core = record u { inputs = record u.inputs { readings = ws } } in
    plainly (instruction_of (Sense b)) (board_of v) ≡ outcome_of_core (sensed ws b v)
unfolding effect
sense_on b u [] c = let on = is_on u.pc u.sp u.enabled u.flags u.work in rw on refl
sense_on b u (w ∷ ws) c =
    let even = c.even in let high = c.high in
    let on = is_on u.pc u.sp u.enabled u.flags u.work in
    let a : word_sum u.pc 2 / 2 * 2 ≡ u.pc + 2 = omega arith in
    let p : word_sum (word_sum (word_sum u.pc 2) 2) 0 / 2 * 2 ≡ u.pc + 4 = omega arith in
    rw (
      on,
      set_pc u.pc u.sp (word_sum u.pc 2) (u.pc + 2) u.enabled u.flags u.work a,
      set_pc (u.pc + 2) u.sp (word_sum (word_sum (word_sum u.pc 2) 2) 0)
          (u.pc + 4) u.enabled u.flags u.work p,
      up u (u.pc + 4) b w,
    ) refl

senses : (b : WorkRegister) (u : Core) → IsCodeAddress u.pc → plainly (instruction_of (Sense b)) (board_of u) ≡ outcome_of_core (form_step (Sense b) u)
senses b u c = sense_on b u u.inputs.readings c

by_sign : (b : Bool) (o : ℕ) → ((2 * o + (if b then 0 else 0x10000 - 0x800)) % 0x10000) % 2 ≡ 0
by_sign true o = omega arith
by_sign false o = omega arith

distance_even : (o : ℕ) → distance o % 2 ≡ 0
distance_even o = by_sign ((o / 0x200) == 0) o

jump_even : (b : Bool) (p d : ℕ) → p % 2 ≡ 0 → d % 2 ≡ 0 → (if b then word_sum p d else p) / 2 * 2 ≡ (if b then word_sum p d else p)
jump_even true p d e f = omega arith
jump_even false p d e f = omega arith

jumps : (c : Condition) (o : ℕ) (u : Core) → IsCodeAddress u.pc
    → plainly (instruction_of (Jump c o)) (board_of u) ≡ outcome_of_core (form_step (Jump c o) u)
unfolding effect
jumps k o u c =
    let even = c.even in let high = c.high in
    let on = is_on u.pc u.sp u.enabled u.flags u.work in
    let n : word_sum u.pc 2 ≡ u.pc + 2 = omega arith in
    let t = if is_met k u.flags then word_sum (u.pc + 2) (distance o) else u.pc + 2 in
    rw (
      on,
      flags_back u.enabled u.flags,
      n,
      set_pc u.pc u.sp t t u.enabled u.flags u.work (jump_even (is_met k u.flags) (u.pc + 2) (distance o) (omega arith)
          (distance_even o)),
    ) refl

skips : (n : ℕ) (u : Core) → IsCodeAddress u.pc → n % 2 ≡ 0
    → plainly (instruction_of (Skip n)) (board_of u) ≡ outcome_of_core (form_step (Skip n) u)
skips n u c h =
    let even = c.even in
    let sum = sum_of Word (u.pc + 4) n false in
    let e : sum.0 / 2 * 2 ≡ sum.0 = omega arith in
    on_two Add (Number n) (dst.Reg reg.Pc) u c tt
    ∙ rw (set_flags (u.pc + 4) u.sp u.enabled u.flags sum.1 u.work, set_pc (u.pc + 4) u.sp sum.0 sum.0 u.enabled sum.1 u.work e) refl

branches : (a : ℕ) (u : Core) → IsCodeAddress u.pc → a % 2 ≡ 0
    → plainly (instruction_of (Branch a)) (board_of u) ≡ outcome_of_core (form_step (Branch a) u)
branches a u c h =
    let e : a / 2 * 2 ≡ a = omega arith in
    on_two Mov (Number a) (dst.Reg reg.Pc) u c tt
    ∙ rw (set_pc (u.pc + 4) u.sp a a u.enabled u.flags u.work e) refl

branches_indexed : (b : WorkRegister) (x : ℕ) (u : Core) → IsCodeAddress u.pc → FormNeeds plain (BranchIndexed b x) u
    → plainly (instruction_of (BranchIndexed b x)) (board_of u) ≡ outcome_of_core (form_step (BranchIndexed b x) u)
branches_indexed b x u c h =
    let a = u.fram (u.work (work_number b) + x) in
    let even = h.1 in
    let e : a / 2 * 2 ≡ a = omega arith in
    on_two Mov (Indexed b x) (dst.Reg reg.Pc) u c h.0
    ∙ rw (set_pc (u.pc + 4) u.sp a a u.enabled u.flags u.work e) refl

skips_by : (b : WorkRegister) (u : Core) → IsCodeAddress u.pc → u.work (work_number b) % 2 ≡ 0
    → plainly (instruction_of (SkipBy b)) (board_of u) ≡ outcome_of_core (form_step (SkipBy b) u)
skips_by b u c h =
    let even = c.even in
    let sum = sum_of Word (u.pc + 2) (u.work (work_number b)) false in
    let e : sum.0 / 2 * 2 ≡ sum.0 = omega arith in
    on_two Add (Register b) (dst.Reg reg.Pc) u c tt
    ∙ rw (set_flags (u.pc + 2) u.sp u.enabled u.flags sum.1 u.work, set_pc (u.pc + 2) u.sp sum.0 sum.0 u.enabled sum.1 u.work e) refl

-- CALL, behind its operand
call_half : (a : ℕ) (u : Core) → IsCodeAddress u.pc
    → call_effect machine_bus (source_operand (Number a)) (regs_in u u.pc) (begun (Number a) u)
    ≡ called machine_bus a (regs_in u (u.pc + 4)) (inside u.sp None u)
call_half a u c =
    let even = c.even in let high = c.high in
    let l = from_length (Number a) in
    let first : word_sum u.pc 2 / 2 * 2 ≡ u.pc + 2 = omega arith in
    let behind : ext_of (Number a) u / 2 * 2 ≡ u.pc + 4 = omega (arith, l) in
    let next : ℕ × Registers → MachineBus → Access MachineBus (Registers × Option Written) =
    λ y l. called machine_bus y.0 (with_register y.1 0 (ext_of (Number a) u)) l in
    ap (λ q. then_do (source machine_bus q Word (source_operand (Number a)) (begun (Number a) u)) next)
    (set_pc u.pc u.sp (word_sum u.pc 2) (u.pc + 2) u.enabled u.flags u.work first)
    ∙ ap (λ y. then_do y next) (from_source u (u.pc + 2) (Number a) tt)
    ∙ ap (λ r. called machine_bus a r (inside u.sp None u)) (set_pc (u.pc + 2) u.sp (ext_of (Number a) u) (u.pc + 4) u.enabled u.flags u.work behind)

called_at : (a pc c floor : ℕ) (t : Core) → HasPushRoom plain t.sp → a % 2 ≡ 0
    → machine_outcome pc c (called machine_bus a (regs_in t t.pc) (inside floor None t)) ≡ Goes [] c
    (board_of (record t { pc = a; sp = t.sp - 2; ram = put t.ram (t.sp - 2) (Some t.pc) }))
called_at a pc c floor t h to =
    let even = h.even in let room = h.room.fits in let high = h.high in
    let k : IsRam (t.sp - 2) = record { even = omega arith; low = omega arith; high = omega arith } in
    let word = is_word_ram (t.sp - 2) k in let below = low_ram (t.sp - 2) k in let ram = is_ram_ram (t.sp - 2) k in let g = even_ram (t.sp - 2) k in
    let l : word_sum t.sp 0xFFFE ≡ t.sp - 2 = omega arith in
    let m : (t.sp - 2) / 2 * 2 ≡ t.sp - 2 = omega arith in
    let n : a / 2 * 2 ≡ a = omega arith in
    rw (
      l,
      set_sp t.pc t.sp (t.sp - 2) (t.sp - 2) t.enabled t.flags t.work m,
      set_pc t.pc (t.sp - 2) a a t.enabled t.flags t.work n,
      word,
      below,
      ram,
      g,
    ) refl

calls : (a : ℕ) (u : Core) → IsCodeAddress u.pc → FormNeeds plain (Call a) u
    → plainly (instruction_of (Call a)) (board_of u) ≡ outcome_of_core (form_step (Call a) u)
unfolding effect
calls a u c h =
    let on = is_on u.pc u.sp u.enabled u.flags u.work in
    let t : Core = record u { pc = u.pc + 4 } in
    let after : Core = record t { pc = a; sp = t.sp - 2; ram = put t.ram (t.sp - 2) (Some t.pc) } in
    let made : machine_outcome u.pc 5 (effect machine_bus (instruction_of (Call a)) (regs_in u u.pc) (begun (Number a) u)) ≡ Goes [] 5 (board_of after) =
    rw (call_half a u c) (called_at a u.pc 5 u.sp t h.1 h.0) in
    ap (λ b. if b then Stops [] 0 stop.Off else code_executed (board_of u) (instruction_of (Call a))) on
    ∙ code_begun (Number a) u (instruction_of (Call a)) tt refl
    ∙ ap (step_behind []) made

returns : (u : Core) → IsCodeAddress u.pc → FormNeeds plain Return u
    → plainly (instruction_of Return) (board_of u) ≡ outcome_of_core (form_step Return u)
returns u c h =
    let v = ram_word u u.sp in
    let even = h.2 in
    let e : v / 2 * 2 ≡ v = omega arith in
    on_two Mov Popped (dst.Reg reg.Pc) u c (h.0, h.1, h.3)
    ∙ rw (set_pc (u.pc + 2) (u.sp + 2) v v u.enabled u.flags u.work e) refl

keeps_stack : (b : WorkRegister) (u : Core) → IsCodeAddress u.pc
    → plainly (instruction_of (KeepStack b)) (board_of u) ≡ outcome_of_core (form_step (KeepStack b) u)
unfolding effect
keeps_stack b u c =
    let even = c.even in let high = c.high in
    let on = is_on u.pc u.sp u.enabled u.flags u.work in
    let first : word_sum u.pc 2 / 2 * 2 ≡ u.pc + 2 = omega arith in
    let behind : word_sum (word_sum (word_sum u.pc 2) 0) 0 / 2 * 2 ≡ u.pc + 2 = omega arith in
    rw (
      on,
      set_pc u.pc u.sp (word_sum u.pc 2) (u.pc + 2) u.enabled u.flags u.work first,
      set_pc (u.pc + 2) u.sp (word_sum (word_sum (word_sum u.pc 2) 0) 0)
          (u.pc + 2) u.enabled u.flags u.work behind,
      up u (u.pc + 2) b u.sp,
    ) refl

restores_stack : (u : Core) → IsCodeAddress u.pc → IsRam u.sp × IsKnown (u.ram u.sp) × (ram_word u u.sp % 2 ≡ 0)
    → plainly (instruction_of RestoreStack) (board_of u) ≡ outcome_of_core (form_step RestoreStack u)
restores_stack u c h =
    let v = ram_word u u.sp in
    let even = h.2 in let high = h.0.high in
    let e : v / 2 * 2 ≡ v = omega arith in
    on_two Mov Popped (dst.Reg (reg.Index index.Sp)) u c (h.0, h.1, (omega arith, omega arith))
    ∙ rw (set_sp (u.pc + 2) (u.sp + 2) v v u.enabled u.flags u.work e) refl

-- an operation on one register
modified_half : (f : Width → ℕ → Flags → Operated) (b : WorkRegister) (u : Core) → IsCodeAddress u.pc
    → read_modify_write machine_bus f Word (mode.Reg (source_register.Index (index_of b))) (regs_in u u.pc) (inside u.sp None u) ≡
    (let o = f Word (u.work (work_number b)) u.flags in Completed (
      register_file (u.pc + 2) u.sp u.enabled (flags_after o.flags u.flags)
          (put u.work (work_number b) o.value),
      None,
    ) (inside u.sp None u))
modified_half f b u c =
    let even = c.even in let high = c.high in
    let a : word_sum u.pc 2 / 2 * 2 ≡ u.pc + 2 = omega arith in
    let d : word_sum (word_sum u.pc 2) 0 / 2 * 2 ≡ u.pc + 2 = omega arith in
    let o = f Word (u.work (work_number b)) u.flags in
    let l = location.Register (reg.Index (index_of b)) in
    let next : Registers → Access MachineBus (Registers × Option Written) =
    λ r. written_back machine_bus f Word l (r (index_number (index_of b))) (with_register r 0 (word_sum (word_sum u.pc 2) 0)) (inside u.sp None u) in
    let last : Registers → ℕ → Access MachineBus (Registers × Option Written) = λ r v. written_back machine_bus f Word l v r (inside u.sp None u) in
    let ends : Flags → Access MachineBus (Registers × Option Written) = λ g. store machine_bus
    (with_flags (regs_in u (u.pc + 2)) (f Word (u.work (work_number b)) g).flags) Word l (f Word (u.work (work_number b)) g).value (inside u.sp None u) in
    ap next (set_pc u.pc u.sp (word_sum u.pc 2) (u.pc + 2) u.enabled u.flags u.work a)
    ∙ ap (λ v. last (with_register (regs_in u (u.pc + 2)) 0 (word_sum (word_sum u.pc 2) 0)) v) (got u (u.pc + 2) b)
    ∙ ap (λ r. last r (u.work (work_number b))) (set_pc (u.pc + 2) u.sp (word_sum (word_sum u.pc 2) 0) (u.pc + 2) u.enabled u.flags u.work d)
    ∙ ap ends (flags_back u.enabled u.flags)
    ∙ ap (λ r. store machine_bus r Word l o.value (inside u.sp None u)) (with_new o.flags u (u.pc + 2))
    ∙ ap (λ r. Completed (r, None) (inside u.sp None u)) (up (record u { flags = flags_after o.flags u.flags }) (u.pc + 2) b o.value)

modified_effect : (m : Modification) (b : WorkRegister) (u : Core) → IsCodeAddress u.pc
    → effect machine_bus (instruction_of (Modify m b)) (regs_in u u.pc) (inside u.sp None u) ≡
    (let o = modified m (u.work (work_number b)) u.flags in Completed
    (register_file (u.pc + 2) u.sp u.enabled (flags_after o.flags u.flags) (put u.work (work_number b) o.value), None) (inside u.sp None u))
unfolding effect
modified_effect change.Rra b u c = modified_half shifted b u c
modified_effect change.Rrc b u c = modified_half rotated b u c
modified_effect change.Swpb b u c = modified_half exchanged b u c
modified_effect change.Sxt b u c = modified_half sign_extended b u c

modified_cycles : (m : Modification) (b : WorkRegister) → cycles_of (instruction_of (Modify m b)) ≡ 1
modified_cycles change.Rra b = refl
modified_cycles change.Rrc b = refl
modified_cycles change.Swpb b = refl
modified_cycles change.Sxt b = refl

modified_blind : (m : Modification) (b : WorkRegister) → looks_there (instruction_of (Modify m b)) ≡ false
modified_blind change.Rra b = refl
modified_blind change.Rrc b = refl
modified_blind change.Swpb b = refl
modified_blind change.Sxt b = refl

modifies : (m : Modification) (b : WorkRegister) (u : Core) → IsCodeAddress u.pc
    → plainly (instruction_of (Modify m b)) (board_of u) ≡ outcome_of_core (form_step (Modify m b) u)
modifies m b u c =
    let on = is_on u.pc u.sp u.enabled u.flags u.work in
    rw (on, modified_blind m b, modified_effect m b u c, modified_cycles m b) refl

-- what a source needs in any code, it needs in code of which nothing is said
needs_so : (rules : CodeRules) (x : Source) (u : Core) → SourceNeeds rules x u → SourceNeeds plain x u
needs_so rules (Register b) u h = h
needs_so rules (Number n) u h = h
needs_so rules (Constant k) u h = h
needs_so rules (Fram a) u h = h
needs_so rules (Ram a) u h = h
needs_so rules (Pointed b) u h = h
needs_so rules (PointedNext b) u h = h
needs_so rules (Indexed b x) u h = h
needs_so rules Popped u h = let high = h.0.high in (h.0, h.1, (omega arith, omega arith))
needs_so rules (StackNext b) u h = h
needs_so rules Head u h = h
needs_so rules (Slot b) u h = h

-- so with room for a push
room_so : (rules : CodeRules) (sp : ℕ) → HasPushRoom rules sp → HasPushRoom plain sp
room_so rules sp h = let high = h.high in record { even = h.even; room = h.room; high = h.high; below = (omega arith, omega arith) }

-- each form
pub form_plainly : (rules : CodeRules) (m : Form) (u : Core) → IsCodeAddress u.pc → FormNeeds rules m u
    → plainly (instruction_of m) (board_of u) ≡ outcome_of_core (plain_step m u)
form_plainly rules (Move x y) u c h = moves x y u c (needs_so rules x u h.0) h.1
form_plainly rules (Calculate op x b) u c h = calculates op x b u c h.0 (needs_so rules x u h.1)
form_plainly rules (Compare x a) u c h = compares x a u c (needs_so rules x u h.0) h.1
form_plainly rules (Update op x a) u c h = updates op x a u c (h.0, h.1, needs_so rules x u h.2, h.3)
form_plainly rules (Push x) u c h = pushes x u c (needs_so rules x u h.0, room_so rules (source_read x u).sp h.1)
form_plainly rules (Modify m b) u c h = modifies m b u c
form_plainly rules (SetStack n) u c h = sets_stack n u c h.0
form_plainly rules EnableInterrupts u c h = enables u c
form_plainly rules (Sense b) u c h = senses b u c
form_plainly rules (Jump k o) u c h = jumps k o u c
form_plainly rules (Skip n) u c h = skips n u c h
form_plainly rules (Branch a) u c h = branches a u c h
form_plainly rules (BranchIndexed b x) u c h = branches_indexed b x u c h
form_plainly rules (SkipBy b) u c h = skips_by b u c h
form_plainly rules (Call a) u c h = calls a u c (h.0, room_so rules u.sp h.1)
form_plainly rules Return u c h = let high = h.0.high in returns u c (h.0, h.1, h.2, (omega arith, omega arith))
form_plainly rules (KeepStack b) u c h = keeps_stack b u c
form_plainly rules RestoreStack u c h = restores_stack u c (h.0, h.1, h.3)
