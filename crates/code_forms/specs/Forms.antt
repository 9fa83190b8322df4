-- The forms of instructions that the compiler and its runtime write, on a machine whose registers are told apart: what each is
-- as an instruction, how long it is, what it needs and what it does (SLAU049 and SLAU144, CPU chapter).
use Rattle.std.specs.Prelude.{ℕ, ◌+◌, ◌-◌, ◌%◌, ◌≡◌, ◌<◌, ◌≤◌, Bool, true, false, ◌==◌, if◌then◌else◌, List, [], ◌∷◌, ◌++◌, Option, Some, None, is_some, unwrap_or}
use Rattle.machine_effects.specs.address_space.Limits.{fram_end, stack_top, stack_floor, event_vector, HasStackRoom}
use Rattle.machine_effects.specs.event_places.Places.{handler_place, head_place, ring_place}
use Rattle.machine_effects.specs.alp_words.declared.Flags.{Flags}
use Rattle.machine_effects.specs.alp_words.declared.Width.TheVariants.{Word}
use Rattle.machine_effects.specs.msp_isa.declared.instructions.TwoOp.{TwoOp}
use Rattle.machine_effects.specs.msp_isa.declared.instructions.TwoOp.TheVariants.{Mov, Add, Cmp}
use Rattle.machine_effects.specs.msp_isa.Constant.{constant_value}
use Rattle.machine_effects.specs.msp_cycles.Cycles.{cycles_of}
use Rattle.machine_effects.specs.msp_step.declared.machine.Stop.{Stop}
use Rattle.machine_effects.specs.msp_step.declared.machine.Stop.TheVariants as stop
use Rattle.machine_effects.specs.msp_step.Registers.{Registers}
use Rattle.machine_effects.specs.msp_step.Effect.{status_with, operated, Operated, rotated, shifted, exchanged, sign_extended, writes_destination}
use Rattle.machine_effects.specs.msp_step.Effect.{word_sum, distance, is_met}
use Rattle.machine_effects.specs.fram_board.Effects.{Store, Take, Outside, Offered}
use Rattle.machine_effects.specs.World.{put}
use Rattle.machine_effects.specs.fram_board.Effects.{Effect}
use Rattle.machine_effects.specs.Inputs.{Inputs, first_look, other_looks, look_effects}
use Rattle.machine_effects.specs.Going.{StepOutcome, Goes, Stops, Stretch}
use Rattle.machine_effects.specs.Machine.{MachineBoard, MachineOutcome, forgotten, IsPlace, IsRam}
pub use Rattle.instruction_forms.specs.Encoding.{index_of, source_operand, source_bytes, target_operand, target_bytes, modification_operand}
pub use Rattle.instruction_forms.specs.Encoding.{instruction_of, form_bytes}
pub use Rattle.instruction_forms.specs.declared.kinds.WorkRegister.{WorkRegister}
pub use Rattle.instruction_forms.specs.declared.kinds.WorkRegister.TheVariants.{R4, R5, R6, R7, R8, R9, R10, R11, R12, R13, R14, R15}
pub use Rattle.instruction_forms.specs.declared.kinds.Source.{Source}
pub use Rattle.instruction_forms.specs.declared.kinds.Source.TheVariants.{Register, Number, Constant, Fram, Ram, Pointed, PointedNext, Indexed, Popped}
pub use Rattle.instruction_forms.specs.declared.kinds.Source.TheVariants.{StackNext, Head, Slot}
pub use Rattle.instruction_forms.specs.declared.kinds.Target.{Target}
pub use Rattle.instruction_forms.specs.declared.kinds.Target.TheVariants.{ToRegister, ToFram, ToRam, ToIndexed, ToPointed, ToOutnum, ToOutdata}
pub use Rattle.instruction_forms.specs.declared.kinds.Modification.{Modification}
use Rattle.instruction_forms.specs.declared.kinds.Modification.TheVariants as change
pub use Rattle.instruction_forms.specs.declared.kinds.Form.{Form}
pub use Rattle.instruction_forms.specs.declared.kinds.Form.TheVariants.{Move, Calculate, Compare, Update, Push, Modify, SetStack, Sense, Jump, Skip, Branch}
pub use Rattle.instruction_forms.specs.declared.kinds.Form.TheVariants.{EnableInterrupts, BranchIndexed, SkipBy, Call, Return, KeepStack, RestoreStack}

-- the numbers of the registers for work
abbrev pub work_number : WorkRegister → ℕ
work_number R4 = 4
work_number R5 = 5
work_number R6 = 6
work_number R7 = 7
work_number R8 = 8
work_number R9 = 9
work_number R10 = 10
work_number R11 = 11
work_number R12 = 12
work_number R13 = 13
work_number R14 = 14
work_number R15 = 15

-- a machine with its registers told apart; of the control bits of SR only GIE may be set
pub record Core : Type 0 where
  pub pc : ℕ
  pub sp : ℕ
  pub enabled : Bool  -- GIE: the CPU accepts interrupts
  pub flags : Flags
  pub work : ℕ → ℕ  -- by the register's number
  pub fram : ℕ → ℕ
  pub ram : ℕ → Option ℕ
  pub inputs : Inputs
  pub outnum : ℕ

-- SR but for its flags
abbrev pub control : Bool → ℕ
control enabled = if enabled then 8 else 0

-- the register file of these registers
abbrev pub register_file : ℕ → ℕ → Bool → Flags → (ℕ → ℕ) → Registers
register_file pc sp enabled f work = λ n.
    if n == 0 then pc else if n == 1 then sp else if n == 2 then status_with (control enabled) f else if n == 3 then 0 else work n

-- the machine
abbrev pub board_of : Core → MachineBoard
board_of u = record {
  registers = register_file u.pc u.sp u.enabled u.flags u.work;
  fram = u.fram;
  ram = u.ram;
  inputs = u.inputs;
  outnum = u.outnum;
}

-- no flag is set
abbrev pub clear_flags : Flags
clear_flags = record { n = false; z = false; c = false; v = false }

-- a machine whose SR is 0, as after a power-up, with its registers told apart
abbrev pub core_of : MachineBoard → Core
core_of s = record {
  pc = s.registers 0;
  sp = s.registers 1;
  enabled = false;
  flags = clear_flags;
  work = s.registers;
  fram = s.fram;
  ram = s.ram;
  inputs = s.inputs;
  outnum = s.outnum;
}

-- a step of such a machine
abbrev pub CoreOutcome : Type 0
CoreOutcome = StepOutcome Core Stop

-- some steps of it
abbrev pub CoreStretch : Type 0
CoreStretch = Stretch Core Stop

-- its outcome as the machine's
abbrev pub outcome_of_core : CoreOutcome → MachineOutcome
outcome_of_core (Goes es c u) = Goes es c (board_of u)
outcome_of_core (Stops es price e) = Stops es price e

-- the word at an address of RAM; 0 where it isn't known
abbrev pub ram_word : Core → ℕ → ℕ
ram_word u a = unwrap_or (u.ram a) 0

-- the value of a source
abbrev pub source_value : Source → Core → ℕ
source_value (Register b) u = u.work (work_number b)
source_value (Number n) u = n
source_value (Constant k) u = constant_value k
source_value (Fram a) u = u.fram a
source_value (Ram a) u = ram_word u a
source_value (Pointed b) u = u.fram (u.work (work_number b))
source_value (PointedNext b) u = u.fram (u.work (work_number b))
source_value (Indexed b x) u = u.fram (u.work (work_number b) + x)
source_value Popped u = ram_word u u.sp
source_value (StackNext b) u = ram_word u (u.work (work_number b))
source_value Head u = first_look u.inputs.looks head_place
source_value (Slot b) u = first_look u.inputs.looks (u.work (work_number b) + ring_place)

-- the machine behind a look
abbrev pub look_taken : Core → Core
look_taken u = record u { inputs = record u.inputs { looks = other_looks u.inputs.looks } }

-- the machine behind it
abbrev pub source_read : Source → Core → Core
source_read (PointedNext b) u = record u { work = put u.work (work_number b) (u.work (work_number b) + 2) }
source_read Popped u = record u { sp = u.sp + 2 }
source_read (StackNext b) u = record u { work = put u.work (work_number b) (u.work (work_number b) + 2) }
source_read (Register b) u = u
source_read (Number n) u = u
source_read (Constant k) u = u
source_read (Fram a) u = u
source_read (Ram a) u = u
source_read (Pointed b) u = u
source_read (Indexed b x) u = u
source_read Head u = look_taken u
source_read (Slot b) u = look_taken u

-- the effects of reading it: those of a look
abbrev pub source_effects : Source → Core → List Effect
source_effects (Register b) u = []
source_effects (Number n) u = []
source_effects (Constant k) u = []
source_effects (Fram a) u = []
source_effects (Ram a) u = []
source_effects (Pointed b) u = []
source_effects (PointedNext b) u = []
source_effects (Indexed b x) u = []
source_effects Popped u = []
source_effects (StackNext b) u = []
source_effects Head u = look_effects u.inputs.looks
source_effects (Slot b) u = look_effects u.inputs.looks

-- the address of a slot of the ring
pub record IsSlot (a : ℕ) : Type 0 where
  pub even : a % 2 ≡ 0
  pub low : ring_place ≤ a
  pub high : a < event_vector

-- what code keeps to: whether it may take events, and between which addresses SP stays
pub record CodeRules : Type 0 where
  pub events : Bool
  pub low : ℕ
  pub high : ℕ

-- SP is between them
abbrev pub IsKept : CodeRules → ℕ → Type 0
IsKept rules sp = (rules.low ≤ sp) × (sp ≤ rules.high)

-- a word of RAM is known
abbrev pub IsKnown : Option ℕ → Type 0
IsKnown o = is_some o ≡ true

-- what it needs, by the rules of its code: a word of RAM is one that is known
abbrev pub SourceNeeds : CodeRules → Source → Core → Type 0
SourceNeeds rules (Register b) u = Unit {0}
SourceNeeds rules (Number n) u = Unit {0}
SourceNeeds rules (Constant k) u = Unit {0}
SourceNeeds rules (Fram a) u = IsPlace a
SourceNeeds rules (Ram a) u = IsRam a × (u.sp ≤ a) × IsKnown (u.ram a)
SourceNeeds rules (Pointed b) u = IsPlace (u.work (work_number b))
SourceNeeds rules (PointedNext b) u = IsPlace (u.work (work_number b))
SourceNeeds rules (Indexed b x) u = IsPlace (u.work (work_number b) + x)
SourceNeeds rules Popped u = IsRam u.sp × IsKnown (u.ram u.sp) × IsKept rules (u.sp + 2)
SourceNeeds rules (StackNext b) u = IsRam (u.work (work_number b)) × (u.sp ≤ u.work (work_number b)) × IsKnown (u.ram (u.work (work_number b)))
SourceNeeds rules Head u = Unit {0}
SourceNeeds rules (Slot b) u = IsSlot (u.work (work_number b) + ring_place)

-- the address in RAM at which it reads, if it does
abbrev pub source_ram : Source → Core → Option ℕ
source_ram (Ram a) u = Some a
source_ram Popped u = Some u.sp
source_ram (StackNext b) u = Some (u.work (work_number b))
source_ram _ u = None

-- a word written to a target, in so many cycles
abbrev pub target_written : Target → ℕ → ℕ → Core → CoreOutcome
target_written (ToRegister b) c v u = Goes [] c (record u { work = put u.work (work_number b) v })
target_written (ToFram a) c v u = Goes (Store a v ∷ []) c (record u { fram = put u.fram a v })
target_written (ToRam a) c v u = Goes [] c (record u { ram = put u.ram a (Some v) })
target_written (ToIndexed b x) c v u =
    let a = u.work (work_number b) + x in
    Goes (Store a v ∷ []) c (record u { fram = put u.fram a v })
target_written (ToPointed b) c v u = Goes (Store (u.work (work_number b)) v ∷ []) c (record u { fram = put u.fram (u.work (work_number b)) v })
target_written ToOutnum c v u = Goes [] c (record u { outnum = v })
target_written ToOutdata c v u = Goes (Outside (Offered u.outnum v) ∷ []) c u

-- a write behind the effects of the source
abbrev pub behind_source : List Effect → CoreOutcome → CoreOutcome
behind_source es (Goes [] c u) = Goes es c u
behind_source es (Goes (f ∷ fs) c u) = Goes (es ++ f ∷ fs) c u
behind_source es (Stops fs price e) = Stops (es ++ fs) price e

-- what it needs
abbrev pub TargetNeeds : Target → Core → Type 0
TargetNeeds (ToRegister b) u = Unit {0}
TargetNeeds (ToFram a) u = IsPlace a
TargetNeeds (ToRam a) u = IsRam a
TargetNeeds (ToIndexed b x) u = IsPlace (u.work (work_number b) + x)
TargetNeeds (ToPointed b) u = IsPlace (u.work (work_number b))
TargetNeeds ToOutnum u = Unit {0}
TargetNeeds ToOutdata u = Unit {0}

-- flags after an operation, which may leave them
abbrev pub flags_after : Option Flags → Flags → Flags
flags_after None f = f
flags_after (Some g) f = g

-- what RRC, RRA, SWPB or SXT gives of a word
abbrev pub modified : Modification → ℕ → Flags → Operated
modified change.Rrc = rotated Word
modified change.Rra = shifted Word
modified change.Swpb = exchanged Word
modified change.Sxt = sign_extended Word

-- the machine after an operation on a register
abbrev pub calculated : TwoOp → WorkRegister → Operated → Core → Core
calculated op b o u = record u { flags = flags_after o.flags u.flags; work = if writes_destination op then put u.work (work_number b) o.value else u.work }

-- a reading taken into a register; where none is left the machine stops, at the instruction's price
abbrev pub sensed : List ℕ → WorkRegister → Core → CoreOutcome
sensed [] b u = Stops [] 3 stop.NoReading
sensed (w ∷ ws) b u = Goes (Take w ∷ []) 3 (record u { pc = u.pc + 4; work = put u.work (work_number b) w; inputs = record u.inputs { readings = ws } })

-- what a form does
abbrev pub form_step : Form → Core → CoreOutcome
form_step (Move x y) u =
    let t = source_read x u in
    behind_source (source_effects x u)
    (target_written y (cycles_of (instruction_of (Move x y))) (source_value x u) (record t { pc = u.pc + (2 + source_bytes x + target_bytes y) }))
form_step (Calculate op x b) u =
    let t = source_read x u in
    let o = operated op Word (t.work (work_number b)) (source_value x u) u.flags in
    Goes (source_effects x u) (cycles_of (instruction_of (Calculate op x b))) (calculated op b o (record t { pc = u.pc + (2 + source_bytes x) }))
form_step (Compare x a) u =
    let t = source_read x u in
    let o = operated Cmp Word (u.fram a) (source_value x u) u.flags in
    let after : Core = record t { pc = u.pc + (2 + source_bytes x + 2); flags = flags_after o.flags u.flags } in
    Goes (source_effects x u) (cycles_of (instruction_of (Compare x a))) after
form_step (Update op x a) u =
    let t = source_read x u in
    let o = operated op Word (u.fram a) (source_value x u) u.flags in
    let after : Core = record t { pc = u.pc + (2 + source_bytes x + 2); flags = flags_after o.flags u.flags; fram = put u.fram a o.value } in
    Goes (source_effects x u ++ Store a o.value ∷ []) (cycles_of (instruction_of (Update op x a))) after
form_step (Push x) u =
    let t = source_read x u in
    let after : Core = record t { pc = u.pc + (2 + source_bytes x); sp = t.sp - 2; ram = put t.ram (t.sp - 2) (Some (source_value x u)) } in
    Goes (source_effects x u) (cycles_of (instruction_of (Push x))) after
form_step (Modify m b) u =
    let o = modified m (u.work (work_number b)) u.flags in
    Goes [] 1 (record u { pc = u.pc + 2; flags = flags_after o.flags u.flags; work = put u.work (work_number b) o.value })
form_step (SetStack n) u =
    Goes [] 2 (record u { pc = u.pc + 4; sp = n; ram = if u.enabled then forgotten n u.sp u.ram else u.ram })
form_step EnableInterrupts u = Goes [] 1 (record u { pc = u.pc + 2; enabled = true })
form_step (Sense b) u = sensed u.inputs.readings b u
form_step (Jump c offset) u = Goes [] 2 (record u { pc = if is_met c u.flags then word_sum (u.pc + 2) (distance offset) else u.pc + 2 })
form_step (Skip n) u =
    let o = operated Add Word (u.pc + 4) n u.flags in
    Goes [] 3 (record u { pc = o.value; flags = flags_after o.flags u.flags })
form_step (Branch a) u = Goes [] 3 (record u { pc = a })
form_step (BranchIndexed b x) u = Goes [] 3 (record u { pc = u.fram (u.work (work_number b) + x) })
form_step (SkipBy b) u =
    let o = operated Add Word (u.pc + 2) (u.work (work_number b)) u.flags in
    Goes [] 2 (record u { pc = o.value; flags = flags_after o.flags u.flags })
form_step (Call a) u = Goes [] 5 (record u { pc = a; sp = u.sp - 2; ram = put u.ram (u.sp - 2) (Some (u.pc + 4)) })
form_step Return u = Goes [] 3 (record u { pc = ram_word u u.sp; sp = u.sp + 2 })
form_step (KeepStack b) u = Goes [] 1 (record u { pc = u.pc + 2; work = put u.work (work_number b) u.sp })
form_step RestoreStack u = Goes [] 2 (record u { pc = u.pc + 2; sp = ram_word u u.sp })

-- room in RAM below SP for a word, where code keeps SP
pub record HasPushRoom (rules : CodeRules) (sp : ℕ) : Type 0 where
  pub even : sp % 2 ≡ 0
  pub room : HasStackRoom sp 1
  pub high : sp ≤ stack_top
  pub below : IsKept rules (sp - 2)

-- a handler is named, and has room in RAM below SP
pub record IsPrepared (u : Core) : Type 0 where
  pub vector : u.fram event_vector ≡ handler_place
  pub low : stack_floor ≤ u.sp
  pub high : u.sp ≤ stack_top

-- SP stands in RAM, where a handler has room below it
pub record IsInStack (sp : ℕ) : Type 0 where
  pub low : stack_floor ≤ sp
  pub high : sp ≤ stack_top

-- an operation that reads its destination
abbrev pub IsNotMov : TwoOp → Type 0
IsNotMov Mov = ⊥
IsNotMov _ = Unit {0}

-- what a form needs, by the rules of its code: behind each SP stands between their addresses
abbrev pub FormNeeds : CodeRules → Form → Core → Type 0
FormNeeds rules (Move x y) u = SourceNeeds rules x u × TargetNeeds y (source_read x u)
FormNeeds rules (Calculate op x b) u = IsNotMov op × SourceNeeds rules x u
FormNeeds rules (Compare x a) u = SourceNeeds rules x u × IsPlace a
FormNeeds rules (Update op x a) u = IsNotMov op × (writes_destination op ≡ true) × SourceNeeds rules x u × IsPlace a
FormNeeds rules (Push x) u = SourceNeeds rules x u × HasPushRoom rules (source_read x u).sp
FormNeeds rules (Modify m b) u = Unit {0}
FormNeeds rules (SetStack n) u = (n % 2 ≡ 0) × (rules.events ≡ true → IsInStack n) × IsKept rules n
FormNeeds rules EnableInterrupts u = (rules.events ≡ true) × IsPrepared u
FormNeeds rules (Sense b) u = Unit {0}
FormNeeds rules (Jump c offset) u = Unit {0}
FormNeeds rules (Skip n) u = n % 2 ≡ 0
FormNeeds rules (Branch a) u = a % 2 ≡ 0
FormNeeds rules (BranchIndexed b x) u = IsPlace (u.work (work_number b) + x) × (u.fram (u.work (work_number b) + x) % 2 ≡ 0)
FormNeeds rules (SkipBy b) u = u.work (work_number b) % 2 ≡ 0
FormNeeds rules (Call a) u = (a % 2 ≡ 0) × HasPushRoom rules u.sp
FormNeeds rules Return u =
    IsRam u.sp × IsKnown (u.ram u.sp) × (ram_word u u.sp % 2 ≡ 0) × IsKept rules (u.sp + 2)
FormNeeds rules (KeepStack b) u = Unit {0}
FormNeeds rules RestoreStack u =
    (let q = ram_word u u.sp in IsRam u.sp × IsKnown (u.ram u.sp) × ((u.sp ≤ q) × (q ≤ stack_top)) × (q % 2 ≡ 0) × IsKept rules q)

-- the address in RAM at which a form reads, if it does
abbrev pub ram_read : Form → Core → Option ℕ
ram_read (Move x y) u = source_ram x u
ram_read (Calculate op x b) u = source_ram x u
ram_read (Compare x a) u = source_ram x u
ram_read (Update op x a) u = source_ram x u
ram_read (Push x) u = source_ram x u
ram_read Return u = Some u.sp
ram_read RestoreStack u = Some u.sp
ram_read _ u = None

-- an even address with room behind it for an instruction of three words
pub record IsCodeAddress (pc : ℕ) : Type 0 where
  pub even : pc % 2 ≡ 0
  pub high : pc + 6 < fram_end
