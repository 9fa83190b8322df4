-- An instruction takes a cycle at least, and changes FRAM and the inputs as its effects say, under watch too.
use Rattle.msp_isa.specs.declared.registers.Reg.TheVariants as reg
use Rattle.msp_isa.specs.declared.operands.Operand.TheVariants as operand
use Rattle.msp_isa.specs.declared.operands.Src.TheVariants as src
use Rattle.msp_isa.specs.declared.operands.Dst.TheVariants as dst
use Rattle.msp_isa.specs.declared.instructions.Instr.TheVariants as instr
use Rattle.msp_step.specs.declared.machine.Stop.TheVariants as stop
use Rattle.std.proofs.Common.{◌<◌, ◌==◌, ℕ, Bool, true, false, if◌then◌else◌, Option, Some, None, List, [], refl, arith}
use Rattle.msp_isa.specs.declared.operands.Operand.{Operand}
use Rattle.msp_isa.specs.declared.operands.Src.{Src}
use Rattle.msp_isa.specs.declared.operands.Dst.{Dst}
use Rattle.msp_isa.specs.declared.instructions.OneOp.TheVariants.{Rrc, Swpb, Rra, Sxt, Push, Call}
use Rattle.msp_isa.specs.declared.instructions.Instr.{Instr}
use Rattle.msp_cycles.specs.Cycles.{CycleRow, operand_cycles, source_cycles, destination_cycles, push, call, read_modify_write, cycles_of}
use Rattle.msp_step.specs.Registers.{Registers}
use Rattle.msp_step.specs.Access.{Access, Completed, Faulted}
use Rattle.msp_step.specs.Effect.{Written}
use Rattle.msp_step.specs.Step.{effect, off_bit}
use Rattle.fram_board.specs.Effects.{Effect}
use Rattle.machine_effects.specs.Changes.{ChangesByEffects}
use Rattle.machine_effects.specs.Going.{Goes, Stops, step_behind}
use Rattle.machine_effects.specs.Inputs.{Look, first_look, other_looks, look_effects}
use Rattle.machine_effects.specs.Machine.{Code, MachineBus, MachineBoard, MachineOutcome, machine_bus, machine_opened_seeing, machine_outcome, uncovering, code_executed, standing}
use Rattle.machine_effects.specs.Machine.{step_with, looks_there, machine_executed_seeing, executed_looking}
use Rattle.machine_effects.specs.Machine.{astray, is_exposed, undisturbed, exec}
use Rattle.machine_effects.proofs.Interface.{takes_nothing, code_changes_by_effects}
use Rattle.code_forms.specs.Watch.{watched}
use Rattle.crash_rules.specs.Runs.{TakesCycles}

-- each column for an operand has a cycle at least
record HasCycles (c : CycleRow) : Type 0 where
  pub register : 0 < c.register
  pub indirect : 0 < c.indirect
  pub increment : 0 < c.increment
  pub indexed : 0 < c.indexed
  pub symbolic : 0 < c.symbolic
  pub absolute : 0 < c.absolute

operand_some : (c : CycleRow) → HasCycles c → (o : Operand) → 0 < operand_cycles c o
operand_some c h (operand.Reg r) = h.register
operand_some c h (operand.Indexed r x) = h.indexed
operand_some c h (operand.Symbolic x) = h.symbolic
operand_some c h (operand.Absolute a) = h.absolute
operand_some c h (operand.Indirect r) = h.indirect
operand_some c h (operand.Increment r) = h.increment

source_some : (c : CycleRow) → HasCycles c → 0 < c.immediate → (s : Src) → 0 < source_cycles c s
source_some c h i (src.Operand o) = operand_some c h o
source_some c h i (src.Immediate n) = i
source_some c h i (src.Constant k) = h.register

row_some : (d : Dst) → HasCycles (destination_cycles d) × (0 < (destination_cycles d).immediate)
row_some (dst.Reg reg.Pc) = search arith
row_some (dst.Reg reg.Sr) = search arith
row_some (dst.Reg reg.R3) = search arith
row_some (dst.Reg (reg.Index r)) = search arith
row_some (dst.Indexed r x) = search arith
row_some (dst.Symbolic x) = search arith
row_some (dst.Absolute a) = search arith

modify_some : HasCycles read_modify_write
modify_some = search arith

push_some : HasCycles push
push_some = search arith

call_some : HasCycles call
call_some = search arith

pub cycles_some : (i : Instr) → 0 < cycles_of i
cycles_some (instr.Two op w s d) = source_some (destination_cycles d) (row_some d).0 (row_some d).1 s
cycles_some (instr.One (Rrc w o)) = operand_some read_modify_write modify_some o
cycles_some (instr.One (Swpb o)) = operand_some read_modify_write modify_some o
cycles_some (instr.One (Rra w o)) = operand_some read_modify_write modify_some o
cycles_some (instr.One (Sxt o)) = operand_some read_modify_write modify_some o
cycles_some (instr.One (Push w s)) = source_some push push_some (omega arith) s
cycles_some (instr.One (Call s)) = source_some call call_some (omega arith) s
cycles_some (instr.Jump c offset) = omega arith
cycles_some instr.Reti = omega arith

outcome_takes : (pc c : ℕ) (x : Access MachineBus (Registers × Option Written)) → 0 < c → TakesCycles (machine_outcome pc c x)
outcome_takes pc c (Completed x t) h = h
outcome_takes pc c (Faulted e a t) h = λ q. h

either_takes : (b : Bool) (x y : MachineOutcome) → TakesCycles x → TakesCycles y → TakesCycles (if b then x else y)
either_takes true x y h k = h
either_takes false x y h k = k

executed_takes : (ring : Option Look) (s : MachineBoard) (i : Instr) → TakesCycles (machine_executed_seeing ring s i)
executed_takes ring s i =
    outcome_takes (s.registers 0) (cycles_of i) (effect machine_bus i s.registers (machine_opened_seeing ring s)) (cycles_some i)

behind_takes : (es : List Effect) (o : MachineOutcome) → TakesCycles o → TakesCycles (step_behind es o)
behind_takes es (Goes fs c t) h = h
behind_takes es (Stops fs price e) h = h

looking_takes : (looks : List Look) (s : MachineBoard) (i : Instr) → TakesCycles (executed_looking looks s i)
looking_takes looks s i =
    behind_takes (look_effects looks) _ (executed_takes (Some (first_look looks)) (record s { inputs = record s.inputs { looks = other_looks looks } }) i)

uncovering_takes : (i : Instr) (s : MachineBoard) (o : MachineOutcome) → TakesCycles o → TakesCycles (uncovering i s o)
uncovering_takes i s (Goes es c t) h = h
uncovering_takes i s (Stops es price e) h = h

standing_takes : (i : Option Instr) (s : MachineBoard) → TakesCycles (standing i s)
standing_takes (Some i) s =
    uncovering_takes i s (code_executed s i)
    (either_takes (looks_there i) _ _ (looking_takes s.inputs.looks s i) (executed_takes None s i))
standing_takes None s = λ q. absurd (cc (q))

undisturbed_takes : (events : Bool) (s : MachineBoard) (o : MachineOutcome) → TakesCycles o → TakesCycles (undisturbed events s o)
undisturbed_takes events s (Goes es c t) h =
    either_takes (is_exposed events s t) (Stops [] 0 (astray s)) (Goes es c t) (λ q. absurd (cc (q))) h
undisturbed_takes events s (Stops es price e) h = h

pub code_takes : (code : Code) (s : MachineBoard) → TakesCycles (exec code s)
code_takes code s =
    let i = code.at (s.registers 0) in
    undisturbed_takes code.events s (step_with i s)
    (either_takes (off_bit s.registers == 1) (Stops [] 0 stop.Off) (standing i s) (λ q. absurd (cc (q))) (standing_takes i s))

-- so does one under watch
pub watched_takes : (may : Registers → Bool) (code : Code) (s : MachineBoard) → TakesCycles (watched may (exec code) s)
watched_takes may code s = either_takes (may s.registers) (exec code s) (Stops [] 0 (astray s)) (code_takes code s) (λ q. absurd (cc (q)))

-- ---- what it changes

either_changes : (b : Bool) (s : MachineBoard) (x y : MachineOutcome) → ChangesByEffects s x → ChangesByEffects s y
    → ChangesByEffects s (if b then x else y)
either_changes true s x y h k = h
either_changes false s x y h k = k

-- under watch too an instruction changes FRAM and the inputs as its effects say
pub watched_changes : (may : Registers → Bool) (code : Code) (s : MachineBoard) → ChangesByEffects s (watched may (exec code) s)
watched_changes may code s =
    either_changes (may s.registers) s (exec code s) (Stops [] 0 (astray s)) (code_changes_by_effects code s) (refl, (s.inputs, takes_nothing s.inputs))
