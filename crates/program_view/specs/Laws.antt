-- Laws of a board and its program's machine.
use Rattle.std.specs.Prelude.{◌≡◌, ◌+◌, ◌≤◌, ◌<◌, ◌⊎◌, true, false, List, [], ◌++◌, Some, Ok, Err}
use Rattle.event_places.specs.Places.{handler_place}
use Rattle.msp_isa.specs.declared.instructions.Instr.{Instr}
use Rattle.msp_cycles.specs.Cycles.{cycles_of}
use Rattle.msp_step.specs.declared.machine.Stop.{Stop}
use Rattle.msp_step.specs.Registers.{registers_of}
use Rattle.msp_step.specs.Step.{is_interruptible}
use Rattle.fram_board.specs.declared.board.NextStep.TheVariants as next_step
use Rattle.fram_board.specs.declared.board.Stepped.{Stepped}
use Rattle.fram_board.specs.declared.events.Heard.TheVariants.{Nothing}
use Rattle.fram_board.specs.Events.{words_heard}
use Rattle.fram_board.specs.Board.{BoardValue, executed, acceptance, at_boundary, is_accepting, IsNextInstruction}
use Rattle.fram_board.specs.Effects.{effects_of}
use Rattle.fram_board.specs.Run.{moment_of}
use Rattle.machine_effects.specs.Inputs.{Look, look_effects}
use Rattle.machine_effects.specs.Going.{Goes, Stops}
use Rattle.machine_effects.specs.Machine.{MachineBoard, program_executed, keeps_stack, in_stack}
use Rattle.machine_effects.specs.View.{looks_at, IsWhole, IsBusFault}
use Rattle.event_handler.specs.Handler.{Stage, SaveR4, instruction_at}
use Rattle.event_handler.specs.Boundaries.{IsInterrupted, IsInHandler, IsBehind, next_stage, heard_at, cycles_left, instructions_left}
use Rattle.program_view.specs.Stands.{Shows, StandsAs, IsPrograms, IsServed, cycles_due, steps_due, stage_of, stage_behind, waiting_at, waiting}

-- how SP moves in a step where the CPU accepts interrupts, and goes on to do so
pub record KeepsItsStack (u next : MachineBoard) : Type 0 where
  pub accepts : is_interruptible next.registers ≡ true
  pub in_stack : in_stack (u.registers 1) ≡ true
  pub stack : keeps_stack (u.registers 1) (next.registers 1) ≡ true

-- a step keeps the rules of interrupts: once the CPU accepts them it does so on, and SP moves so
abbrev pub KeepsRules : MachineBoard → MachineBoard → Type 0
KeepsRules u next = is_interruptible u.registers ≡ true → KeepsItsStack u next

-- an instruction that is made does on the board's machine as on the board, behind its look, and leaves a machine that is to see these next;
-- where it keeps the rules of interrupts, the board shows it
pub record IsMade (b : BoardValue) (u : MachineBoard) (i : Instr) (more : List Look) (done : Stepped) : Type 0 where
  pub next : MachineBoard
  pub goes : program_executed u i ≡ Goes (look_effects (looks_at b i) ++ effects_of b (executed b i)) done.cycles next
  pub looks : next.inputs.looks ≡ more
  pub shows : KeepsRules u next → Shows (at_boundary (executed b i).board) next
  pub programs : KeepsRules u next → more ≡ [] → registers_of b.cpu 0 < handler_place → IsPrograms b i

-- an instruction does so on a board and on the machine that the board shows
pub record DoesAlike (b : BoardValue) (u : MachineBoard) (i : Instr) (more : List Look) : Type 0 where
  pub line : (executed b i).board.line ≡ b.line
  pub made : (done : Stepped) → (executed b i).answer ≡ Ok done → IsMade b u i more done
  pub stopped : (e : Stop) → (executed b i).answer ≡ Err e
      → program_executed u i ≡ Stops (look_effects (looks_at b i) ++ effects_of b (executed b i)) (cycles_of i) e

-- or the machine ends by a bus fault
abbrev pub InstructionsAreThePrograms : Type 0
InstructionsAreThePrograms = (b : BoardValue) (u : MachineBoard) (i : Instr) (more : List Look) → IsWhole b → Shows b u → IsNextInstruction b i
    → u.inputs.looks ≡ looks_at b i ++ more → IsBusFault (program_executed u i) ⊎ DoesAlike b u i more

-- an acceptance is made, in six cycles; it is the handler's, and the board then stands as the program's machine at the handler's first instruction
pub record Begins (b : BoardValue) (u : MachineBoard) : Type 0 where
  pub done : Stepped
  pub made : (acceptance b).answer ≡ Ok done
  pub cycles : done.cycles ≡ 6
  pub served : IsServed b (moment_of b next_step.Acceptance done)
  pub stands : StandsAs (at_boundary (acceptance b).board) u
  pub due : cycles_due stands ≡ 42
  pub steps : steps_due stands ≡ 15
  pub waits : waiting stands ≡ 1
  pub interrupted : IsInterrupted b
  pub stage : stage_of stands ≡ Some (b, SaveR4)
  pub silent : b.line.heard ≡ Nothing → done.heard ≡ Nothing
  pub inside : IsInHandler b SaveR4 (at_boundary (acceptance b).board)

abbrev pub AcceptancesBegin : Type 0
AcceptancesBegin = (b : BoardValue) (u : MachineBoard) → Shows b u → IsInterrupted b → Begins b u

-- the step of a board in the handler is the handler's, of the cycles and steps that are left, and the board stands as the program's machine on
pub record GoesOn (b : BoardValue) (u : MachineBoard) (from : BoardValue) (at : Stage) : Type 0 where
  pub none : is_accepting b ≡ false
  pub next : IsNextInstruction b (instruction_at at)
  pub done : Stepped
  pub made : (executed b (instruction_at at)).answer ≡ Ok done
  pub served : IsServed b (moment_of b (next_step.Instruction (instruction_at at)) done)
  pub stands : StandsAs (at_boundary (executed b (instruction_at at)).board) u
  pub interrupted : IsInterrupted from
  pub inside : IsInHandler from at b
  pub heard : done.heard ≡ heard_at from at
  pub behind : IsBehind from (next_stage from at) (at_boundary (executed b (instruction_at at)).board)
  pub stage : stage_of stands ≡ stage_behind from (next_stage from at)
  pub silent : b.line.heard ≡ Nothing
  pub waits : words_heard done.heard + waiting stands ≡ waiting_at at
  pub cycles : done.cycles + cycles_due stands ≤ cycles_left at
  pub steps : 1 + steps_due stands ≤ instructions_left at

abbrev pub HandlersGoOn : Type 0
HandlersGoOn = (b : BoardValue) (u : MachineBoard) (from : BoardValue) (at : Stage) → Shows from u → IsInterrupted from → IsInHandler from at b
    → GoesOn b u from at
