-- A compiled source as a program on the machine.
use Rattle.std.specs.Prelude.{◌≡◌, ℕ, ◌-◌, ◌*◌, List, map}
use Rattle.msp_isa.specs.declared.instructions.Instr.{Instr}
use Rattle.machine_effects.specs.Machine.{Code, MachineBoard}
use Rattle.code_forms.specs.Forms.{Core, board_of}
use Rattle.cost_bound.specs.Summary.{Summary}
use Rattle.cost_bound.specs.Summaries.{summaries}
use Rattle.cost_bound.specs.Frames.{stack_of}
use Rattle.cost_bound.specs.Allowance.{CheckedTask}
use Rattle.source_values.specs.Runs.{CheckedProgram}
use Rattle.memory_map.specs.MemoryMap.{MemoryMap}
use Rattle.runtime_code.specs.Addresses.{stack_top}
use Rattle.boot_runtime.specs.Laws.{NamesHandler}
use Rattle.lower.specs.Lowered.{lowered}
use Rattle.crash_rules.specs.Runs.{Program}
use Rattle.linked_code.specs.Linked.{linked, linked_code, attempt_start}
use Rattle.linked_code.specs.Watch.{stacked_step}

-- the code of a source with its layout
abbrev pub source_code : CheckedProgram → MemoryMap → List Instr
source_code p l = linked l (lowered l p)

-- the same, in FRAM
abbrev pub placed_code : CheckedProgram → MemoryMap → Code
placed_code p l = linked_code l (lowered l p)

-- a machine whose registers are told apart, at the boot, with the handler where there are events
pub record IsBooting (l : MemoryMap) (b : MachineBoard) : Type 0 where
  pub core : Core
  pub is : b ≡ board_of core
  pub pc : core.pc ≡ l.boot.address
  pub named : NamesHandler l core.fram

-- the same, at the start of an attempt
pub record IsStarting (l : MemoryMap) (b : MachineBoard) : Type 0 where
  pub core : Core
  pub is : b ≡ board_of core
  pub pc : core.pc ≡ attempt_start l

-- the lowest place of SP while the code of a task runs: its stack has so many words, of which 16 are left to the handler
abbrev pub stack_low : List Summary → CheckedTask → ℕ
stack_low known task = stack_top - 2 * (stack_of known task.body - 16)

-- that of each task
abbrev pub stack_lows : CheckedProgram → MemoryMap → List ℕ
stack_lows p l = map (stack_low (summaries p)) p.tasks

-- the code of a source, as a program that runs. It goes astray where SP leaves the stack of the task in whose code PC is
abbrev pub compiled_program : CheckedProgram → MemoryMap → Program
compiled_program p l = record { step = stacked_step l (lowered l p) (stack_lows p l); IsPoweredUp = IsBooting l; AtStart = IsStarting l }
