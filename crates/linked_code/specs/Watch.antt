-- Where SP stands while the code of a compiled source runs: within the stack of a task in whose code the machine stands.
use Rattle.std.specs.Prelude.{◌≡◌, ℕ, ◌+◌, ◌<◌, ◌≤◌, Bool, false, not, nat_le, nat_lt, ◌&&◌, ◌||◌, List, [], ◌∷◌, Some, length, slice_get}
use Rattle.std.specs.List.{list_any}
use Rattle.boot_runtime.specs.msp_step.Registers.{Registers}
use Rattle.boot_runtime.specs.msp_step.declared.machine.Stop.TheVariants as stop
use Rattle.boot_runtime.specs.fram_board.Effects.{Effect}
use Rattle.boot_runtime.specs.machine_effects.Going.{Leads, Stalls}
use Rattle.boot_runtime.specs.machine_effects.Machine.{Code, MachineBoard, MachineOutcome, exec}
use Rattle.boot_runtime.specs.code_forms.Forms.{Core, board_of}
use Rattle.boot_runtime.specs.code_forms.Code.{KeptCode, Stands, IsTidy}
use Rattle.boot_runtime.specs.code_forms.Watch.{watched, only_at}
use Rattle.word_code.specs.array_versions.Program.{Program}
use Rattle.word_code.specs.array_versions.Form.{IsWhole}
use Rattle.word_code.specs.array_versions.TaskPrograms.{TaskPrograms}
use Rattle.word_code.specs.array_versions.Behaviour.{End, GoesOn, Jumps, Gives, Short, Strays, Broken}
use Rattle.word_code.specs.Code.{code_of}
use Rattle.word_code.specs.Laws.{IsEntry, KeepsWithin, HasJumped, RoutinesStand}
use Rattle.boot_runtime.specs.memory_map.declared.place.Region.{Region}
use Rattle.boot_runtime.specs.memory_map.MemoryMap.{MemoryMap, TaskPlace}
use Rattle.boot_runtime.specs.memory_map.Places.{end_of, code_regions}
use Rattle.boot_runtime.specs.runtime_code.Addresses.{stack_top}
use Rattle.linked_code.specs.Linked.{linked_code, ProgramsAreWhole}

-- an address is in a region
abbrev pub is_in_region : ℕ → Region → Bool
is_in_region a r = nat_le r.address a && nat_lt a (end_of r)

-- in the code of a task or of a function that it reaches
abbrev pub is_in_task : ℕ → TaskPlace → Bool
is_in_task a t = list_any (is_in_region a) (code_regions t)

-- in that of some task
abbrev pub is_in_some : ℕ → List TaskPlace → Bool
is_in_some a ts = list_any (is_in_task a) ts

-- an address is in the code of a task, and SP stands from its lowest place up to where stacks begin
abbrev pub is_on_some : (top pc sp : ℕ) → List TaskPlace → List ℕ → Bool
is_on_some top pc sp [] lows = false
is_on_some top pc sp (t ∷ ts) [] = false
is_on_some top pc sp (t ∷ ts) (low ∷ lows) = (is_in_task pc t && (nat_le low sp && nat_le sp top)) || is_on_some top pc sp ts lows

-- where PC is in the code of tasks SP stands in the stack of one of them, by the lowest place of each
abbrev pub keeps_stacks : MemoryMap → List ℕ → Registers → Bool
keeps_stacks l lows r = not (is_in_some (r 0) l.tasks) || is_on_some stack_top (r 0) (r 1) l.tasks lows

-- a step of the code of a compiled source that goes astray where it isn't so
abbrev pub stacked_step : MemoryMap → List TaskPrograms → List ℕ → MachineBoard → MachineOutcome
stacked_step l programs lows = watched (keeps_stacks l lows) (exec (linked_code l programs))

-- the part of code that is of no task: boot and commit
abbrev pub runtime_only : MemoryMap → Code → Code
runtime_only l code = only_at (λ a. not (is_in_some a l.tasks)) code

-- the part that is of a task, which keeps SP from a place on
abbrev pub task_only : MemoryMap → TaskPlace → (low : ℕ) → Code → KeptCode
task_only l t low code = record { code = only_at (λ a. is_in_task a t) code; low = low; high = stack_top }

-- where the code of a task stands, and the lowest place of SP in its stack: its program and what it calls need no lower one
pub record HasStack (l : MemoryMap) (programs : List TaskPrograms) (whole : ProgramsAreWhole programs) (lows : List ℕ) (k : ℕ)
    (named : k < length programs) : Type 0 where
  pub place : TaskPlace
  pub at : slice_get l.tasks k ≡ Some place
  pub low : ℕ
  pub is_low : slice_get lows k ≡ Some low
  pub lowest : low ≤ (whole.whole k named).bounds.floor

-- what a law of code asks of the code of a program that keeps SP in its stack, and of the machine at its entry
pub record BodyStands (kept : KeptCode) (at : ℕ) (p : Program) (whole : IsWhole p) (v : Core) : Type 0 where
  pub tidy : IsTidy kept.code
  pub stands : Stands kept.code at (code_of p)
  pub routines : RoutinesStand kept.code p
  pub keeps : KeepsWithin kept p whole
  pub entry : IsEntry at v

-- under watch it makes exactly these effects in so many steps and cycles, and comes to a state with P
pub record StackedComes (l : MemoryMap) (programs : List TaskPrograms) (lows : List ℕ) (es : List Effect) (steps cycles : ℕ) (u : Core) (P : Core → Type 0)
    : Type 0 where
  pub end : Core
  pub leads : Leads (stacked_step l programs lows) steps es cycles (board_of u) (board_of end)
  pub holds : P end

-- under watch it makes these effects within so many cycles, and comes to a jump
pub record StackedRuns (l : MemoryMap) (programs : List TaskPrograms) (lows : List ℕ) (most : ℕ) (u : Core) (es : List Effect) (P : Core → Type 0)
    : Type 0 where
  pub steps : ℕ
  pub cycles : ℕ
  pub within : cycles ≤ most
  pub end : Core
  pub leads : Leads (stacked_step l programs lows) steps es cycles (board_of u) (board_of end)
  pub holds : P end

-- or to an instruction that wants a reading where none is left
pub record StackedStarves (l : MemoryMap) (programs : List TaskPrograms) (lows : List ℕ) (most : ℕ) (u : Core) (es : List Effect) : Type 0 where
  pub steps : ℕ
  pub cycles : ℕ
  pub price : ℕ
  pub within : cycles + price ≤ most
  pub stalls : Stalls (stacked_step l programs lows) steps es cycles (board_of u) price stop.NoReading

-- by how a program ends
abbrev pub StackedTo : MemoryMap → List TaskPrograms → (lows : List ℕ) (most : ℕ) → Core → List Effect → End → Type 0
StackedTo l programs lows most u es (Jumps to s) = StackedRuns l programs lows most u es (HasJumped to s)
StackedTo l programs lows most u es Short = StackedStarves l programs lows most u es
StackedTo l programs lows most u es Strays = Unit {0}
StackedTo l programs lows most u es (GoesOn s) = ⊥
StackedTo l programs lows most u es (Gives v s) = ⊥
StackedTo l programs lows most u es Broken = ⊥
