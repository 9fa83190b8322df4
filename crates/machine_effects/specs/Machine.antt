-- The machine: the board with memory as functions of addresses, without its receiver, whose words are read off the effects,
-- and without the port EVENT, so that it accepts no interrupt itself. Its bus keeps a log of what an instruction does to FRAM, the
-- sensor and the receiver. Its instructions, their effects and cycles are those of every bus (SLAU049 and SLAU144, CPU chapter).
-- What a handler may change between any two instructions of a program, the machine can't depend on: its bus refuses reads of RAM
-- below SP and of FRAM from the handler on, and writes of a byte in that RAM and of anything in that FRAM. Words of RAM that come to
-- stand above SP again aren't known until the program writes them, and their reads are refused, too.
use Rattle.std.specs.Prelude.{ℕ, ◌+◌, ◌-◌, ◌*◌, ◌%◌, ◌≡◌, ◌<◌, ◌≤◌, Bool, true, false, nat_le, nat_lt, ◌==◌, ◌&&◌, ◌||◌, not, if◌then◌else◌}
use Rattle.std.specs.Prelude.{slice_index, List, [], ◌∷◌, ◌++◌, Result, Ok, Err, Option, Some, None, is_some, unwrap_or}
use Rattle.fram_board.specs.address_space.Limits.{ram_first, ram_end, stack_floor, stack_top, fram_first, event_vector, reset_vector}
pub use Rattle.fram_board.specs.address_space.Limits.{IsFramWord as IsFram}
use Rattle.event_places.specs.Places.{handler_place, is_ring}
use Rattle.fram_board.specs.alp_words.declared.Width.{Width}
use Rattle.fram_board.specs.alp_words.declared.Width.TheVariants.{Word, Byte}
use Rattle.fram_board.specs.msp_isa.declared.operands.Operand.{Operand}
use Rattle.fram_board.specs.msp_isa.declared.operands.Operand.TheVariants as mode
use Rattle.fram_board.specs.msp_isa.declared.operands.Src.{Src}
use Rattle.fram_board.specs.msp_isa.declared.operands.Src.TheVariants as src
use Rattle.fram_board.specs.msp_isa.declared.instructions.Instr.{Instr}
use Rattle.fram_board.specs.msp_isa.declared.instructions.Instr.TheVariants as instr
use Rattle.fram_board.specs.msp_isa.declared.instructions.OneOp.{OneOp}
use Rattle.fram_board.specs.msp_isa.declared.instructions.OneOp.TheVariants as one
use Rattle.fram_board.specs.msp_cycles.Cycles.{cycles_of}
use Rattle.fram_board.specs.msp_step.declared.bus.Refused.{Refused}
use Rattle.fram_board.specs.msp_step.declared.bus.Refused.TheVariants as refused
use Rattle.fram_board.specs.msp_step.declared.machine.Stop.{Stop}
use Rattle.fram_board.specs.msp_step.declared.machine.Stop.TheVariants as stop
use Rattle.fram_board.specs.msp_step.Registers.{Registers, registers_of, kept}
use Rattle.fram_board.specs.msp_step.Access.{BusModel, Access, Completed, Faulted}
use Rattle.fram_board.specs.msp_step.Effect.{Written}
use Rattle.fram_board.specs.msp_step.Step.{effect, off_bit, is_interruptible, stop_of, IsStopped, IsCurrentInstruction}
use Rattle.fram_board.specs.image_text.ImageValue.{place_of}
use Rattle.fram_board.specs.Bus.{ram_place, is_ram, is_fram, is_memory, is_word, byte_of, with_byte, sensor_port, number_port, data_port}
use Rattle.fram_board.specs.Board.{PowerState}
use Rattle.fram_board.specs.Effects.{Effect, Store, Take, Outside, Offered}
use Rattle.machine_effects.specs.World.{put}
use Rattle.machine_effects.specs.Inputs.{Inputs, Look, first_look, other_looks, look_effects}
use Rattle.machine_effects.specs.Going.{StepOutcome, Goes, Stops, step_behind, Stretch}

-- memory and ports during one instruction, and what it did so far
pub record MachineBus : Type 0 where
  pub fram : ℕ → ℕ  -- the word at each even address
  pub ram : ℕ → Option ℕ  -- none where the word isn't known
  pub inputs : Inputs
  pub outnum : ℕ  -- the word last written to OUTNUM
  pub log : List Effect
  pub floor : ℕ  -- SP as the instruction began: no word of RAM below it is read
  pub ring : Option Look  -- what the instruction sees of HEAD and the ring, where it may look there

-- the address of the word to which a byte belongs
abbrev pub word_address : ℕ → ℕ
word_address a = a - a % 2

-- the word of RAM or FRAM to which an address belongs; 0 where it isn't known
abbrev pub word_in : (ℕ → ℕ) → (ℕ → Option ℕ) → ℕ → ℕ
word_in fram ram a = if is_ram a then unwrap_or (ram (word_address a)) 0 else fram (word_address a)

-- the same on the bus
abbrev pub machine_word : MachineBus → ℕ → ℕ
machine_word s a = word_in s.fram s.ram a

-- a fetch is served at the words of memory
abbrev pub machine_fetched : MachineBus → ℕ → Option ℕ
machine_fetched s a = if is_word a then Some (machine_word s a) else None

-- the next reading, if one is left
abbrev pub first_reading : List ℕ → Result ℕ Refused
first_reading [] = Err refused.NoReading
first_reading (w ∷ ws) = Ok w

-- the addresses of memory that a program may read: those of RAM from the floor on where the word is known, and of FRAM in front of the handler
abbrev pub is_readable : MachineBus → ℕ → Bool
is_readable s a = if is_ram a then nat_le s.floor (word_address a) && is_some (s.ram (word_address a)) else nat_lt a handler_place

-- what is seen at an address of HEAD and the ring
abbrev pub ring_read : Option Look → ℕ → Result ℕ Refused
ring_read None a = Err refused.Bus
ring_read (Some look) a = if is_ring a then Ok (look a) else Err refused.Bus

-- what a word of memory is read as
abbrev pub word_read : MachineBus → ℕ → Result ℕ Refused
word_read s a = if is_readable s a then Ok (machine_word s a) else ring_read s.ring a

-- a read is served where memory is readable, of a word at an even address; and a word read at SENSOR
abbrev pub machine_read : MachineBus → ℕ → Width → Result ℕ Refused
machine_read s a Word =
    if is_word a then word_read s a
    else if a == sensor_port then first_reading s.inputs.readings
    else Err refused.Bus
machine_read s a Byte = if is_memory a && is_readable s a then Ok (byte_of (machine_word s a) a) else Err refused.Bus

-- the first of the readings left is taken
abbrev pub reading_taken : List ℕ → MachineBus → MachineBus
reading_taken [] s = s
reading_taken (w ∷ ws) s = record s { inputs = record s.inputs { readings = ws }; log = s.log ++ Take w ∷ [] }

-- a word read at SENSOR takes the reading
abbrev pub machine_after_read : MachineBus → ℕ → Width → MachineBus
machine_after_read s a Word = if a == sensor_port then reading_taken s.inputs.readings s else s
machine_after_read s a Byte = s

-- a word of memory is written; in FRAM that is a store
abbrev pub machine_stored : MachineBus → ℕ → ℕ → MachineBus
machine_stored s a v =
    if is_ram a then record s { ram = put s.ram (word_address a) (Some v) }
    else record s { fram = put s.fram (word_address a) v; log = s.log ++ Store (word_address a) v ∷ [] }

-- a word written to a port
abbrev pub machine_port_written : MachineBus → ℕ → ℕ → Option MachineBus
machine_port_written s a v =
    if a == number_port then Some (record s { outnum = v })
    else if a == data_port then Some (record s { log = s.log ++ Outside (Offered s.outnum v) ∷ [] })
    else None

-- a word of memory is written in front of the handler alone
abbrev pub word_written : MachineBus → ℕ → ℕ → Option MachineBus
word_written s a v = if nat_lt a handler_place then Some (machine_stored s a v) else None

-- a write is served in memory in front of the handler, of a word at an even address, of a byte where its word may be read, since
-- half of that stays; and a word written to OUTNUM or OUTDATA
abbrev pub machine_written : MachineBus → ℕ → Width → ℕ → Option MachineBus
machine_written s a Word v = if is_word a then word_written s a v else machine_port_written s a v
machine_written s a Byte v = if is_memory a && is_readable s a then Some (machine_stored s a (with_byte (machine_word s a) a v)) else None

-- the machine's bus
abbrev pub machine_bus : BusModel MachineBus
machine_bus = record {
  memory = machine_word;
  fetches = machine_fetched;
  reads = machine_read;
  after_read = machine_after_read;
  writes = machine_written;
}

-- the machine between two instructions
pub record MachineBoard : Type 0 where
  pub registers : Registers
  pub fram : ℕ → ℕ
  pub ram : ℕ → Option ℕ  -- none where the word isn't known
  pub inputs : Inputs
  pub outnum : ℕ

-- its bus as an instruction begins that sees this of the ring: the log is empty
abbrev pub machine_opened_seeing : Option Look → MachineBoard → MachineBus
machine_opened_seeing ring s = record
    { fram = s.fram; ram = s.ram; inputs = s.inputs; outnum = s.outnum; log = []; floor = s.registers 1; ring = ring }

-- as one begins that may not look there
abbrev pub machine_opened : MachineBoard → MachineBus
machine_opened s = machine_opened_seeing None s

-- the machine with these registers after this bus
abbrev pub machine_closed : Registers → MachineBus → MachineBoard
machine_closed r t = record { registers = r; fram = t.fram; ram = t.ram; inputs = t.inputs; outnum = t.outnum }

-- a step of the machine
abbrev pub MachineOutcome : Type 0
MachineOutcome = StepOutcome MachineBoard Stop

-- some steps of the machine
abbrev pub MachineStretch : Type 0
MachineStretch = Stretch MachineBoard Stop

-- what becomes of an instruction at this address with so many cycles
abbrev pub machine_outcome : ℕ → ℕ → Access MachineBus (Registers × Option Written) → MachineOutcome
machine_outcome pc c (Completed x t) = Goes t.log c (machine_closed x.0 t)
machine_outcome pc c (Faulted e a t) = Stops t.log c (stop_of pc e a)

-- an instruction that sees this of the ring, executed as the one at PC
abbrev pub machine_executed_seeing : Option Look → MachineBoard → Instr → MachineOutcome
machine_executed_seeing ring s i = machine_outcome (s.registers 0) (cycles_of i) (effect machine_bus i s.registers (machine_opened_seeing ring s))

-- one that may not look there
abbrev pub machine_executed : MachineBoard → Instr → MachineOutcome
machine_executed s i = machine_executed_seeing None s i

-- one step of the machine, which executes instructions like this: it is stopped with no instruction, or the instruction at PC is
-- executed. A stop that needs no instruction costs nothing; CPUOFF comes first
pub data IsStepBy (run : MachineBoard → Instr → MachineOutcome) (s : MachineBoard) : MachineOutcome → Type 0 where
  NoInstruction : (e : Stop) → IsStopped machine_bus s.registers (machine_opened s) e → IsStepBy run s (Stops [] 0 e)
  Executes : (i : Instr) → IsCurrentInstruction machine_bus s.registers (machine_opened s) i → IsStepBy run s (run s i)

-- a step of the machine that may not look
abbrev pub IsMachineStep : MachineBoard → MachineOutcome → Type 0
IsMachineStep = IsStepBy machine_executed

-- an operand by which an instruction looks at HEAD or the ring: its address is there, or the number that a register is added to
abbrev pub operand_looks : Operand → Bool
operand_looks (mode.Absolute a) = is_ring a
operand_looks (mode.Indexed b x) = is_ring x
operand_looks (mode.Reg h) = false
operand_looks (mode.Symbolic x) = false
operand_looks (mode.Indirect p) = false
operand_looks (mode.Increment b) = false

-- a source that is such an operand
abbrev pub source_looks : Src → Bool
source_looks (src.Operand p) = operand_looks p
source_looks (src.Immediate n) = false
source_looks (src.Constant k) = false

-- PUSH of a word that is one
abbrev pub pushed_looks : OneOp → Bool
pushed_looks (one.Push Word x) = source_looks x
pushed_looks (one.Push Byte x) = false
pushed_looks (one.Call x) = false
pushed_looks (one.Rrc w p) = false
pushed_looks (one.Rra w p) = false
pushed_looks (one.Swpb p) = false
pushed_looks (one.Sxt p) = false

-- an instruction that looks: one on words whose source does
abbrev pub looks_there : Instr → Bool
looks_there (instr.Two op Word x d) = source_looks x
looks_there (instr.Two op Byte x d) = false
looks_there (instr.One o) = pushed_looks o
looks_there (instr.Jump c o) = false
looks_there instr.Reti = false

-- one that takes the first of these looks; where none is left, it sees nothing but 0
abbrev pub executed_looking : List Look → MachineBoard → Instr → MachineOutcome
executed_looking looks s i =
    step_behind (look_effects looks)
    (machine_executed_seeing (Some (first_look looks)) (record s { inputs = record s.inputs { looks = other_looks looks } }) i)

-- an instruction of code
abbrev pub code_executed : MachineBoard → Instr → MachineOutcome
code_executed s i = if looks_there i then executed_looking s.inputs.looks s i else machine_executed s i

-- PUSH of a word, and CALL: it writes the word to which it moves SP down
abbrev pub pushes : Instr → Bool
pushes (instr.One (one.Push Word x)) = true
pushes (instr.One (one.Call x)) = true
pushes _ = false

-- RAM of which the words from one address up to another aren't known
abbrev pub forgotten : (from upto : ℕ) → (ℕ → Option ℕ) → ℕ → Option ℕ
forgotten from upto ram a = if nat_le from a && nat_lt a upto then None else ram a

-- from where on an instruction that moves SP down to here wrote none of the words that come to stand above SP
abbrev pub uncovered_from : Instr → ℕ → ℕ
uncovered_from i sp = if pushes i then sp + 2 else sp

-- the machine behind an instruction that may have moved SP down: where the CPU accepts interrupts a handler may have written what stood below SP, so
-- what comes to stand above it isn't known, but for what the instruction wrote
abbrev pub uncovered : Instr → MachineBoard → MachineBoard → MachineBoard
uncovered i s t =
    record t { ram = if is_interruptible s.registers then forgotten (uncovered_from i (t.registers 1)) (s.registers 1) t.ram else t.ram }

-- the same of its outcome
abbrev pub uncovering : Instr → MachineBoard → MachineOutcome → MachineOutcome
uncovering i s (Goes es c t) = Goes es c (uncovered i s t)
uncovering i s (Stops es price e) = Stops es price e

-- an instruction of a program, between any two of which a handler may run
abbrev pub program_executed : MachineBoard → Instr → MachineOutcome
program_executed s i = uncovering i s (code_executed s i)

-- a step of a program's machine
abbrev pub IsProgramStep : MachineBoard → MachineOutcome → Type 0
IsProgramStep = IsStepBy program_executed

-- what an instruction that stands at PC does while CPUOFF is clear; where none stands the word there is illegal
abbrev pub standing : Option Instr → MachineBoard → MachineOutcome
standing (Some i) s = program_executed s i
standing None s = Stops [] 0 (stop.Illegal (s.registers 0) (word_in s.fram s.ram (s.registers 0)))

-- the step of a machine with this instruction at PC, or none
abbrev pub step_with : Option Instr → MachineBoard → MachineOutcome
step_with i s = if off_bit s.registers == 1 then Stops [] 0 stop.Off else standing i s

-- code that stays: the instruction that stands at each address, and whether a handler of events may run between any two of them
pub record Code : Type 0 where
  pub at : ℕ → Option Instr
  pub events : Bool

-- where code goes astray
abbrev pub astray : MachineBoard → Stop
astray s = stop.Illegal (s.registers 0) (word_in s.fram s.ram (s.registers 0))

-- ---- between two instructions of code with events the CPU may accept an interrupt, and a handler then runs, on the stack of the code

-- SP stands in RAM, where a handler has room for its words below it
abbrev pub in_stack : ℕ → Bool
in_stack sp = nat_le stack_floor sp && nat_le sp stack_top

-- the machine has a handler, and SP stands where that has room
abbrev pub is_prepared : MachineBoard → Bool
is_prepared s = (s.fram event_vector == handler_place) && in_stack (s.registers 1)

-- from this SP, where a handler has room, to that: it stays, or goes up, to the end of RAM at most; or it goes down to where a handler has room
abbrev pub keeps_stack : ℕ → ℕ → Bool
keeps_stack p q = (q == p) || (nat_le q stack_top && (nat_le p q || nat_le stack_floor q))

-- a step from one machine to another, of code that may be interrupted, breaks the rules of interrupts: it lets the CPU accept them on
-- a machine that isn't prepared; or where it accepts them, it stops that, or moves SP otherwise
abbrev pub breaks_rules : MachineBoard → MachineBoard → Bool
breaks_rules s t =
    if is_interruptible t.registers
    then not (if is_interruptible s.registers then keeps_stack (s.registers 1) (t.registers 1) else is_prepared t)
    else is_interruptible s.registers

-- a step that code may not make: with events one that breaks the rules, without them one that lets the CPU accept interrupts
abbrev pub is_exposed : Bool → MachineBoard → MachineBoard → Bool
is_exposed true s t = breaks_rules s t
is_exposed false s t = is_interruptible t.registers && not (is_interruptible s.registers)

-- code that stays goes astray, too, with such a step
abbrev pub undisturbed : Bool → MachineBoard → MachineOutcome → MachineOutcome
undisturbed events s (Goes es c t) = if is_exposed events s t then Stops [] 0 (astray s) else Goes es c t
undisturbed events s (Stops es price e) = Stops es price e

-- the step of a machine whose instructions come from code that stays, whatever FRAM holds
abbrev pub exec : Code → MachineBoard → MachineOutcome
exec code s = undisturbed code.events s (step_with (code.at (s.registers 0)) s)

-- an even address in RAM
pub record IsRam (a : ℕ) : Type 0 where
  pub even : a % 2 ≡ 0
  pub low : ram_first ≤ a
  pub high : a < ram_end

-- the address of a word of FRAM in front of the handler
pub record IsPlace (a : ℕ) : Type 0 where
  pub even : a % 2 ≡ 0
  pub low : fram_first ≤ a
  pub high : a < handler_place

-- FRAM by addresses, from the list of its words
abbrev pub fram_of : List ℕ → ℕ → ℕ
fram_of words a = if (a % 2 == 0) && is_fram a then slice_index words (place_of a) else 0

-- RAM by addresses, from the list of its words
abbrev pub ram_of : List ℕ → ℕ → ℕ
ram_of words a = if (a % 2 == 0) && is_ram a then slice_index words (ram_place a) else 0

-- RAM of which all words are known
abbrev pub known : (ℕ → ℕ) → ℕ → Option ℕ
known ram a = Some (ram a)

-- a power-up: PC is the reset vector and SR is 0; FRAM and the inputs are as before
abbrev pub machine_powered : MachineBoard → PowerState → MachineBoard
machine_powered s p = record s {
  registers = registers_of (kept 0 (s.fram reset_vector) ∷ kept 1 p.sp ∷ 0 ∷ 0 ∷ p.work);
  ram = known (ram_of p.ram);
  outnum = p.outnum;
}
