-- The board: CPU, memory, ports, readings, events and receiver; power-up; one step.
use Rattle.std.specs.Prelude.{ℕ, ◌+◌, ◌-◌, ◌%◌, ◌≡◌, ◌==◌, ◌&&◌, Bool, true, false, not, if◌then◌else◌, List, [], ◌∷◌, replicate, slice_index, Result, Ok, Err}
use Rattle.std.specs.Prelude.{Option, Some, None}
use Rattle.msp_isa.specs.declared.instructions.Instr.{Instr}
use Rattle.msp_cycles.specs.Cycles.{cycles_of}
use Rattle.msp_step.specs.declared.machine.Stop.{Stop}
use Rattle.msp_step.specs.declared.machine.Stop.TheVariants as stop
use Rattle.msp_step.specs.declared.machine.Stepped as cpu
use Rattle.msp_step.specs.Registers.{Registers, registers_of, kept, powered_up}
use Rattle.msp_step.specs.Step.{Outcome, IsCurrentInstruction, IsStopped, StepResult, execution, is_interruptible, return_place, status_place, interrupted}
use Rattle.state_text.specs.address_space.Limits.{reset_vector, event_vector}
use Rattle.state_text.specs.image_text.ImageValue.{place_of}
use Rattle.fram_board.specs.declared.board.NextStep.{NextStep}
use Rattle.fram_board.specs.declared.board.NextStep.TheVariants as next_step
use Rattle.fram_board.specs.declared.board.Stepped.{Stepped}
use Rattle.fram_board.specs.declared.receiver.Receiver.{Receiver}
use Rattle.fram_board.specs.declared.radio.Radio.{Radio}
use Rattle.fram_board.specs.declared.radio.Radio.TheVariants.{Alone, Sends, Listens}
use Rattle.fram_board.specs.Events.{EventLine, line_of_events, is_full, bringing, line_behind_step, line_behind_power_up}
use Rattle.fram_board.specs.Radio.{radio_powered, acknowledged, packet_heard}
use Rattle.fram_board.specs.Bus.{BusState, board_bus, is_word, with_word}

-- the board between two instructions
pub record BoardValue : Type 0 where
  pub cpu : List ℕ  -- the sixteen registers
  pub fram : List ℕ  -- the words at 4400, 4402 .. FFFE
  pub ram : List ℕ  -- the words at 1C00, 1C02 .. 23FE
  pub outnum : ℕ  -- the word last written to OUTNUM
  pub readings : List ℕ  -- all readings of the sensor
  pub taken : ℕ  -- how many of them were taken
  pub receiver : Receiver  -- where it started, and its two counts
  pub line : EventLine  -- the port EVENT, and what arises there
  pub radio : Radio  -- what it has of a radio

-- so many equal words
unfoldable pub filled_words : ℕ → ℕ → List ℕ
filled_words n w = replicate n w

-- the reset vector
abbrev pub vector_of : List ℕ → ℕ
vector_of fram = slice_index fram (place_of reset_vector)

-- the board with this FRAM, these readings and these events, before anything was done, whose receiver takes this number next
abbrev pub started : List ℕ → ℕ → List ℕ → List (ℕ × ℕ) → BoardValue
started fram number readings events = record {
  cpu = powered_up (vector_of fram) 0;
  fram = fram;
  ram = filled_words 1024 0;
  outnum = 0;
  readings = readings;
  taken = 0;
  receiver = record { first = number; accepted = 0; repeats = 0 };
  line = line_of_events events;
  radio = Alone;
}

-- the same of a board that is loaded with an image
abbrev pub fresh : List ℕ → List ℕ → List (ℕ × ℕ) → BoardValue
fresh fram readings events = started fram 0 readings events

-- a board that sends, loaded with an image: it has the ports of that side of a radio, and no events
abbrev pub fresh_sender : List ℕ → List ℕ → BoardValue
fresh_sender fram readings = record (fresh fram readings []) { radio = Sends 0 }

-- a board that listens, the same of the other side
abbrev pub fresh_listener : List ℕ → List ℕ → BoardValue
fresh_listener fram readings = record (fresh fram readings []) { radio = Listens 0 }

-- the words that a power-up leaves in what doesn't last
pub record PowerState : Type 0 where
  pub sp : ℕ
  pub work : List ℕ  -- R4 to R15
  pub ram : List ℕ
  pub outnum : ℕ

-- all of them are the fill word
abbrev pub filled : ℕ → PowerState
filled f = record {
  sp = f;
  work = f ∷ f ∷ f ∷ f ∷ f ∷ f ∷ f ∷ f ∷ f ∷ f ∷ f ∷ f ∷ [];
  ram = filled_words 1024 f;
  outnum = f;
}

-- a power-up: PC is the reset vector and SR is 0; the port EVENT is emptied, and then the events arise that are due; no
-- acknowledgement was brought since; FRAM, readings and receiver are as before
abbrev pub powered : BoardValue → PowerState → BoardValue
powered b p = record b {
  cpu = kept 0 (vector_of b.fram) ∷ kept 1 p.sp ∷ 0 ∷ 0 ∷ p.work;
  ram = p.ram;
  outnum = p.outnum;
  line = line_behind_power_up b.line;
  radio = radio_powered b.radio;
}

-- the number of the word that the receiver takes next: as many behind its first as it has accepted, modulo 65536
abbrev pub next_number : Receiver → ℕ
next_number r = (r.first + r.accepted) % 0x10000

-- it accepts a word exactly where this is its number
abbrev pub is_accepted : ℕ → Receiver → Bool
is_accepted number r = number == next_number r

-- the receiver after a word with this number; a word that isn't accepted counts as a repeat
abbrev pub offered_to : ℕ → Receiver → Receiver
offered_to number r =
    if is_accepted number r then record r { accepted = r.accepted + 1 }
    else record r { repeats = r.repeats + 1 }

-- the receiver after an instruction, which may have offered a word
abbrev pub receiver_after : ℕ → Option ℕ → Receiver → Receiver
receiver_after number (Some w) r = offered_to number r
receiver_after number None r = r

-- the word that the receiver accepted of an instruction
abbrev pub accepted_word : ℕ → Option ℕ → Receiver → Option ℕ
accepted_word number (Some w) r = if is_accepted number r then Some w else None
accepted_word number None r = None

-- memory and ports as an instruction begins
abbrev pub opened : BoardValue → BusState
opened b = record {
  fram = b.fram;
  ram = b.ram;
  outnum = b.outnum;
  readings = b.readings;
  taken = b.taken;
  offered = None;
  sent = None;
  line = b.line;
  radio = b.radio;
}

-- the sixteen registers as a list
abbrev pub register_list : Registers → List ℕ
register_list r =
    r 0 ∷ r 1 ∷ r 2 ∷ r 3 ∷ r 4 ∷ r 5 ∷ r 6 ∷ r 7
    ∷ r 8 ∷ r 9 ∷ r 10 ∷ r 11 ∷ r 12 ∷ r 13 ∷ r 14 ∷ r 15 ∷ []

-- the board after these registers and this bus
abbrev pub closed : BoardValue → Registers → BusState → BoardValue
closed b r s = record {
  cpu = register_list r;
  fram = s.fram;
  ram = s.ram;
  outnum = s.outnum;
  readings = s.readings;
  taken = s.taken;
  receiver = receiver_after s.outnum s.offered b.receiver;
  line = s.line;
  radio = s.radio;
}

-- what a board answers of what its CPU answered
abbrev pub answer_of : BoardValue → BusState → Result cpu.Stepped Stop → Result Stepped Stop
answer_of b s (Ok done) = Ok (record {
  cycles = done.cycles;
  wrote = done.wrote;
  took = s.taken - b.taken;
  accepted = accepted_word s.outnum s.offered b.receiver;
  heard = s.line.heard;
  sent = s.sent;
})
answer_of b s (Err stop) = Err stop

-- what a step gives: its answer, the word that it offered to the receiver, accepted or not, and the board after it
pub record BoardOutcome : Type 0 where
  pub answer : Result Stepped Stop
  pub offered : Option ℕ
  pub board : BoardValue

-- what the board makes of its CPU's step
abbrev pub board_outcome : BoardValue → Outcome BusState → BoardOutcome
board_outcome b o = record {
  answer = answer_of b o.bus o.answer;
  offered = o.bus.offered;
  board = closed b o.registers o.bus;
}

-- this instruction is the one at PC, and CPUOFF is clear
abbrev pub IsNextInstruction : BoardValue → Instr → Type 0
IsNextInstruction b i = IsCurrentInstruction board_bus (registers_of b.cpu) (opened b) i

-- CPUOFF is set, or no instruction can be had at PC
abbrev pub IsStoppedBy : BoardValue → Stop → Type 0
IsStoppedBy b stop = IsStopped board_bus (registers_of b.cpu) (opened b) stop

-- an instruction, executed as the one at PC
abbrev pub executed : BoardValue → Instr → BoardOutcome
executed b i = board_outcome b (execution board_bus i (registers_of b.cpu) (opened b))

-- where no acceptance is due, one step of the board is one step of its CPU on its bus
abbrev pub IsStep : BoardValue → BoardOutcome → Type 0
IsStep b x = (o : Outcome BusState) × StepResult board_bus (registers_of b.cpu) (opened b) o × (x ≡ board_outcome b o)

-- an acceptance is due: an event waits in the port, and the CPU accepts interrupts
abbrev pub is_accepting : BoardValue → Bool
is_accepting b = is_full b.line.port && is_interruptible (registers_of b.cpu)

-- the cycles of a step. Those of an acceptance are this project's profile
abbrev pub step_cycles : NextStep → ℕ
step_cycles next_step.Acceptance = 6
step_cycles (next_step.Instruction i) = cycles_of i

-- an acceptance that isn't served: the store at this address is a bus fault, and nothing is done
abbrev pub acceptance_refused : Registers → BusState → ℕ → Outcome BusState
acceptance_refused r s a = record { answer = Err (stop.Bus (r 0) a); registers = r; bus = s }

-- one whose stores left this: PC is the vector, as it is then
abbrev pub acceptance_made : Registers → BusState → Outcome BusState
acceptance_made r s = record {
  answer = Ok (record { cycles = step_cycles next_step.Acceptance; wrote = None });
  registers = interrupted r (slice_index s.fram (place_of event_vector));
  bus = s;
}

-- an acceptance stores PC and then SR, each to a word of memory: a port is none
abbrev pub acceptance_on : Registers → BusState → Outcome BusState
acceptance_on r s =
    if not (is_word (return_place r)) then acceptance_refused r s (return_place r)
    else if not (is_word (status_place r)) then acceptance_refused r s (status_place r)
    else acceptance_made r (with_word (with_word s (return_place r) (r 0)) (status_place r) (r 2))

-- the acceptance of the board
abbrev pub acceptance : BoardValue → BoardOutcome
acceptance b = board_outcome b (acceptance_on (registers_of b.cpu) (opened b))

-- a step that is made, by its kind
abbrev pub performed : BoardValue → NextStep → BoardOutcome
performed b next_step.Acceptance = acceptance b
performed b (next_step.Instruction i) = executed b i

-- the board's next step: an acceptance where one is due, else the instruction at PC
abbrev pub IsNextStep : BoardValue → NextStep → Type 0
IsNextStep b next_step.Acceptance = is_accepting b ≡ true
IsNextStep b (next_step.Instruction i) = (is_accepting b ≡ false) × IsNextInstruction b i

-- it has none: no acceptance is due, and CPUOFF is set, or no instruction can be had at PC
pub record HasNoStep (b : BoardValue) (stop : Stop) : Type 0 where
  pub none : is_accepting b ≡ false
  pub stopped : IsStoppedBy b stop

-- the board at the boundary behind a step: the step is counted, and then the events arise that are due
abbrev pub at_boundary : BoardValue → BoardValue
at_boundary b = record b { line = line_behind_step b.line }

-- what a step leaves: the board at the boundary behind it; where it wasn't made there is none
abbrev pub board_behind : Result Stepped Stop → BoardValue → BoardValue
board_behind (Ok done) b = at_boundary b
board_behind (Err stop) b = b

-- a word is brought to the port EVENT of a board that listens: it waits there, or is lost where the port is full
abbrev pub word_brought : Radio → ℕ → EventLine → EventLine
word_brought Alone w q = q
word_brought (Sends greatest) w q = q
word_brought (Listens number) w q = bringing w q

-- a packet is brought. On a board that doesn't listen nothing changes
abbrev pub packet_brought : ℕ → ℕ → BoardValue → BoardValue
packet_brought number word b = record b {
  line = word_brought b.radio word b.line;
  radio = packet_heard number (is_full b.line.port) b.radio;
}

-- an acknowledgement is brought. On a board that doesn't send nothing changes
abbrev pub acknowledgement_brought : ℕ → BoardValue → BoardValue
acknowledgement_brought number b = record b { radio = acknowledged number b.radio }
