-- One step of the CPU over a bus (SLAU049 and SLAU144, CPU chapter).
use Rattle.std.specs.Prelude.{ℕ, ◌/◌, ◌%◌, ◌<◌, ◌≡◌, Bool, ◌&&◌, ◌==◌, List, [], ◌∷◌, Option, Some, None, Result, Ok, Err, length}
use Rattle.std.specs.Option.{option_map}
use Rattle.msp_isa.specs.declared.instructions.Instr.{Instr}
use Rattle.msp_isa.specs.declared.instructions.Instr.TheVariants as instr
use Rattle.alp_words.specs.declared.Width.TheVariants.{Word}
use Rattle.msp_isa.specs.declared.instructions.OneOp.{OneOp}
use Rattle.msp_isa.specs.declared.instructions.OneOp.TheVariants as one
use Rattle.msp_isa.specs.Encoding.{encoding, IsInstruction, IsIllegal, IsPrefix, first_word}
use Rattle.msp_cycles.specs.Cycles.{cycles_of}
use Rattle.msp_step.specs.declared.bus.Refused.{Refused}
use Rattle.msp_step.specs.declared.bus.Refused.TheVariants as refused
use Rattle.msp_step.specs.declared.machine.Stop.{Stop}
use Rattle.msp_step.specs.declared.machine.Stop.TheVariants as stop
use Rattle.msp_step.specs.declared.machine.Stepped.{Stepped}
use Rattle.msp_step.specs.declared.machine.Words.{Words}
use Rattle.msp_step.specs.Registers.{Registers, with_register}
use Rattle.msp_step.specs.Access.{BusModel, Access, Completed, Faulted}
use Rattle.msp_step.specs.Effect.{Written, word_sum, two_operand_effect, jump_effect, read_modify_write, rotated, shifted, exchanged, sign_extended}
use Rattle.msp_step.specs.Effect.{push_effect}
use Rattle.msp_step.specs.Effect.{call_effect, reti_effect}

-- these words stand at an address, as instructions are fetched
abbrev pub FetchedAt : {S : Type 0} → BusModel S → S → ℕ → List ℕ → Type 0
FetchedAt bus s a [] = Unit {0}
FetchedAt bus s a (w ∷ ws) = (bus.fetches s a ≡ Some w) × FetchedAt bus s (word_sum a 2) ws

-- the effect of an instruction of one operand
abbrev pub one_operand_effect : {S : Type 0} → BusModel S → OneOp → Registers → S → Access S (Registers × Option Written)
one_operand_effect bus (one.Rrc w p) r t = read_modify_write bus rotated w p r t
one_operand_effect bus (one.Rra w p) r t = read_modify_write bus shifted w p r t
one_operand_effect bus (one.Swpb p) r t = read_modify_write bus exchanged Word p r t
one_operand_effect bus (one.Sxt p) r t = read_modify_write bus sign_extended Word p r t
one_operand_effect bus (one.Push w x) r t = push_effect bus w x r t
one_operand_effect bus (one.Call x) r t = call_effect bus x r t

-- the effect of an instruction: the registers after it, and the write, if any
unfoldable pub effect : {S : Type 0} → BusModel S → Instr → Registers → S → Access S (Registers × Option Written)
effect bus (instr.Two op w s d) r t = two_operand_effect bus op w s d r t
effect bus (instr.Jump c o) r t = Completed (jump_effect c o r, None) t
effect bus (instr.One o) r t = one_operand_effect bus o r t
effect bus instr.Reti r t = reti_effect bus r t

-- CPUOFF, bit 4 of SR
abbrev pub off_bit : Registers → ℕ
off_bit r = r 2 / 0x10 % 2

-- the instruction at PC, while CPUOFF is clear
pub record IsCurrentInstruction {S : Type 0} (bus : BusModel S) (r : Registers) (s : S) (i : Instr) : Type 0 where
  pub on : off_bit r ≡ 0
  pub is : IsInstruction i
  pub fetched : FetchedAt bus s (r 0) (encoding i)

-- an instruction begins with the first of these words, and whichever they begin with stands at an address
pub record AreWordsAt {S : Type 0} (bus : BusModel S) (s : S) (pc : ℕ) (ws : Words) : Type 0 where
  pub begun : (i : Instr) × IsInstruction i × (first_word i ≡ ws.first)
  pub stand : (i : Instr) → IsInstruction i → IsPrefix (encoding i) (ws.first ∷ ws.second ∷ ws.third ∷ []) → FetchedAt bus s pc (encoding i)

-- the words at PC, while CPUOFF is clear
abbrev pub AreCurrentWords : {S : Type 0} → BusModel S → Registers → S → Words → Type 0
AreCurrentWords bus r s ws = (off_bit r ≡ 0) × AreWordsAt bus s (r 0) ws

-- there is an instruction that begins with this word, and each that does has more than n words
pub record IsLongerThan (n w : ℕ) : Type 0 where
  pub one : Instr
  pub is : IsInstruction one
  pub begins : first_word one ≡ w
  pub all : (i : Instr) → IsInstruction i → first_word i ≡ w → n < length (encoding i)

-- a word at PC can't be fetched: the first, or one that the instruction has besides
pub data NotFetched {S : Type 0} (bus : BusModel S) (s : S) (pc : ℕ) : ℕ → Type 0 where
  First : bus.fetches s pc ≡ None → NotFetched bus s pc pc
  Second : (w : ℕ) → bus.fetches s pc ≡ Some w → IsLongerThan 1 w → bus.fetches s (word_sum pc 2) ≡ None
      → NotFetched bus s pc (word_sum pc 2)
  Third : (w v : ℕ) → bus.fetches s pc ≡ Some w → IsLongerThan 2 w → bus.fetches s (word_sum pc 2) ≡ Some v
      → bus.fetches s (word_sum (word_sum pc 2) 2) ≡ None → NotFetched bus s pc (word_sum (word_sum pc 2) 2)

-- no instruction can be had at an address: a word of it can't be fetched, or the first begins none
abbrev pub IsNoInstruction : {S : Type 0} → BusModel S → S → ℕ → Stop → Type 0
IsNoInstruction bus s pc (stop.Illegal at w) = (at ≡ pc) × (bus.fetches s pc ≡ Some w) × IsIllegal w
IsNoInstruction bus s pc (stop.Bus at a) = (at ≡ pc) × NotFetched bus s pc a
IsNoInstruction bus s pc stop.Off = ⊥
IsNoInstruction bus s pc stop.NoReading = ⊥

-- why no instruction is executed: the CPU is off, or else there is none at PC
abbrev pub IsStopped : {S : Type 0} → BusModel S → Registers → S → Stop → Type 0
IsStopped bus r s stop.Off = off_bit r ≡ 1
IsStopped bus r s (stop.Illegal at w) = (off_bit r ≡ 0) × IsNoInstruction bus s (r 0) (stop.Illegal at w)
IsStopped bus r s (stop.Bus at a) = (off_bit r ≡ 0) × IsNoInstruction bus s (r 0) (stop.Bus at a)
IsStopped bus r s stop.NoReading = ⊥

-- what a step answers, and the registers and the bus after it
pub record Outcome (S : Type 0) : Type 0 where
  pub answer : Result Stepped Stop
  pub registers : Registers
  pub bus : S

-- the stop of an instruction at PC whose access the bus refused
abbrev pub stop_of : ℕ → Refused → ℕ → Stop
stop_of pc refused.Bus a = stop.Bus pc a
stop_of pc refused.NoReading a = stop.NoReading

-- where the bus refused an access, the registers are as before
abbrev pub outcome_of : {S : Type 0} → Instr → Registers → Access S (Registers × Option Written) → Outcome S
outcome_of i r (Completed x s) = record { answer = Ok (record { cycles = cycles_of i; wrote = option_map (λ p. p.0) x.1 }); registers = x.0; bus = s }
outcome_of i r (Faulted e a s) = record { answer = Err (stop_of (r 0) e a); registers = r; bus = s }

-- an instruction, executed as the one at PC
abbrev pub execution : {S : Type 0} → BusModel S → Instr → Registers → S → Outcome S
execution bus i r s = outcome_of i r (effect bus i r s)

-- one step: it is stopped, with all as before, or the instruction at PC is executed
pub data StepResult {S : Type 0} (bus : BusModel S) (r : Registers) (s : S) : Outcome S → Type 0 where
  Stopped : (e : Stop) → IsStopped bus r s e → StepResult bus r s (record { answer = Err e; registers = r; bus = s })
  Executed : (i : Instr) → IsCurrentInstruction bus r s i → StepResult bus r s (execution bus i r s)

-- what the next instruction costs
abbrev pub Costs : {S : Type 0} → BusModel S → Registers → S → Result ℕ Stop → Type 0
Costs bus r s (Ok n) = (i : Instr) × IsCurrentInstruction bus r s i × (n ≡ cycles_of i)
Costs bus r s (Err e) = IsStopped bus r s e

-- GIE, bit 3 of SR
abbrev pub enabled_bit : Registers → ℕ
enabled_bit r = r 2 / 8 % 2

-- the CPU accepts an interrupt between two instructions: CPUOFF is clear and GIE is set
abbrev pub is_interruptible : Registers → Bool
is_interruptible r = (off_bit r == 0) && (enabled_bit r == 1)

-- where an acceptance stores PC: at the next word of the stack
abbrev pub return_place : Registers → ℕ
return_place r = word_sum (r 1) 0xFFFE

-- and SR: at the word below it
abbrev pub status_place : Registers → ℕ
status_place r = word_sum (r 1) 0xFFFC

-- the registers after an acceptance, whose two stores are the board's: SP is at the second, and PC is the vector. That each bit
-- of SR is cleared, SCG0 too, is this project's profile
abbrev pub interrupted : Registers → ℕ → Registers
interrupted r vector = with_register (with_register (with_register r 1 (status_place r)) 2 0) 0 vector
