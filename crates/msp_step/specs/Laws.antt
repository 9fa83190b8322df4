-- Laws of the step and of the effect.
use Rattle.std.specs.Prelude.{ℕ, ◌+◌, ◌-◌, ◌*◌, ◌/◌, ◌<◌, ◌≤◌, ◌≡◌, Option, Some, None, Ok}
use Rattle.alp_words.specs.declared.Width.{Width}
use Rattle.msp_isa.specs.declared.instructions.Instr.{Instr}
use Rattle.msp_step.specs.declared.machine.Stepped.{Stepped}
use Rattle.msp_step.specs.Registers.{Registers}
use Rattle.msp_step.specs.Access.{BusModel, Access, Completed, Faulted}
use Rattle.msp_step.specs.Reads.{OnlyReads}
use Rattle.msp_step.specs.Effect.{Written, distance}
use Rattle.msp_step.specs.Step.{effect, StepResult, Outcome, Costs, interrupted, status_place}

-- a state steps in one way
abbrev pub IsDetermined : {S : Type 0} → BusModel S → Type 0
IsDetermined {S} bus = (r : Registers) (s : S) (o p : Outcome S) → StepResult bus r s o → StepResult bus r s p → o ≡ p

-- a step that is made takes the cycles that the instruction costs
abbrev pub TakesItsCost : {S : Type 0} → BusModel S → Type 0
TakesItsCost {S} bus = (r : Registers) (s : S) (o : Outcome S) (done : Stepped)
    → StepResult bus r s o → o.answer ≡ Ok done → Costs bus r s (Ok done.cycles)

-- the bus after the last read, and after the one write, if any
abbrev pub AfterWrite : {S : Type 0} → BusModel S → Option Written → S → S → Type 0
AfterWrite bus None s t = t ≡ s
AfterWrite bus (Some w) s t = (width : Width) × (bus.writes s w.0 width w.1 ≡ Some t)

-- what an access left: at most two reads, and then at most one write; where it is faulted, reads alone
abbrev pub ReadsThenWrites : {S : Type 0} → BusModel S → S → Access S (Registers × Option Written) → Type 0
ReadsThenWrites {S} bus s (Completed x t) = (u : S) × OnlyReads bus 2 s u × AfterWrite bus x.1 u t
ReadsThenWrites bus s (Faulted e a t) = OnlyReads bus 2 s t

-- an instruction reads at most twice and writes at most once, after its reads
abbrev pub WritesOnce : {S : Type 0} → BusModel S → Type 0
WritesOnce {S} bus = (i : Instr) (r : Registers) (s : S) → ReadsThenWrites bus s (effect bus i r s)

-- a jump goes as far as twice its offset of ten bits says as a signed number of words
abbrev pub JumpsBySignedWords : Type 0
JumpsBySignedWords = (bits : ℕ) → (bits < 0x200 → distance bits ≡ 2 * bits)
    × (0x200 ≤ bits → bits < 0x400 → distance bits + 2 * (0x400 - bits) ≡ 0x10000)

-- an acceptance leaves R3 to R15 alone, sets PC to the vector, but for bit 0, takes SP down by two words, and clears GIE and CPUOFF
abbrev pub AcceptsAtTheVector : Type 0
AcceptsAtTheVector = (r : Registers) (vector : ℕ) → (interrupted r vector 0 ≡ vector / 2 * 2) × (interrupted r vector 1 ≡ status_place r / 2 * 2)
    × (interrupted r vector 2 ≡ 0) × ((n : ℕ) → 2 < n → interrupted r vector n ≡ r n)
