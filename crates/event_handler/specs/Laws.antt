-- The handler's contract: from an acceptance to its return each step is the handler's next instruction, and is served.
use Rattle.std.specs.Prelude.{◌≡◌, ◌+◌, ◌≤◌, false, [], Ok}
use Rattle.msp_cycles.specs.Cycles.{cycles_of}
use Rattle.fram_board.specs.declared.board.Stepped.{Stepped}
use Rattle.fram_board.specs.Board.{BoardValue, is_accepting, IsNextInstruction, executed, acceptance, at_boundary}
use Rattle.fram_board.specs.Effects.{effects_of, acceptance_effects}
use Rattle.event_handler.specs.Handler.{Stage, SaveR4, instruction_at}
use Rattle.event_handler.specs.Boundaries.{IsInterrupted, IsInHandler, HasReturned, IsBehind, next_stage, effects_at, heard_at, cycles_left, instructions_left}
use Rattle.event_handler.specs.Boundaries.{left_behind, IsOutsideAs}

-- the acceptance is made, in six cycles and with no effect, and the handler begins
pub record Begins (from : BoardValue) : Type 0 where
  pub done : Stepped
  pub made : (acceptance from).answer ≡ Ok done
  pub cycles : done.cycles ≡ 6
  pub effects : acceptance_effects from ≡ []
  pub behind : IsInHandler from SaveR4 (at_boundary (acceptance from).board)

abbrev pub HandlerBegins : Type 0
HandlerBegins = (from : BoardValue) → IsInterrupted from → Begins from

-- the step of a board in the handler: no acceptance is due; the instruction is the handler's and is served
pub record GoesOn (from b : BoardValue) (at : Stage) : Type 0 where
  pub none : is_accepting b ≡ false
  pub next : IsNextInstruction b (instruction_at at)
  pub done : Stepped
  pub made : (executed b (instruction_at at)).answer ≡ Ok done
  pub cycles : done.cycles ≡ cycles_of (instruction_at at)
  pub effects : effects_of b (executed b (instruction_at at)) ≡ effects_at from at
  pub heard : done.heard ≡ heard_at from at
  pub behind : IsBehind from (next_stage from at) (at_boundary (executed b (instruction_at at)).board)

-- and then it is at the next one, whatever events arise, or has returned
abbrev pub HandlerGoesOn : Type 0
HandlerGoesOn = (from b : BoardValue) (at : Stage) → IsInterrupted from → IsInHandler from at b → GoesOn from b at

-- each instruction takes its cycles of those that are left, and is one of the instructions that are. With the acceptance that makes
-- at most 48 cycles
pub record TakesOfTheLeft (from : BoardValue) (at : Stage) : Type 0 where
  pub cycles : cycles_of (instruction_at at) + left_behind cycles_left (next_stage from at) ≤ cycles_left at
  pub instructions : 1 + left_behind instructions_left (next_stage from at) ≤ instructions_left at

abbrev pub HandlerTakesItsCycles : Type 0
HandlerTakesItsCycles = (from : BoardValue) (at : Stage) → TakesOfTheLeft from at

-- all the while, and behind the return, only the ring, RAM below SP and the port EVENT are another's
pub record KeepsOutside (from : BoardValue) : Type 0 where
  pub within : (at : Stage) (b : BoardValue) → IsInHandler from at b → IsOutsideAs from b
  pub returned : (b : BoardValue) → HasReturned from b → IsOutsideAs from b

abbrev pub HandlerKeepsTheRest : Type 0
HandlerKeepsTheRest = (from : BoardValue) → IsInterrupted from → KeepsOutside from
