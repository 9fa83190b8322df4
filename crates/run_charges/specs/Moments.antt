-- How moments follow one another: power-ups, a program's instructions, and the handler's steps between them.
use Rattle.std.specs.Prelude.{◌≡◌, List, [], ◌∷◌, Ok}
use Rattle.msp_isa.specs.declared.instructions.Instr.{Instr}
use Rattle.fram_board.specs.declared.board.NextStep.{NextStep}
use Rattle.fram_board.specs.declared.board.NextStep.TheVariants as next_step
use Rattle.fram_board.specs.declared.board.Stepped.{Stepped}
use Rattle.fram_board.specs.Board.{BoardValue, PowerState, executed, performed, IsNextInstruction, IsNextStep}
use Rattle.fram_board.specs.Steps.{IsPowerState}
use Rattle.fram_board.specs.Run.{PowerUp, Moment, moment_of, power_up_of}
use Rattle.machine_effects.specs.View.{IsWhole, IsOfWords}
pub use Rattle.program_view.specs.Stands.{stored_by, IsPrograms, IsServed}

-- the next moment begins on the board that the last one left, but for what came from outside in between: nothing
pub record Follows (left next : BoardValue) : Type 0 where
  pub same : next ≡ left

-- a moment that may begin on this board, of a program and the handler beside it
pub data IsMomentFrom (b : BoardValue) (m : Moment) : Type 0 where
  -- a power-up
  PowersUp : (p : PowerState) → IsPowerState p → m ≡ power_up_of b p → IsMomentFrom b m
  -- an instruction of the program
  Instructs : (i : Instr) (done : Stepped) → IsNextInstruction b i → (executed b i).answer ≡ Ok done → IsPrograms b i
      → m ≡ moment_of b (next_step.Instruction i) done → IsMomentFrom b m
  -- a step of the handler's, an acceptance to begin with
  Serves : (n : NextStep) (done : Stepped) → IsNextStep b n → (performed b n).answer ≡ Ok done → IsServed b (moment_of b n done)
      → m ≡ moment_of b n done → IsMomentFrom b m

-- moments from this board on, one behind the other
abbrev pub AreMoments : BoardValue → List Moment → Type 0
AreMoments b [] = Unit {0}
AreMoments b (m ∷ ms) = Follows b m.before × IsMomentFrom m.before m × AreMoments m.after ms

-- moments that begin with a power-up, if there are any
abbrev pub BeginWithPower : List Moment → Type 0
BeginWithPower [] = Unit {0}
BeginWithPower (m ∷ ms) = m.action ≡ PowerUp

-- the moments of a run so far, on a whole board of words, up to any step of any charge
pub record IsFront (b : BoardValue) (ms : List Moment) : Type 0 where
  pub whole : IsWhole b
  pub words : IsOfWords b
  pub moments : AreMoments b ms
  pub begins : BeginWithPower ms
