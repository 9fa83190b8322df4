-- What an instruction of a board leaves, made or refused.
use Rattle.std.proofs.Common.{◌≡◌, refl, sym, ◌∙◌, ap, ℕ, List, [], ◌++◌, drop, slice_range, append-nil, Option, None, Ok, Err}
use Rattle.std.proofs.lemmas.List.Folds.{drop_split}
use Rattle.fram_board.specs.msp_isa.declared.instructions.Instr.{Instr}
use Rattle.fram_board.specs.msp_cycles.Cycles.{cycles_of}
use Rattle.fram_board.specs.msp_step.declared.machine.Stop.{Stop}
use Rattle.fram_board.specs.msp_step.Registers.{Registers, registers_of}
use Rattle.fram_board.specs.msp_step.Access.{Access, Completed, Faulted}
use Rattle.fram_board.specs.msp_step.Effect.{Written}
use Rattle.fram_board.specs.msp_step.Step.{effect, execution, outcome_of, Executed}
use Rattle.fram_board.proofs.msp_step.Interface.{Ends, effect_ends}
use Rattle.fram_board.specs.declared.board.Stepped.{Stepped}
use Rattle.fram_board.specs.Bus.{BusState, board_bus}
use Rattle.fram_board.specs.Board.{BoardValue, BoardOutcome, opened, board_outcome, executed, IsNextInstruction, IsStep}
use Rattle.fram_board.specs.Effects.{sends_of, effects_of}
use Rattle.fram_board.proofs.Interface.{only_takes}
use Rattle.machine_effects.specs.Inputs.{TakesExactly}
use Rattle.machine_effects.specs.View.{inputs_of}
use Rattle.machine_effects.proofs.Worlds.{taking_takes, taking_looks}
use Rattle.machine_effects.proofs.Logs.{takes}

-- an instruction that is executed is a step of the board
pub executed_is_step : (b : BoardValue) (i : Instr) → IsNextInstruction b i → IsStep b (executed b i)
executed_is_step b i c = (execution board_bus i (registers_of b.cpu) (opened b), Executed i c, refl)

answer_cycles : (b : BoardValue) (i : Instr) (m : Access BusState (Registers × Option Written)) (done : Stepped)
    → (board_outcome b (outcome_of i (registers_of b.cpu) m)).answer ≡ Ok done → done.cycles ≡ cycles_of i
answer_cycles b i (Completed x s) done e = cc
answer_cycles b i (Faulted f a s) done e = cc

-- the cycles that an instruction took
pub told_cycles : (b : BoardValue) (i : Instr) (done : Stepped) → (executed b i).answer ≡ Ok done → done.cycles ≡ cycles_of i
told_cycles b i done e = answer_cycles b i (effect board_bus i (registers_of b.cpu) (opened b)) done e

-- what a stopped instruction leaves: it takes alone
pub record Left (b : BoardValue) (x : BoardOutcome) : Type 0 where
  pub words : List ℕ
  pub effects : effects_of b x ≡ takes words
  pub inputs : TakesExactly (takes words) (inputs_of b) (inputs_of x.board)
  pub fram : x.board.fram ≡ b.fram

stopped_left : (b : BoardValue) (i : Instr) (m : Access BusState (Registers × Option Written)) (e : Stop) → Ends board_bus 2 (opened b) m
    → (board_outcome b (outcome_of i (registers_of b.cpu) m)).answer ≡ Err e → Left b (board_outcome b (outcome_of i (registers_of b.cpu) m))
stopped_left b i (Completed x s) e h a = absurd cc
stopped_left b i (Faulted f c s) e h a =
    let g = only_takes 2 (opened b) s h in
    let off : s.offered ≡ None = ap (λ y. y.offered) g.same in
    let all : s.readings ≡ b.readings = ap (λ y. y.readings) g.same in
    let ws = slice_range b.readings b.taken s.taken in
    record {
      words = ws;
      effects = ap (λ o. takes ws ++ sends_of b.outnum o) off ∙ append-nil (takes ws);
      inputs = record {
        readings = ap (λ l. l ++ drop s.taken s.readings) (taking_takes ws)
            ∙ ap (λ l. ws ++ drop s.taken l) all
            ∙ sym (drop_split b.readings b.taken s.taken g.takes.from);
        looks = ap (λ l. l ++ []) (taking_looks ws);
      };
      fram = ap (λ y. y.fram) g.same;
    }

pub left_of : (b : BoardValue) (i : Instr) (e : Stop) → (executed b i).answer ≡ Err e → Left b (executed b i)
left_of b i e a = stopped_left b i (effect board_bus i (registers_of b.cpu) (opened b)) e (effect_ends board_bus i (registers_of b.cpu) (opened b)) a
