-- What the moments of a run do: their effects and cycles.
use Rattle.std.specs.Prelude.{ℕ, ◌+◌, List, [], ◌∷◌, ◌++◌, Ok}
use Rattle.fram_board.specs.Board.{BoardValue, BoardOutcome}
use Rattle.fram_board.specs.Effects.{Effect, effects_of, acceptance_effects}
use Rattle.fram_board.specs.Run.{StepKind, Accepting, Returning, Plain, Action, PowerUp, Execute, Moment}

-- the effects of a step of this kind
abbrev pub step_effects : StepKind → BoardValue → BoardOutcome → List Effect
step_effects Accepting b x = acceptance_effects b
step_effects Returning b x = effects_of b x
step_effects Plain b x = effects_of b x

-- the effects of an action between these boards
abbrev pub action_effects : Action → BoardValue → BoardValue → List Effect
action_effects PowerUp before after = []
action_effects (Execute kind done offered) before after = step_effects kind before (record { answer = Ok done; offered = offered; board = after })

-- the cycles of an action
abbrev pub action_cycles : Action → ℕ
action_cycles PowerUp = 0
action_cycles (Execute kind done offered) = done.cycles

-- the effects of moments, in order
abbrev pub moments_effects : List Moment → List Effect
moments_effects [] = []
moments_effects (m ∷ ms) = action_effects m.action m.before m.after ++ moments_effects ms

-- the cycles of moments
abbrev pub moments_cycles : List Moment → ℕ
moments_cycles [] = 0
moments_cycles (m ∷ ms) = action_cycles m.action + moments_cycles ms

-- the board after moments that began at this board
abbrev pub last_board : BoardValue → List Moment → BoardValue
last_board b [] = b
last_board b (m ∷ ms) = last_board m.after ms
