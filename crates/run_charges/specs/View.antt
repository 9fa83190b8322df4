-- What a program is told of the board on which it runs and of what the board does. Now that is all of the board but the port EVENT, the
-- events that come, and what a handler of events may change between any two instructions of the program: HEAD and the ring. A program's
-- own instructions leave EVENT alone; what they see of HEAD and the ring they are told by looks, each by the board in front of it; and what
-- the handler does is nothing to the program. What else is to run on a board beside its program is said here; what reaches it between two
-- steps, in Moments.
use Rattle.std.specs.Prelude.{◌≡◌, false, if◌then◌else◌, List, [], ◌∷◌, ◌++◌}
use Rattle.fram_board.specs.Board.{BoardValue}
use Rattle.fram_board.specs.Effects.{Effect}
use Rattle.fram_board.specs.Run.{Action, PowerUp, Execute, Moment}
use Rattle.machine_effects.specs.Inputs.{Look, look_effects}
use Rattle.machine_effects.specs.View.{seen_at_pc}
use Rattle.machine_effects.specs.Runs.{action_effects}
pub use Rattle.program_view.specs.View.{steady, outside_with, outside_of, is_handlers}

-- no moment is the handler's
abbrev pub NoneServes : List Moment → Type 0
NoneServes [] = Unit {0}
NoneServes (m ∷ ms) = (is_handlers m ≡ false) × NoneServes ms

-- what a program's action on a board sees of the ring
abbrev pub looks_by : Action → BoardValue → List Look
looks_by PowerUp before = []
looks_by (Execute kind done offered) before = seen_at_pc before

-- what a moment sees of it to the program: a handler's nothing
abbrev pub outside_looks : Moment → List Look
outside_looks m = if is_handlers m then [] else looks_by m.action m.before

-- what moments see of it, in order
abbrev pub looks_in : List Moment → List Look
looks_in [] = []
looks_in (m ∷ ms) = outside_looks m ++ looks_in ms

-- what a moment does to the program's machine: its look, and what it does on the board; a handler's does nothing
abbrev pub outside_effects : Moment → List Effect
outside_effects m = if is_handlers m then [] else look_effects (looks_by m.action m.before) ++ action_effects m.action m.before m.after

-- what moments do to it, in order
abbrev pub all_outside_effects : List Moment → List Effect
all_outside_effects [] = []
all_outside_effects (m ∷ ms) = outside_effects m ++ all_outside_effects ms
