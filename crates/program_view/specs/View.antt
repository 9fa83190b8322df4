-- What a board shows of its program's machine. Between any two instructions of the program a handler of events may run: it writes HEAD and the
-- ring, and RAM below SP. The machine can't depend on those: its instructions are told by looks what they see of the ring, and read nothing
-- of RAM below SP.
use Rattle.std.specs.Prelude.{ℕ, nat_le, Bool, true, false, if◌then◌else◌, List, []}
use Rattle.event_places.specs.Places.{handler_place, is_ring}
use Rattle.msp_step.specs.Registers.{registers_of}
use Rattle.fram_board.specs.Board.{BoardValue}
use Rattle.fram_board.specs.Run.{StepKind, Accepting, Returning, Plain, Action, PowerUp, Execute, Moment}
use Rattle.machine_effects.specs.Inputs.{Look}
use Rattle.machine_effects.specs.Machine.{MachineBoard, fram_of}
use Rattle.machine_effects.specs.View.{machine_with}

-- FRAM without HEAD and the ring, which a handler writes
abbrev pub steady : (ℕ → ℕ) → ℕ → ℕ
steady fram a = if is_ring a then 0 else fram a

-- the machine that a board is to its program, which is to see these of the ring
abbrev pub outside_with : List Look → BoardValue → MachineBoard
outside_with looks b = record (machine_with looks b) { fram = steady (fram_of b.fram) }

-- one that is to see nothing of it
abbrev pub outside_of : BoardValue → MachineBoard
outside_of b = outside_with [] b

-- a step of this kind on a board is the handler's: an acceptance, or an instruction that stands from the handler on, where no program does
abbrev pub is_handlers_step : StepKind → BoardValue → Bool
is_handlers_step Accepting before = true
is_handlers_step Returning before = nat_le handler_place (registers_of before.cpu 0)
is_handlers_step Plain before = nat_le handler_place (registers_of before.cpu 0)

abbrev pub is_handlers_action : Action → BoardValue → Bool
is_handlers_action PowerUp before = false
is_handlers_action (Execute kind done offered) before = is_handlers_step kind before

-- a moment of the handler's
abbrev pub is_handlers : Moment → Bool
is_handlers m = is_handlers_action m.action m.before
