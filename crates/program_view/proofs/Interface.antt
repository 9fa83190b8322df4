-- What the proofs of other crates cite.

-- FRAM without HEAD and the ring.
pub use Rattle.program_view.proofs.Steady.{steady_low, steady_off, same_steady}
-- What a board shows of its program's machine, its instructions do as on the board; and the handler leaves it.
pub use Rattle.program_view.proofs.Shown.{instructions_are_the_programs}
pub use Rattle.program_view.proofs.Handler.{acceptances_begin, handlers_go_on, kind_is, stands_fram, stands_readings, handler_is_high, waits_or_accepts}
-- What waits in EVENT, by what arose.
pub use Rattle.program_view.proofs.Ports.{step_arises, power_up_arises}
