-- What the proofs of other crates cite.

-- What stays of a board until the next moment begins.
pub use Rattle.run_charges.proofs.View.{Keeps, follows_keeps, no_gap}
-- The moments of a run, one behind the other, and what each step does to the program's machine.
pub use Rattle.run_charges.proofs.Moments.{charge_last, charge_instructs, first_start, other_starts, are_behind, front_moments}
pub use Rattle.run_charges.proofs.Moments.{AtMostOne, NoWrite, AStore, AnOutside, OneWrite, told, told_same, whole_after, words_after}
pub use Rattle.run_charges.proofs.Moments.{nothing_seen, fram_changed, one_write, words_accepted, words_counted, readings_stay, readings_counted}
pub use Rattle.run_charges.proofs.Moments.{step_is_programs, stepped, Steps, IsPowerOrStep, IsPower, IsStepped, moment_is, step_is_observed, whole_behind}
-- Each front of a program's run is one by its moments alone.
pub use Rattle.run_charges.proofs.Charges.{no_instruction, run_front, front_charges}
-- A board on which a program runs that stands in FRAM, and its handler beside it.
pub use Rattle.run_charges.proofs.Running.{PlacedProgram, Machine, Running, charge_moments, Moves, MovesOwn, MovesIn, MovesOn}
pub use Rattle.run_charges.proofs.Reaching.{MoveOn, Reach, instructions_reach, looks_see, fram_all, silent_behind}
-- Charges of such a program, and the boards to which they lead.
pub use Rattle.run_charges.proofs.Programs.{observed-append, charged_like, Ready, ready_on, begun, is_powered, is_powered_from, running, sees, first}
pub use Rattle.run_charges.proofs.Programs.{reach, end, end_fram, end_readings, leads, charged_once, Reached, reached_first, reached_on, powered_there}
pub use Rattle.run_charges.proofs.Programs.{front_reached, starts, last-append, last_behind, ready_behind}
-- A power-up is no instruction.
pub use Rattle.run_charges.proofs.Room.{no_power_up}
-- A charge that is spent, the one in which a run stops, and whole runs.
pub use Rattle.run_charges.proofs.Spent.{spent_moments, spent_seen, spent_reached, status_behind, all_made, SpendsItsPart, is_spent, events_arise, p, q}
pub use Rattle.run_charges.proofs.Stopped.{SameDones, StopsBehind, run_halts}
pub use Rattle.run_charges.proofs.Fronts.{program_run, placed_program, ready_there, programs_run}
-- Nothing is read of EVENT.
pub use Rattle.run_charges.proofs.Quiet.{IsSilent, moments_hear_nothing, run_silent}
-- Without events no moment is the handler's, and no acceptance is due.
pub use Rattle.run_charges.proofs.Accepting.{IsClosed, run_alone, none_due}
-- The words accepted and the readings taken are those of the board.
pub use Rattle.run_charges.proofs.Counted.{Counts, moments_count, front_counts}
