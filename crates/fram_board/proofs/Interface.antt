-- What the proofs of other crates cite.

-- An instruction takes at most two readings, and where the bus refuses an access it changes nothing else.
pub use Rattle.fram_board.proofs.Takes.{only_takes, execution_takes}
-- A step changes FRAM by its one store, and the receiver by its one send.
pub use Rattle.fram_board.proofs.Effects.{ram_not_fram, other_is_fram, fram_low, data_not_fram, step_makes_its_effects}
-- A step that is made takes the cycles of the next step.
pub use Rattle.fram_board.proofs.Acceptances.{performed_cycles}
-- A board steps in one way, and has one run under any charges.
pub use Rattle.fram_board.proofs.Runs.{price_low, charge_run, has_run}
-- The receiver's count is the number of the words that a run accepted, and it stays where it started.
pub use Rattle.fram_board.proofs.Counts.{counted, first_kept}
-- What a step's reads make of the port.
pub use Rattle.fram_board.proofs.PortWords.{AreReads, Unread, ReadOnce, ReadAgain, step_reads, acceptance_line, port_filled, told_heard}
-- Each event that arose was lost at the port, waits there, or was taken.
pub use Rattle.fram_board.proofs.PortWords.{AreCounted, IsCountedLine, stop_counts, step_counts, boundary_counts, power_up_counts}
-- A power-up leaves a whole board.
pub use Rattle.fram_board.proofs.Powers.{power_up_leaves_a_board, fill_is_a_power_state}
