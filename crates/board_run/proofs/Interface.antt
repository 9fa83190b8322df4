-- What the proofs of other crates cite.

-- The words of a long in the FRAM.
pub use Rattle.board_run.proofs.Placed.{high_fits}
-- How many words a hand accounts for behind a step, and behind a power-up.
pub use Rattle.board_run.proofs.Accounts.{step_known, power_up_known}
-- A run that never reads EVENT accepts nothing.
pub use Rattle.board_run.proofs.Hands.{silent_runs_accept_nothing}
-- A run that is made step by step has a next step.
pub use Rattle.board_run.proofs.StepByStep.{has_step}
-- The lines of moments behind moments, and what is known behind them.
pub use Rattle.board_run.proofs.Spends.{lines_append, after_append}
-- A tally is that of a hand.
pub use Rattle.board_run.proofs.Tallies.{tally_of_moments, after_map}
