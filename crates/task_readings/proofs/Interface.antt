-- What the proofs of other crates cite.

-- What an attempt takes and what a transition sends is within the task's text.
pub use Rattle.task_readings.proofs.Transitions.{attempts_take_few, transitions_take_few}
