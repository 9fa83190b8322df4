-- What the proofs of other crates cite.

-- From an acceptance to its return each step is the handler's next instruction.
pub use Rattle.event_handler.proofs.Begin.{handler_begins}
pub use Rattle.event_handler.proofs.Stages.{handler_goes_on}
-- What it leaves alone, and how long it takes.
pub use Rattle.event_handler.proofs.Keeps.{handler_keeps_the_rest, handler_takes_its_cycles}
