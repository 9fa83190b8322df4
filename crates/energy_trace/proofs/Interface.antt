-- What the proofs of other crates cite.

-- What is printed of a trace reads back as that trace.
pub use Rattle.energy_trace.proofs.Back.{count_cons}
-- What a line says, by cases.
pub use Rattle.energy_trace.proofs.Lines.{line_by}
