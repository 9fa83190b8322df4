-- What the proofs of other crates cite.

-- A generated trace is within the limits of a trace.
pub use Rattle.source_generator.proofs.Limits.{few_charges, each_once, few_readings}
