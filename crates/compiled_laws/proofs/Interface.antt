-- What the proofs of other crates cite.

-- An accepted source with its layout is ready to run.
pub use Rattle.compiled_laws.proofs.Ready.{sources_are_ready}
