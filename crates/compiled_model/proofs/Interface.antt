-- What the proofs of other crates cite.

-- A source under the runtime of its memory map is the source under redo or under undo, as that logs.
pub use Rattle.compiled_model.proofs.Runtimes.{either_logging, is_redo, is_logged, under_map, from_map}
