-- What the proofs of other crates cite.

-- What is read is a program, of one tree; where nothing is read, it is the first place that no program goes on with.
pub use Rattle.task_grammar.proofs.Whole.{program_is, one_tree, stops, fault_fits}
