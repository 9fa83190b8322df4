-- What the proofs of other crates cite.

-- The word programs of an accepted source are whole, and keep to the words of their stacks.
pub use Rattle.whole_programs.proofs.Whole.{tasks_are_whole, tasks_keep_their_stacks, calls_are_theirs, routines_are_low}
-- The private scalars of a task are at most as many as its allowance counts.
pub use Rattle.whole_programs.proofs.Few.{privates_are_few}
