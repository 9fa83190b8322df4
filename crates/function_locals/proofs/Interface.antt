-- What the proofs of other crates cite.

-- As many functions as have locals.
pub use Rattle.function_locals.proofs.Loops.{locals_length, locals_at, functions_at}
-- What a text calls is in front of it.
pub use Rattle.function_locals.proofs.Depths.{block_below}
-- Where functions have their locals, and how deep they are.
pub use Rattle.function_locals.proofs.Registers.{locals_stand}
pub use Rattle.function_locals.proofs.Depths.{depths_stand, reaches_go_on}
