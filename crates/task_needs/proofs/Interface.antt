-- What the proofs of other crates cite.

-- The code of a task keeps to its dearest way.
pub use Rattle.task_needs.proofs.Bodies.{tasks_keep_to_their_ways}
-- The boot copies, or lists, as many words for a task as its private scalars have.
pub use Rattle.task_needs.proofs.Privates.{privates_count, listed_count}
-- A need has the cycles of all that is done for its task, and is its cost.
pub use Rattle.task_needs.proofs.Counted.{attempts_are_counted, own_commits_are_counted, own_cost, pending_cost, pending_commits_are_counted}
