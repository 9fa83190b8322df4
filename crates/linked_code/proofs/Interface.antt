-- What the proofs of other crates cite.

-- The code of a compiled source, from what its layout gives.
pub use Rattle.linked_code.proofs.Linked.{in_order, linked_is_code}
-- The layout of a source has room for its code.
pub use Rattle.linked_code.proofs.Rooms.{layouts_have_room}
-- The stretches of linked code: under redo from the boot to the start of an attempt, to the store to VER and to the commit, from the start to a task, the
-- commit. They are of the code that is of no task, which does the same under watch.
pub use Rattle.linked_code.proofs.Stretches.{programs_count, around, under_watch, to_start, to_raised, start_there, commit_there, to_commit}
-- The body of a task, under watch.
pub use Rattle.linked_code.proofs.Stacked.{part, body_by, body_there}
-- No part of it names a word of RAM below where its stack begins.
pub use Rattle.linked_code.proofs.Above.{linked_keeps_above}
-- Under undo: from the boot through the recovery to the start of an attempt, from there to a task, the commit.
pub use Rattle.linked_code.proofs.Recovered.{to_recovered, logged_start_there, logged_commit_there, to_logged_commit}
