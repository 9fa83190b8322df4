-- What the proofs of other crates cite.

-- Equations of tests, by trying all values.
pub use Rattle.path_sums.proofs.Taut.{agree}
-- Laws of tests, by trying each answer, that the sums of accesses and of assignments share.
pub use Rattle.path_sums.proofs.Tests.{late, late_none, late_assoc, and_or, late_or, or_and, or_late, and_cube, late_cube}
-- A sum from the bottom up is the join of the sums of the paths, each by itself.
pub use Rattle.path_sums.proofs.Joins.{Lawful, path_sum, Known, joins_block}
-- The sums of the calls of functions, and of functions that return at once.
pub use Rattle.path_sums.proofs.Calls.{known_sums, at_once_known}
-- What a test of a sum says of the paths.
pub use Rattle.path_sums.proofs.Bits.{found, holds}
-- What holds of each part of a sum, and of parts put together, holds of the sum.
pub use Rattle.path_sums.proofs.Every.{Kept, every_block}
-- What the sum over one variable's accesses says of the paths.
pub use Rattle.path_sums.proofs.AccessMeaning.{no_calls, some_writes, writes_some, private_is, is_private_of}
