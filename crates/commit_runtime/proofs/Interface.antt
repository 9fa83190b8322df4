-- What the proofs of other crates cite.

-- The commit's code makes the commit.
pub use Rattle.commit_runtime.proofs.Commit.{commit_is_made, commit_grows, tail_part}
-- The length of the commit's code.
pub use Rattle.commit_runtime.proofs.Words.{commit_front, commit_is_short, commit_is_code}
