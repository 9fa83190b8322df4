-- What the proofs of other crates cite.

-- Each effect of a commit keeps a decided world decided.
pub use Rattle.stands_for.proofs.Keeps.{put_either, put_words}
-- Words of FRAM as a list.
pub use Rattle.stands_for.proofs.Behind.{words_length}
-- A pending commit: where it stores, what it still sends, and that none is pending behind it.
pub use Rattle.stands_for.proofs.Pending.{commit_stores_all, unsent_are_few, commit_rests}
-- An attempt's start keeps a world undecided, and leaves an attempt that has started.
pub use Rattle.stands_for.proofs.Starts.{each_weaker, elsewhere_same, none_answered}
-- The laws of what a world stands for.
pub use Rattle.stands_for.proofs.Theorems.{keeps_the_laws, numbered_starts, pending_can_commit, commit_stores_there}
