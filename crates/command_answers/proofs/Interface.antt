-- What the proofs of other crates cite.

-- Why a part of a command failed is why the command did.
pub use Rattle.command_answers.proofs.FailureLaws.{never_rises, refusal_fails, memory_fails, nothing_done, output_alone, none_put, whole_by, fails_by}
-- A command that puts a file, and then may write.
pub use Rattle.command_answers.proofs.PutLaws.{put_whole, put_breaks, put_fails}
-- A failure that is a refusal of one kind is one of a wider kind.
pub use Rattle.command_answers.proofs.Refused.{refused_as}
-- Files that stand.
pub use Rattle.command_answers.proofs.ShelfLaws.{all_same, command_same}
-- The status of a command, from why its files weren't read or its texts failed.
pub use Rattle.command_answers.proofs.StatusLaws.{of_failure, of_unread, of_texts, held_alone, of_two, of_one, earlier_read, of_one_read, of_two_read}
pub use Rattle.command_answers.proofs.StatusLaws.{whole_ending}
-- Why one file of a list wasn't read is why the list wasn't.
pub use Rattle.command_answers.proofs.UnreadFiles.{front_unread, behind_unread, handed_on}
-- A command that makes one thing of its texts makes what follows from that.
pub use Rattle.command_answers.proofs.MadeMore.{answers_more}
