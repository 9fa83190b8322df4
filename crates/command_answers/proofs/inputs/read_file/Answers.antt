use Rattle.std.proofs.Common.{Err, ap}
use Rattle.command_answers.proofs.UnreadFiles.{alone_failed, alone_missing, alone_too_long}
use Rattle.command_answers.proofs.inputs.read_file.Goals as goal

pub returns-in-Err-Failed-clause-unread : goal.returns-in-Err-Failed-clause-unread
returns-in-Err-Failed-clause-unread g c = alone_failed _ _ _ _ (c.in-Err-Failed.ensures.failed (ap Err c.in-Err-Failed.field-0-is))

pub returns-in-Err-Missing-clause-unread : goal.returns-in-Err-Missing-clause-unread
returns-in-Err-Missing-clause-unread g c = let m = c.in-Err-Missing.ensures.missing (ap Err c.in-Err-Missing.field-0-is) in alone_missing _ _ _ _ m.0 m.1

pub returns-clause-unread : goal.returns-clause-unread
returns-clause-unread g c = let m = c.in-Err-TooLong.ensures.too_long (ap Err c.in-Err-TooLong.field-0-is) in alone_too_long _ _ _ _ m.0 m.1
