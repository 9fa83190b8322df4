use Rattle.std.proofs.Common.{Ok}
use Rattle.plain_commands.proofs.RunLaws.{is_written, is_written_at}
use Rattle.plain_commands.proofs.run.write_lines.Goals as goal

pub returns-in-Ok-clause-bytes : goal.returns-in-Ok-clause-bytes
returns-in-Ok-clause-bytes g c = is_written _ _ _ _ _ (Ok _) _ _ c.in-Ok.ensures.run

pub returns-in-Err-Illegal-clause-bytes : goal.returns-in-Err-Illegal-clause-bytes
returns-in-Err-Illegal-clause-bytes g c = is_written_at _ _ _ _ _ _ _ _ _ c.in-Err-Illegal.field-0-is c.in-Err-Illegal.ensures.run

pub returns-in-Err-Bus-clause-bytes : goal.returns-in-Err-Bus-clause-bytes
returns-in-Err-Bus-clause-bytes g c = is_written_at _ _ _ _ _ _ _ _ _ c.in-Err-Bus.field-0-is c.in-Err-Bus.ensures.run

pub returns-in-Err-Write-clause-bytes : goal.returns-in-Err-Write-clause-bytes
returns-in-Err-Write-clause-bytes g c = is_written_at _ _ _ _ _ _ _ _ _ c.in-Err-Write.field-0-is c.in-Err-Write.ensures.run
