use Rattle.plain_commands.proofs.Reports.{run_settles}
use Rattle.plain_commands.proofs.run.write_through.Goals as goal

pub returns-clause-bytes : goal.returns-clause-bytes
returns-clause-bytes g c =
    let taken = rw c.new-lines.ensures.contents at c.write_by_line-written.ensures.bytes in
    rw c.requires.contents (run_settles _ _ _ _ _ _ _ _ c.finish.ensures.text c.finish.ensures.value taken)

pub returns-clause-cause : goal.returns-clause-cause
returns-clause-cause g c = c.finish.ensures.cause _ (rw c.new-lines.ensures.sink at c.write_by_line-written.ensures.cause)
