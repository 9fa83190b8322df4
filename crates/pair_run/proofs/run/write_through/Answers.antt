use Rattle.pair_run.proofs.Starts.{told_settles}
use Rattle.pair_run.proofs.run.write_through.Goals as goal

pub returns-clause-told : goal.returns-clause-told
returns-clause-told g c =
    let taken = rw c.new-lines.ensures.contents at c.write_lines-written.ensures.told in
    rw c.requires.contents (told_settles _ _ _ _ _ _ _ _ _ taken c.finish.ensures.text)

pub returns-clause-cause : goal.returns-clause-cause
returns-clause-cause g c = c.finish.ensures.cause _ (rw c.new-lines.ensures.sink at c.write_lines-written.ensures.cause)
