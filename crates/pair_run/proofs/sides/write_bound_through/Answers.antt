use Rattle.board_run.specs.History.{bound_lines}
use Rattle.pair_run.proofs.sides.write_bound_through.Goals as goal

pub returns-clause-bytes : goal.returns-clause-bytes
returns-clause-bytes g c =
    let lines = c.write_bound_line-written.ensures.bytes in
    let told = rw c.new-lines.ensures.sink at (rw c.new-lines.ensures.start at lines) in
    rw c.requires.contents (rw c.requires.letter (rw c.finish.ensures.answer
    (c.finish.ensures.text (bound_lines c.args.watch.now.map) (rw c.requires.contents at told))))

pub returns-clause-cause : goal.returns-clause-cause
returns-clause-cause g c =
    let lines = c.write_bound_line-written.ensures.cause in
    rw c.finish.ensures.sink (rw c.finish.ensures.answer (rw c.new-lines.ensures.sink at lines))
