use Rattle.pair_run.proofs.Lettering.{lettered}
use Rattle.pair_run.proofs.sides.advance_through.Goals as goal

pub returns-clause-step : goal.returns-clause-step
returns-clause-step g c =
    let lines = c.advance_by_line-answer.ensures.step in
    let step = rw c.new-lines.ensures.sink at (rw c.new-lines.ensures.start at lines) in
    rw c.requires.contents (rw c.requires.letter (rw c.finish.ensures.answer
    (lettered _ _ _ _ _ _ _ _ _ (rw c.requires.contents at step) c.finish.ensures.text)))

pub returns-clause-cause : goal.returns-clause-cause
returns-clause-cause g c =
    let lines = c.advance_by_line-answer.ensures.cause in
    rw c.finish.ensures.sink (rw c.finish.ensures.answer (rw c.new-lines.ensures.sink at lines))
