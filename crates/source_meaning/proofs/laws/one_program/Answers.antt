use Rattle.source_meaning.proofs.OneAnswer.{one_program}
use Rattle.source_meaning.proofs.laws.one_program.Goals as goal

pub returns : goal.returns
returns c = one_program c.one_answer.ensures c.one_answer-2.ensures c.one_answer-3.ensures
