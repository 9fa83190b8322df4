use Rattle.source_meaning.proofs.OneAnswer.{one_answer}
use Rattle.source_meaning.proofs.laws.one_answer.Goals as goal

pub returns : goal.returns
returns c = one_answer c.one_answer.ensures c.one_answer-2.ensures c.one_answer-3.ensures
