use Rattle.task_grammar.proofs.OneAnswer.{one_answer}
use Rattle.task_grammar.proofs.laws.one_answer.Goals as goal

pub returns : goal.returns
returns c = one_answer
