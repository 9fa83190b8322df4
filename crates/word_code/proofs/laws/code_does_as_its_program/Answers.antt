use Rattle.word_code.proofs.Whole.{code_does_as_program}
use Rattle.word_code.proofs.laws.code_does_as_its_program.Goals as goal

pub returns : goal.returns
returns c = code_does_as_program
