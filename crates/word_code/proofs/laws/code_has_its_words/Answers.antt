use Rattle.word_code.proofs.Lengths.{code_has_its_bytes, code_has_its_words}
use Rattle.word_code.proofs.TaskForms.{code_is_instructions}
use Rattle.word_code.proofs.laws.code_has_its_words.Goals as goal

pub returns-clause-bytes : goal.returns-clause-bytes
returns-clause-bytes c = code_has_its_bytes

pub returns-clause-words : goal.returns-clause-words
returns-clause-words c = code_has_its_words

pub returns-clause-instructions : goal.returns-clause-instructions
returns-clause-instructions c = code_is_instructions
