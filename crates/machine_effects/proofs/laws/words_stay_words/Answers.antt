use Rattle.machine_effects.proofs.Words.{words_stay_words, machine_words_stay_words, code_words_stay_words, machine_is_of_words}
use Rattle.machine_effects.proofs.laws.words_stay_words.Goals as goal

pub returns-clause-board : goal.returns-clause-board
returns-clause-board c = words_stay_words

pub returns-clause-machine : goal.returns-clause-machine
returns-clause-machine c = machine_words_stay_words

pub returns-clause-code : goal.returns-clause-code
returns-clause-code c = code_words_stay_words

pub returns-clause-view : goal.returns-clause-view
returns-clause-view c = machine_is_of_words
