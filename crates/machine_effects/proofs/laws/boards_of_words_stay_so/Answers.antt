use Rattle.machine_effects.proofs.Lines.{boundary_keeps_words}
use Rattle.machine_effects.proofs.Words.{acceptance_keeps_words, charge_keeps_words}
use Rattle.machine_effects.proofs.laws.boards_of_words_stay_so.Goals as goal

pub returns-clause-boundary : goal.returns-clause-boundary
returns-clause-boundary c = boundary_keeps_words

pub returns-clause-acceptance : goal.returns-clause-acceptance
returns-clause-acceptance c = acceptance_keeps_words

pub returns-clause-charge : goal.returns-clause-charge
returns-clause-charge c = charge_keeps_words
