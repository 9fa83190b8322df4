use Rattle.undo_runtime.proofs.Words as words
use Rattle.undo_runtime.proofs.laws.undo_boot_is_short.Goals as goal

pub returns-clause-short : goal.returns-clause-short
returns-clause-short c = words.undo_boot_is_short

pub returns-clause-code : goal.returns-clause-code
returns-clause-code c = words.undo_boot_is_code

pub returns-clause-fits : goal.returns-clause-fits
returns-clause-fits c = words.undo_boot_fits
