use Rattle.boot_runtime.proofs.Words.{boot_is_short, boot_is_code, boot_fits}
use Rattle.boot_runtime.proofs.laws.boot_is_short.Goals as goal

pub returns-clause-short : goal.returns-clause-short
returns-clause-short c = boot_is_short

pub returns-clause-code : goal.returns-clause-code
returns-clause-code c = boot_is_code

pub returns-clause-fits : goal.returns-clause-fits
returns-clause-fits c = boot_fits
