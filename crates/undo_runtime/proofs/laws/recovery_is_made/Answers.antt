use Rattle.undo_runtime.proofs.Boot as boot
use Rattle.undo_runtime.proofs.laws.recovery_is_made.Goals as goal

pub returns-clause-commit : goal.returns-clause-commit
returns-clause-commit c = boot.undo_commit_is_found

pub returns-clause-attempt : goal.returns-clause-attempt
returns-clause-attempt c = boot.recovery_is_made
