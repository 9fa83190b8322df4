use Rattle.path_runs.proofs.Forgotten.{first_writes_forget}
use Rattle.path_runs.proofs.laws.first_writes_forget.Goals as goal

pub returns : goal.returns
returns c = first_writes_forget
