use Rattle.memory_map.specs.declared.runtime.Logging.TheVariants.{Undo}
use Rattle.privatise.proofs.Unique.{one_layout}
use Rattle.privatise.proofs.laws.one_logged_layout.Goals as goal

pub returns : goal.returns
returns c = one_layout Undo
