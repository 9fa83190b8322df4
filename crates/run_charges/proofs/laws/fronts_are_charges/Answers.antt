use Rattle.run_charges.proofs.Charges.{fronts_are_charges}
use Rattle.run_charges.proofs.laws.fronts_are_charges.Goals as goal

pub returns : goal.returns
returns c = fronts_are_charges
