use Rattle.compiled_laws.proofs.laws.one_charge_reads_in_order.Goals as goal
use Rattle.compiled_laws.proofs.Theorems.{reads_in_order}

pub returns : goal.returns
returns c = reads_in_order
