use Rattle.code_forms.proofs.Registers.{powered_has_a_core}
use Rattle.code_forms.proofs.laws.powered_machine_has_a_core.Goals as goal

pub returns : goal.returns
returns c = powered_has_a_core
