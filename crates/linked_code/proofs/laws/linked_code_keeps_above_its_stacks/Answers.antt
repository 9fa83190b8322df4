use Rattle.linked_code.proofs.Above.{linked_keeps_above}
use Rattle.linked_code.proofs.laws.linked_code_keeps_above_its_stacks.Goals as goal

pub returns : goal.returns
returns c = linked_keeps_above
