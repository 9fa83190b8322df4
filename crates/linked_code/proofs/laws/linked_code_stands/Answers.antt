use Rattle.linked_code.proofs.Linked.{linked_stands}
use Rattle.linked_code.proofs.laws.linked_code_stands.Goals as goal

pub returns : goal.returns
returns c = linked_stands
