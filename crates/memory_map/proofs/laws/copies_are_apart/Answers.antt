use Rattle.memory_map.proofs.Apart.{copies_apart}
use Rattle.memory_map.proofs.laws.copies_are_apart.Goals as goal

pub returns : goal.returns
returns c = copies_apart
