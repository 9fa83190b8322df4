use Rattle.layout_facts.proofs.laws.written_arrays_have_copies.Goals as goal
use Rattle.layout_facts.proofs.Declared.{written_arrays_have_copies}

pub returns : goal.returns
returns c = written_arrays_have_copies
