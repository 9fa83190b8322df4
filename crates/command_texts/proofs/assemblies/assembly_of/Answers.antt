use Rattle.command_texts.proofs.AssemblyLaws.{fails_assembly}
use Rattle.command_texts.proofs.assemblies.assembly_of.Goals as goal

pub returns-in-Err-clause-refused : goal.returns-in-Err-clause-refused
returns-in-Err-clause-refused c = fails_assembly _ _ _ _ c.in-Err.ensures.value c.failure_of.ensures
