use Rattle.compiler_commands.proofs.GenLaws.{no_fault}
use Rattle.compiler_commands.proofs.generate.run_alone.Goals as goal

pub unreachable-requires : goal.unreachable-requires
unreachable-requires c = no_fault _ _ _ _ _ _ _ _ _ c.requires.board c.requires.watch c.requires.ends_well c.in-Err.ensures.run c.in-Err.ensures.cause
