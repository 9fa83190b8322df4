use Rattle.command_line.proofs.command_named.Goals as goal

pub compiler_command_named-requires : goal.compiler_command_named-requires
compiler_command_named-requires c = let d = c.in_default in (d.not-mean, (d.not-run, (d.not-asm, (d.not-dis, (d.not-audit, tt)))))
