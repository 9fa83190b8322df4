use Rattle.command_line.proofs.compiler_command_named.Goals as goal

pub state_command_named-requires : goal.state_command_named-requires
state_command_named-requires c =
    let d = c.in_default in
    record { plain = c.requires; compiler = (d.not-build, (d.not-try, (d.not-undo, (d.not-gen, tt)))) }
