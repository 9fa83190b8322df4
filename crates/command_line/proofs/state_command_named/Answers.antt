use Rattle.clap.specs.Words.{found_of, rows_of}
use Rattle.command_line.proofs.Commands.{none_found}
use Rattle.command_line.proofs.state_command_named.Goals as goal

pub returns-in_default : goal.returns-in_default
returns-in_default c =
    let d = c.in_default in
    let (mean, (run, (asm, (dis, (audit, _))))) = c.requires.plain in
    let (build, (try, (undo, (gen, _)))) = c.requires.compiler in
    none_found c.args.name.now (rows_of (found_of c.args.files.now)) (
      mean,
      (try, (build, (run, (asm, (dis, (gen, (d.not-save, (d.not-resume, (d.not-migrate, (undo, (audit, tt))))))))))),
    )
