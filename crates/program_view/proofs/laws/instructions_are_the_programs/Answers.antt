use Rattle.program_view.proofs.Shown.{instructions_are_the_programs}
use Rattle.program_view.proofs.laws.instructions_are_the_programs.Goals as goal

pub returns : goal.returns
returns c = instructions_are_the_programs
