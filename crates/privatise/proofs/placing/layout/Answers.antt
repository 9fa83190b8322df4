use Rattle.task_ast.specs.View.{program_of}
use Rattle.task_check.proofs.Interface.{is_placed}
use Rattle.privatise.proofs.placing.layout.Goals as goal

pub layout_of-requires-clause-placed : goal.layout_of-requires-clause-placed
layout_of-requires-clause-placed c = rw c.source.ensures (is_placed (program_of c.args.checked.now.source) c.args.checked.now.placed)
