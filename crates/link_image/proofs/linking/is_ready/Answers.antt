use Rattle.link_image.proofs.linking.is_ready.Goals as goal
use Rattle.task_ast.specs.View.{program_of}
use Rattle.link_image.proofs.Ready.{ready}

pub returns : goal.returns
returns c =
    ready c.programs_are_whole.ensures c.args.logging c.args.accepted.now.text.items (program_of c.args.accepted.now.checked.source) c.args.accepted.now.allow
    c.args.plan.now c.args.layout.now
    c.requires.accepted c.args.accepted.now.runnable c.requires.planned c.requires.laid_out
