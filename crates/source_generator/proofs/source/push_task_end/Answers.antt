use Rattle.source_generator.proofs.Pieces.{task_ended}
use Rattle.source_generator.proofs.source.push_task_end.Goals as goal

pub returns : goal.returns
returns c = task_ended c.args.number c.args.draw _ _ _ _ c.in_ok-extend_from_slice.ensures.items c.in_ok-push_number.ensures
    c.in_ok-extend_from_slice-2.ensures.items
