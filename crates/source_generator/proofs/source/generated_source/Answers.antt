use Rattle.source_generator.proofs.Lengths.{generated_le}
use Rattle.source_generator.proofs.Pieces.{source_written}
use Rattle.source_generator.proofs.source.generated_source.Goals as goal

pub returns : goal.returns
returns c =
    let text = source_written c.args.number _ _ _ _ _ _ _ c.new-generator.ensures c.in_ok-push_scalars.ensures.state c.new-out.ensures.items
    c.in_ok-push_scalars.ensures.text
    c.in_ok-extend_from_slice.ensures.items c.in_ok-push_tasks.ensures c.in_ok-extend_from_slice-2.ensures.items in
    record { text = text; short = generated_le c.args.number _ text }
