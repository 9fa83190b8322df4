use Rattle.source_generator.proofs.Pieces.{scalar_written}
use Rattle.source_generator.proofs.source.push_scalar.Goals as goal

pub returns : goal.returns
returns c = scalar_written c.args.number c.args.value _ _ _ _ _ _ c.in_ok-extend_from_slice.ensures.items c.in_ok-push_number.ensures
    c.in_ok-extend_from_slice-2.ensures.items c.in_ok-push_number-2.ensures c.in_ok-extend_from_slice-3.ensures.items
