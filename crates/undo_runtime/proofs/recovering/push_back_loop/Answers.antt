use Rattle.std.proofs.Common.{ap, ◌∙◌, refl}
use Rattle.runtime_code.specs.Counted.{loop_begin}
use Rattle.undo_runtime.proofs.Writing.{two_pushed}
use Rattle.undo_runtime.proofs.recovering.push_back_loop.Goals as goal

pub returns : goal.returns
returns c =
    let begins = c.loop_begin.ensures ∙ ap (λ r. loop_begin r.address 12) c.list.ensures in
    two_pushed _ _ _ _ _ _ _ c.in_ok-extend_from_slice-3.ensures.items
    (two_pushed _ _ _ _ _ _ _ c.in_ok-extend_from_slice-2.ensures.items c.in_ok-extend_from_slice.ensures.items begins c.back_turn.ensures)
    refl c.loop_end.ensures
