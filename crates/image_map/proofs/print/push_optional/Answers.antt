use Rattle.std.proofs.lemmas.Result.{on_ok_weaker}
use Rattle.image_map.proofs.Printed.{optional_written}
use Rattle.image_map.proofs.print.push_optional.Goals as goal

pub returns : goal.returns
returns c = on_ok_weaker c.push_ring.result
    (optional_written c.args.map.now _ _ c.args.out.now.items _ _ c.copies.ensures c.ring.ensures c.in_ok-push_copies.ensures)
    c.push_ring.ensures
