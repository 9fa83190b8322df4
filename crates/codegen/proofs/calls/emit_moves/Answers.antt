use Rattle.codegen.proofs.Emitted.{moves_step}
use Rattle.codegen.proofs.calls.emit_moves.Goals as goal

pub loop-i-preserved : goal.loop-i-preserved
loop-i-preserved c =
    moves_step c.args.first c.args.count c.loop-i.i c.target_behind-target.result c.loop-i.code.items c.extend_from_slice.new.self.items _ c.loop-i-test.true
    c.target_behind-target.ensures c.in_ok-extend_from_slice.ensures.items c.loop-i.invariant
