use Rattle.std.proofs.Common.{false, ◌∙◌, arith}
use Rattle.path_checks.specs.Walks.{is_assigned}
use Rattle.path_checks.proofs.Parts.{put_step}
use Rattle.path_checks.proofs.Walks.{behind_both}
use Rattle.path_checks.proofs.ways.put_ends.Goals as goal

pub loop-i-preserved : goal.loop-i-preserved
loop-i-preserved c = record {
  assigned = put_step c.args.ends.now c.loop-i.i (record { local = 0; assigned = false }) (is_assigned c.args.walk.now)
      (is_assigned c.loop-i.walk) (is_assigned c.turn.new.walk) c.loop-i-test.true (omega arith) c.loop-i.invariant.assigned c.in_ok-turn.ensures.assigned;
  behind = behind_both c.args.walk.now c.loop-i.walk c.turn.new.walk c.loop-i.invariant.behind c.in_ok-turn.ensures.behind;
  falls_through = c.turn.ensures.falls_through ∙ c.loop-i.invariant.falls_through;
  fault = c.turn.ensures.fault ∙ c.loop-i.invariant.fault;
}
