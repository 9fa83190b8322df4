use Rattle.board_run.proofs.Charges.{end_behind}
use Rattle.board_run.proofs.trace_run.finish.Goals as goal

pub returns-clause-end : goal.returns-clause-end
returns-clause-end g c = end_behind _ _ _ _ _ _ _ c.in_ok-write_events.ensures.bytes.whole c.write_last.ensures.end
