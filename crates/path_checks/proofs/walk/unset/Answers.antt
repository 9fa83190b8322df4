use Rattle.path_checks.proofs.Walks.{does_where_none, does_unset}
use Rattle.path_checks.proofs.walk.unset.Goals as goal

pub returns-then-not-walk : goal.returns-then-not-walk
returns-then-not-walk c = does_where_none c.args.walk.now _ c.if-not-walk.true

pub returns-in-Local : goal.returns-in-Local
returns-in-Local c = does_unset c.turn.result c.args.walk.now c.turn.new.walk c.args.name.now c.in-Local.x c.in-Local.is c.turn.ensures.assigned
    c.turn.ensures.behind c.turn.ensures.falls_through c.turn.ensures.fault
