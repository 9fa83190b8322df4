use Rattle.path_checks.proofs.Choices.{first_way}
use Rattle.path_checks.proofs.ways.with_way.Goals as goal

pub returns-in_ok-first_end-in-None : goal.returns-in_ok-first_end-in-None
returns-in_ok-first_end-in-None c = first_way c.args.ends c.in_ok-first_end-in-None.field-0 c.args.walk.now c.args.mark c.in-None.is c.if-walk.true
    c.in_ok-first_end-in-None.ensures
