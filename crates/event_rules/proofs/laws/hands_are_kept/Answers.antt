use Rattle.event_rules.proofs.Runs.{hands_are_kept, waits_in_the_handler}
use Rattle.event_rules.proofs.laws.hands_are_kept.Goals as goal

pub returns-clause-kept : goal.returns-clause-kept
returns-clause-kept g c = hands_are_kept g.S.Compiled.program

pub returns-clause-waits : goal.returns-clause-waits
returns-clause-waits g c = waits_in_the_handler g.S.Compiled.program
