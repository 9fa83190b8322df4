use Rattle.std.proofs.Common.{sym, ◌∙◌}
use Rattle.source_meaning.proofs.FirstEvent.{none_more, none_all}
use Rattle.source_meaning.proofs.events.first_among.Goals as goal

pub loop-i-preserved : goal.loop-i-preserved
loop-i-preserved c =
    none_more c.args.tokens.now c.loop-i.i _ c.loop-i-test.true c.loop-i.invariant (sym c.is_event.ensures ∙ c.if-is_event.false)

pub returns-clause-none : goal.returns-clause-none
returns-clause-none c = none_all c.args.tokens.now c.loop-i.i c.loop-i-test.false c.loop-i.invariant
