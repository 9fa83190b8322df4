use Rattle.std.proofs.Common.{refl, subst}
use Rattle.report_audit.specs.Good.{IsUnaudited}
use Rattle.plain_commands.proofs.audits.verdict_of.Goals as goal

pub returns-in-Err-Events-clause-failure : goal.returns-in-Err-Events-clause-failure
returns-in-Err-Events-clause-failure c =
    let has = subst (IsUnaudited c.args.source.now.text.items) c.in-Err-Events.field-0-is c.in-Err-Events.ensures.fault in
    (refl, (c.in-Err-Events.line, has, c.plain.ensures))
