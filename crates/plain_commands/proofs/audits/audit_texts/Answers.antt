use Rattle.std.proofs.Common.{refl, subst}
use Rattle.command_texts.specs.source_meaning.Events.{HasEvent}
use Rattle.command_texts.specs.command_answers.Refusals.{Refusal}
use Rattle.plain_commands.specs.Audit.{HasEventAt, the_audits_source, the_audits_trace, the_audits_events}
use Rattle.command_texts.proofs.command_answers.Interface.{handed_on, refusal_fails}
use Rattle.plain_commands.proofs.CommandLaws.{audit_product}
use Rattle.plain_commands.proofs.audits.audit_texts.Goals as goal

pub returns-in_err-source-clause-failure : goal.returns-in_err-source-clause-failure
returns-in_err-source-clause-failure g c =
    handed_on _ _ _ c.from_residual.ensures
    (λ shelf stands. refusal_fails _ _ _ _ _ 0 _ _ refl (λ r no. the_audits_source r no) stands refl c.in_err-source.ensures.refused)

pub returns-in_err-trace-clause-failure : goal.returns-in_err-trace-clause-failure
returns-in_err-trace-clause-failure g c =
    handed_on _ _ _ c.from_residual-in_err-trace.ensures
    (λ shelf stands. refusal_fails _ _ _ _ _ 2 _ _ refl (λ r no. the_audits_trace _ r c.in_ok-source.ensures.said no) stands refl
    c.in_err-trace.ensures.refused)

pub returns-in_err-verdict-clause-failure : goal.returns-in_err-verdict-clause-failure
returns-in_err-verdict-clause-failure g c =
    handed_on _ _ _ c.from_residual-in_err-verdict.ensures
    (λ shelf stands. refusal_fails _ _ _ _ _ 0 _ _ refl
    (λ (r : Refusal) (has : HasEventAt c.in_ok-source.source.text.items r). the_audits_events _ r c.in_ok-source.ensures.said (_, c.in_ok-trace.ensures.said)
    (has.0, subst (λ t. HasEvent t has.0) c.in_ok-source.ensures.text has.1, has.2)) stands refl c.in_err-verdict.ensures.failure)

pub verdict_of-requires-clause-accepted : goal.verdict_of-requires-clause-accepted
verdict_of-requires-clause-accepted g c = rw c.in_ok-source.ensures.text c.in_ok-source.ensures.accepted

pub returns-clause-whole : goal.returns-clause-whole
returns-clause-whole g c = λ shelf stands. record {
  product = _;
  is = audit_product c.args.names.source.now c.args.names.report.now c.args.names.trace.now _ _ _ _ _ _ _ _
      c.in_ok-source.ensures.text c.in_ok-source.ensures.accepted c.in_ok-source.ensures.only
      c.in_ok-verdict.ensures.no_event c.in_ok-trace.ensures.said c.in_ok-verdict.ensures.says;
  ends = refl;
  put = stands;
  written = c.in_ok-write_verdict.ensures.bytes.whole;
}

pub returns-in_err-write_verdict-clause-failure : goal.returns-in_err-write_verdict-clause-failure
returns-in_err-write_verdict-clause-failure g c = handed_on _ _ _ c.from_residual-in_err-write_verdict.ensures (λ shelf stands. record {
  product = _;
  is = audit_product c.args.names.source.now c.args.names.report.now c.args.names.trace.now _ _ _ _ _ _ _ _
      c.in_ok-source.ensures.text c.in_ok-source.ensures.accepted c.in_ok-source.ensures.only
      c.in_ok-verdict.ensures.no_event c.in_ok-trace.ensures.said c.in_ok-verdict.ensures.says;
  put = stands;
  written = c.in_err-write_verdict.ensures.bytes.part;
  failed = c.in_err-write_verdict.ensures.cause.failed;
})
