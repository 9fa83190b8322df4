use Rattle.std.proofs.Common.{refl}
use Rattle.plain_commands.specs.Mean.{the_source, its_trace}
use Rattle.command_texts.proofs.command_answers.Interface.{handed_on, refusal_fails}
use Rattle.plain_commands.proofs.CommandLaws.{mean_whole, mean_fails}
use Rattle.plain_commands.proofs.mean.mean_texts.Goals as goal

pub returns-in_err-source-clause-failure : goal.returns-in_err-source-clause-failure
returns-in_err-source-clause-failure g c =
    handed_on _ _ _ c.from_residual.ensures
    (λ shelf stands. refusal_fails _ _ _ _ _ 0 _ _ refl (λ r no. the_source r no) stands refl c.in_err-source.ensures.refused)

pub returns-in_err-trace-clause-failure : goal.returns-in_err-trace-clause-failure
returns-in_err-trace-clause-failure g c =
    handed_on _ _ _ c.from_residual-in_err-trace.ensures
    (λ shelf stands. refusal_fails _ _ _ _ _ 1 _ _ refl (λ r no. its_trace _ r c.in_ok-source.ensures.said no) stands refl c.in_err-trace.ensures.refused)

pub returns-clause-whole : goal.returns-clause-whole
returns-clause-whole g c = mean_whole _ _ _ _ _ _ _ _ _ c.in_ok-source.ensures.text c.in_ok-source.ensures.said c.in_ok-trace.ensures.said
    c.write_meaning.ensures.whole

pub returns-clause-failure : goal.returns-clause-failure
returns-clause-failure g c = mean_fails _ _ _ _ _ _ _ _ _ c.in_ok-source.ensures.text c.in_ok-source.ensures.said c.in_ok-trace.ensures.said
    c.write_meaning.ensures.failure
