use Rattle.std.proofs.Common.{refl}
use Rattle.plain_commands.proofs.command_answers.Interface.{refusal_fails, memory_fails, handed_on}
use Rattle.scope_commands.proofs.Scoped.{scope_whole, scope_fails}
use Rattle.scope_commands.proofs.bounds.bounds_texts.Goals as goal

pub returns-in_err-source-clause-failure : goal.returns-in_err-source-clause-failure
returns-in_err-source-clause-failure g c =
    handed_on _ _ _ c.from_residual.ensures
    (λ shelf stands. refusal_fails _ _ _ _ _ 0 _ _ refl (λ r no. (no, refl)) stands refl c.in_err-source.ensures.refused)

pub returns-in_err-text-clause-failure : goal.returns-in_err-text-clause-failure
returns-in_err-text-clause-failure g c =
    handed_on _ _ _ c.from_residual-in_err-text.ensures (λ shelf stands. memory_fails _ _ _ _ _ c.in_err-text.ensures.failure stands refl)

pub returns-clause-whole : goal.returns-clause-whole
returns-clause-whole g c =
    let source = c.in_ok-source.ensures in
    scope_whole _ _ _ _ _ (record { text = _; program = _; allow = _; kept = source.text; accepted = source.accepted; scope = c.in_ok-text.ensures.text })
    (rw c.as_slice.ensures.value at c.write_text.ensures.whole)

pub returns-clause-failure : goal.returns-clause-failure
returns-clause-failure g c =
    let source = c.in_ok-source.ensures in
    scope_fails _ _ _ _ _ (record { text = _; program = _; allow = _; kept = source.text; accepted = source.accepted; scope = c.in_ok-text.ensures.text })
    (rw c.as_slice.ensures.value at c.write_text.ensures.failure)
