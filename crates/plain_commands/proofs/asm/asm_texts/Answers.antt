use Rattle.std.proofs.Common.{refl}
use Rattle.command_texts.proofs.command_answers.Interface.{refusal_fails, handed_on}
use Rattle.plain_commands.proofs.CommandLaws.{asm_whole, asm_fails}
use Rattle.plain_commands.proofs.asm.asm_texts.Goals as goal

pub returns-in_err-text-clause-failure : goal.returns-in_err-text-clause-failure
returns-in_err-text-clause-failure g c =
    handed_on _ _ _ c.from_residual.ensures (λ out silent. refusal_fails _ _ _ _ _ 0 _ _ refl (λ r no. (no, refl)) refl silent c.in_err-text.ensures.refused)

pub returns-clause-whole : goal.returns-clause-whole
returns-clause-whole g c = asm_whole _ _ _ _ _ _ _ c.in_ok-text.ensures.said c.as_slice.ensures.value c.put_file.ensures.put

pub returns-clause-failure : goal.returns-clause-failure
returns-clause-failure g c = asm_fails _ _ _ _ _ _ c.in_ok-text.ensures.said c.put_file.ensures.failure
