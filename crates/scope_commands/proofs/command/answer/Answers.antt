use Rattle.std.proofs.Common.{refl, ap, Err}
use Rattle.scope_commands.proofs.Called.{on_line}
use Rattle.scope_commands.proofs.command.answer.Goals as goal

pub returns-in-Ok-clause-answers : goal.returns-in-Ok-clause-answers
returns-in-Ok-clause-answers g c = on_line _ c.in-Ok.command _ _ _ _ c.in-Ok.ensures.command c.answer_command.ensures.answers

pub returns-in-Err-Usage-clause-answers : goal.returns-in-Err-Usage-clause-answers
returns-in-Err-Usage-clause-answers g c = (
  c.in-Err-Usage.ensures.usage (ap Err c.in-Err-Usage.field-0-is),
  c.in-Err-Usage.ensures.no_command (ap Err c.in-Err-Usage.field-0-is),
  record { stands = refl; silent = refl; told = c.tell_usage.ensures.line },
)
