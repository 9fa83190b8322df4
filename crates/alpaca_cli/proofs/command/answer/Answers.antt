use Rattle.std.proofs.Common.{◌∙◌, ap, Some, refl, Err, map, string_bytes}
use Rattle.alpaca_cli.specs.Calls.{call_of}
use Rattle.alpaca_cli.proofs.Answered.{on_line}
use Rattle.alpaca_cli.proofs.CallLaws.{its_line}
use Rattle.alpaca_cli.proofs.LineLaws.{names_command}
use Rattle.alpaca_cli.proofs.command.answer.Goals as goal

pub returns-in-Ok-clause-answers : goal.returns-in-Ok-clause-answers
returns-in-Ok-clause-answers g c =
    let command = c.in-Ok.command in
    on_line _ (call_of command) _ _ _ _ (record { number = c.answer_command.ensures.number; line = c.in-Ok.ensures.command ∙ ap Some (its_line command) })
    c.answer_command.ensures.answers

pub returns-in-Err-Usage-clause-answers : goal.returns-in-Err-Usage-clause-answers
returns-in-Err-Usage-clause-answers g c = (
  c.in-Err-Usage.ensures.usage (ap Err c.in-Err-Usage.field-0-is),
  λ on. c.in-Err-Usage.ensures.no_command (ap Err c.in-Err-Usage.field-0-is) (names_command (map string_bytes c.args.words.now) on),
  record { stands = refl; silent = refl; told = c.tell_usage.ensures.line },
)
