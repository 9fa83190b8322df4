use Rattle.std.proofs.Common.{arith, refl}
use Rattle.compiler_commands.proofs.GenLaws.{generated_words}
use Rattle.plain_commands.proofs.command_answers.Interface.{handed_on}
use Rattle.compiler_commands.proofs.generate.trace_of_number.Goals as goal

pub returns-in_err-trace-clause-failure : goal.returns-in_err-trace-clause-failure
returns-in_err-trace-clause-failure c = handed_on _ _ _ c.from_residual.ensures refl

pub returns-clause-words : goal.returns-clause-words
returns-clause-words c = generated_words _ _ _ (omega arith) c.in_ok-trace.ensures.trace
