use Rattle.std.proofs.Common.{subst}
use Rattle.energy_trace.specs.Reading.{Fails, trace_of}
use Rattle.command_texts.specs.Texts.{RefusesTrace, bad_trace_line, too_many}
use Rattle.command_answers.proofs.Interface.{refused_as}
use Rattle.command_texts.proofs.TraceLaws.{trace_of_words}
use Rattle.command_texts.proofs.traces.trace_of.Goals as goal

pub returns-in-Ok-clause-words : goal.returns-in-Ok-clause-words
returns-in-Ok-clause-words c = trace_of_words _ _ c.in-Ok.ensures.meaning

pub returns-in-Err-BadLine-clause-refused : goal.returns-in-Err-BadLine-clause-refused
returns-in-Err-BadLine-clause-refused c =
    refused_as _ _ _ (RefusesTrace c.args.text.now) c.refused_plainly.ensures
    (bad_trace_line _ (subst (λ f. Fails f (trace_of c.args.text.now)) c.in-Err-BadLine.field-0-is c.in-Err-BadLine.ensures.value))

pub returns-in-Err-TooMany-clause-refused : goal.returns-in-Err-TooMany-clause-refused
returns-in-Err-TooMany-clause-refused c =
    refused_as _ _ _ (RefusesTrace c.args.text.now) c.refused_plainly-in-Err-TooMany.ensures
    (too_many _ (subst (λ f. Fails f (trace_of c.args.text.now)) c.in-Err-TooMany.field-0-is c.in-Err-TooMany.ensures.value))
