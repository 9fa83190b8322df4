use Rattle.std.proofs.Common.{◌∙◌, ap}
use Rattle.source_generator.specs.Trace.{generated_trace}
use Rattle.compiler_commands.proofs.generate.gen_texts.Goals as goal

pub put_generated-requires-clause-generated : goal.put_generated-requires-clause-generated
put_generated-requires-clause-generated g c = c.in_ok-source.ensures.text ∙ c.requires.generated

pub put_generated-requires-clause-trace : goal.put_generated-requires-clause-trace
put_generated-requires-clause-trace g c =
    c.in_ok-trace.ensures.trace ∙ ap (λ b. generated_trace c.args.words.number b) (ap (λ a. a.cycles) c.allow.ensures)
