use Rattle.std.proofs.Common.{◌∙◌, ap, sym, Some}
use Rattle.command_texts.specs.Sources.{source_refusal}
use Rattle.command_texts.proofs.sources.source_refusal.Goals as goal

pub returns-in-Lex : goal.returns-in-Lex
returns-in-Lex c = c.lex_refusal.ensures ∙ sym (ap (source_refusal c.args.text.now) c.in-Lex.is)

pub returns-in-Syntax : goal.returns-in-Syntax
returns-in-Syntax c = ap Some c.plain.ensures ∙ sym (ap (source_refusal c.args.text.now) c.in-Syntax.is)

pub returns-in-Check : goal.returns-in-Check
returns-in-Check c = c.check_refusal.ensures ∙ sym (ap (source_refusal c.args.text.now) c.in-Check.is)

pub returns-in-Over : goal.returns-in-Over
returns-in-Over c = ap Some c.over_refusal.ensures ∙ sym (ap (source_refusal c.args.text.now) c.in-Over.is)

pub returns-in-Memory : goal.returns-in-Memory
returns-in-Memory c = sym (ap (source_refusal c.args.text.now) c.in-Memory.is)
