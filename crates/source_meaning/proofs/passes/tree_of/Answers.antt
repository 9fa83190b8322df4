use Rattle.std.proofs.Common.{◌∙◌, ap, sym}
use Rattle.task_ast.specs.View.{program_of}
use Rattle.task_lex.specs.Lex.{tokens}
use Rattle.source_meaning.proofs.Unique.{one_tree}
use Rattle.source_meaning.proofs.passes.tree_of.Goals as goal

pub returns-in-Ok-clause-only : goal.returns-in-Ok-clause-only
returns-in-Ok-clause-only c =
    one_tree c.args.text.now c.deref.result.now (program_of c.in-Ok.tree) (c.in_ok-tokens.ensures.tokens ∙ ap tokens (sym c.deref.ensures.value))
    c.in-Ok.ensures.only
