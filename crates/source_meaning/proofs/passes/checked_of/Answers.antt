use Rattle.std.proofs.Common.{◌≡◌, ◌∙◌, rules}
use Rattle.task_ast.specs.View.{program_of}
use Rattle.task_check.specs.declared.fault.CheckFault.TheVariants.{Memory}
use Rattle.source_meaning.proofs.Lines.{same_lines}
use Rattle.source_meaning.proofs.Refusals.{refused_unless_memory}
use Rattle.source_meaning.proofs.Unique.{one_checked}
use Rattle.source_meaning.proofs.passes.checked_of.Goals as goal

pub returns-in-Ok-clause-lines : goal.returns-in-Ok-clause-lines
returns-in-Ok-clause-lines c = c.in-Ok.ensures.lines ∙ same_lines c.args.text.now c.in-Ok.checked.source.tasks.items

pub returns-in-Ok-clause-only : goal.returns-in-Ok-clause-only
returns-in-Ok-clause-only c = one_checked c.args.text.now (program_of c.in_ok-tree.tree) (program_of c.in-Ok.checked.source) c.in_ok-tree.ensures.only
    c.in-Ok.ensures.answer

pub returns-in-Err : goal.returns-in-Err
returns-in-Err c =
    let some : c.in-Err.fault ≡ Memory → ⊥ = search rules in
    let refused = refused_unless_memory c.args.text.now (program_of c.in_ok-tree.tree) c.in-Err.fault some c.in-Err.ensures.answer in
    record {
      checks = tt;
      only = tt;
      lines = tt;
      refused =
          (some, record { tree = program_of c.in_ok-tree.tree; parses = c.in_ok-tree.ensures.parses; refused = refused });
    }
