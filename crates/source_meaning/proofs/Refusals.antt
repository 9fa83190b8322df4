-- Refusals that aren't want of memory.
use Rattle.std.proofs.Common.{◌≡◌, ℕ, List, inl, inr}
use Rattle.source_values.specs.alp_text.declared.lines.Span.{Span}
use Rattle.task_ast.specs.Tree.{Program}
use Rattle.task_check.specs.declared.fault.CheckFault.{CheckFault}
use Rattle.task_check.specs.declared.fault.CheckFault.TheVariants.{Memory}
use Rattle.task_check.specs.Answers.{IsRefused, IsRefusedOrMemory}

pub refused_unless_memory : (text : List ℕ) (tree : Program Span Span Span) (e : CheckFault) → (e ≡ Memory → ⊥) → IsRefusedOrMemory text tree e
    → IsRefused text tree e
refused_unless_memory text tree e some (inl memory) = absurd (some memory)
refused_unless_memory text tree e some (inr refused) = refused
