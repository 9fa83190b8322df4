-- The last block of an `if` is behind all others.
use Rattle.std.proofs.Common.{◌≡◌, ◌∙◌, ℕ, List, [], ◌∷◌, None, Some, drop, refl, sym, ap}
use Rattle.task_ast.specs.Tree.{Tested, choice_of, choose}
use Rattle.task_ast.specs.Paths.{CheckedBlock, CheckedStatement}
use Rattle.task_ast.specs.declared.names.VariableName.{VariableName}
use Rattle.task_ast.specs.declared.names.TaskName.{TaskName}
use Rattle.task_ast.specs.declared.names.FunctionName.{FunctionName}
use Rattle.condition_lines.specs.Behind.{block_behind, choice_behind, statement_behind}

last_behind : (lines : List ℕ) (ts : List (Tested VariableName TaskName FunctionName)) (last : CheckedBlock)
    → choice_behind lines (choice_of ts (Some last)) ≡ block_behind (choice_behind lines (choice_of ts None)) last
last_behind lines [] last = refl
last_behind lines (t ∷ ts) last = last_behind (block_behind lines t.block) ts last

pub if_passed : (lines more arms all : List ℕ) (statement : CheckedStatement) (ts : List (Tested VariableName TaskName FunctionName)) (last : CheckedBlock)
    → statement ≡ choose (choice_of ts (Some last)) → more ≡ drop 1 lines → arms ≡ choice_behind more (choice_of ts None) → all ≡ block_behind arms last
    → all ≡ statement_behind lines statement
if_passed lines more arms all statement ts last is one first e =
    e ∙ ap (λ ls. block_behind ls last) (first ∙ ap (λ ls. choice_behind ls (choice_of ts None)) one) ∙ sym (last_behind (drop 1 lines) ts last)
    ∙ ap (statement_behind lines) (sym is)
