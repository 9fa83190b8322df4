-- The lines of tasks, of the code's tree and of the tree that it stands for.
use Rattle.std.proofs.Common.{◌≡◌, ℕ, List, [], ◌∷◌, map, refl, ap}
use Rattle.task_ast.specs.declared.TaskDeclaration.{TaskDeclaration}
use Rattle.task_ast.specs.declared.names.VariableName.{VariableName}
use Rattle.task_ast.specs.declared.names.TaskName.{TaskName}
use Rattle.task_ast.specs.declared.names.FunctionName.{FunctionName}
use Rattle.task_ast.specs.View.{task_of}
use Rattle.task_lex.specs.Faults.{line_of}

pub same_lines : (text : List ℕ) (ts : List (TaskDeclaration VariableName TaskName FunctionName))
    → map (λ t. line_of text t.name.from) ts ≡ map (λ t. line_of text t.name.from) (map task_of ts)
same_lines text [] = refl
same_lines text (t ∷ ts) = ap (λ lines. line_of text t.name.from ∷ lines) (same_lines text ts)
