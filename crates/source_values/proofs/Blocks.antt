-- The statements of a block, one after another.
use Rattle.std.proofs.Common.{◌≡◌, ◌≤◌, ◌<◌, ◌+◌, ℕ, zero, suc, List, [], ◌∷◌, length, drop, get_or, drop-cons, ap, ◌∙◌, sym, arith}
use Rattle.task_ast.specs.Tree.{step}
use Rattle.task_ast.specs.View.{statement_of, block_view}
use Rattle.task_ast.specs.declared.Stmt.{Stmt}
use Rattle.task_ast.specs.declared.names.VariableName.{VariableName}
use Rattle.task_ast.specs.declared.names.TaskName.{TaskName}
use Rattle.task_ast.specs.declared.names.FunctionName.{FunctionName}
use Rattle.source_values.proofs.Sizes.{statement_size, block_size}

-- the statements from number i on
pub block_at : (body : List (Stmt VariableName TaskName FunctionName)) (i : ℕ) (s : Stmt VariableName TaskName FunctionName)
    → i < length body → s ≡ get_or body i s
    → block_view (drop i body) ≡ step (statement_of s) (block_view (drop (i + 1) body))
block_at body i s h is =
    let split : drop i body ≡ get_or body i s ∷ drop (i + 1) body = grind (arith, drop-cons body i s) in
    ap block_view (split ∙ ap (λ x. x ∷ drop (i + 1) body) (sym is))

rest_size : (body : List (Stmt VariableName TaskName FunctionName)) (i : ℕ) → block_size (block_view (drop i body)) ≤ block_size (block_view body)
rest_size body zero = omega arith
rest_size [] (suc i) = omega arith
rest_size (s ∷ body) (suc i) = omega (arith, rest_size body i)

-- a statement is smaller than its block
pub statement_falls : (body : List (Stmt VariableName TaskName FunctionName)) (i : ℕ) (s : Stmt VariableName TaskName FunctionName)
    → i < length body → s ≡ get_or body i s → 1 + statement_size (statement_of s) ≤ block_size (block_view body)
statement_falls body i s h is = omega (arith, ap block_size (block_at body i s h is), rest_size body i)
