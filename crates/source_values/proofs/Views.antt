-- The trees that an `if` and a `for` stand for.
use Rattle.std.proofs.Common.{◌≡◌, ℕ, Option, Some, None, Vec, rules}
use Rattle.std.specs.Global.{Global}
use Rattle.task_ast.specs.Tree.{loop, choose}
use Rattle.task_ast.specs.View.{statement_of, block_view, choice_view}
use Rattle.task_ast.specs.declared.names.VariableName.{VariableName}
use Rattle.task_ast.specs.declared.names.TaskName.{TaskName}
use Rattle.task_ast.specs.declared.names.FunctionName.{FunctionName}
use Rattle.task_ast.specs.declared.Stmt.{Stmt, If, For, the_lemmas}
use Rattle.task_ast.specs.declared.Arm.{Arm}

pub for_view : (x : VariableName) (from : ℕ) (tested : VariableName) (below : ℕ) (stepped : VariableName)
    (body : Vec (Stmt VariableName TaskName FunctionName) Global)
    → statement_of (For x from tested below stepped body) ≡ loop x from tested below stepped (block_view body.items)
for_view x from tested below stepped body = search (rules, the_lemmas)

pub if_view : (arms : Vec (Arm VariableName TaskName FunctionName) Global) (last : Option (Vec (Stmt VariableName TaskName FunctionName) Global))
    → statement_of (If arms last) ≡ choose (choice_view arms.items last)
if_view arms None = search (rules, the_lemmas)
if_view arms (Some last) = search (rules, the_lemmas)
