-- The trees of lists that grow.
use Rattle.std.proofs.Common.{◌≡◌, List, [], ◌∷◌, ◌++◌, map}
use Rattle.std.proofs.lemmas.List.{map-append}
use Rattle.alp_text.specs.declared.lines.Span.{Span}
use Rattle.task_ast.specs.declared.Stmt.{Stmt}
use Rattle.task_ast.specs.declared.Arm.{Arm}
use Rattle.task_ast.specs.declared.FunctionDeclaration.{FunctionDeclaration}
use Rattle.task_ast.specs.declared.TaskDeclaration.{TaskDeclaration}
use Rattle.task_ast.specs.View.{statement_of, tested_of, function_of, task_of}

pub statement_push : (xs : List (Stmt Span Span Span)) (x : Stmt Span Span Span) → map statement_of (xs ++ x ∷ []) ≡ map statement_of xs ++ statement_of x ∷ []
statement_push xs x = map-append statement_of xs (x ∷ [])

pub tested_push : (xs : List (Arm Span Span Span)) (x : Arm Span Span Span) → map tested_of (xs ++ x ∷ []) ≡ map tested_of xs ++ tested_of x ∷ []
tested_push xs x = map-append tested_of xs (x ∷ [])

pub function_push : (xs : List (FunctionDeclaration Span Span Span)) (x : FunctionDeclaration Span Span Span)
    → map function_of (xs ++ x ∷ []) ≡ map function_of xs ++ function_of x ∷ []
function_push xs x = map-append function_of xs (x ∷ [])

pub task_push : (xs : List (TaskDeclaration Span Span Span)) (x : TaskDeclaration Span Span Span)
    → map task_of (xs ++ x ∷ []) ≡ map task_of xs ++ task_of x ∷ []
task_push xs x = map-append task_of xs (x ∷ [])
