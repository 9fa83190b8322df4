-- One more function in a loop over them.
use Rattle.std.proofs.Common.{◌≡◌, ◌+◌, ◌<◌, ◌≤◌, ℕ, List, [], ◌∷◌, ◌++◌, length, take, map, get_or, ap, sym, ◌∙◌}
use Rattle.std.proofs.lemmas.List.{map-append, take_more, take_all}
use Rattle.task_ast.specs.declared.FunctionDeclaration.{FunctionDeclaration}
use Rattle.task_ast.specs.declared.Stmt.{Stmt}
use Rattle.task_ast.specs.declared.names.VariableName.{VariableName}
use Rattle.task_ast.specs.declared.names.TaskName.{TaskName}
use Rattle.task_ast.specs.declared.names.FunctionName.{FunctionName}
use Rattle.task_ast.specs.View.{block_view, function_of}
use Rattle.task_ast.specs.Answers.{answers}
use Rattle.task_ast.proofs.Interface.{answers_append}
use Rattle.path_sums.specs.Sums.{Algebra, block_sum, function_sum, call_sums}

abbrev Declared : Type 0
Declared = FunctionDeclaration VariableName TaskName FunctionName

module _ {S : Type 0} (A : Algebra S) (fs : List Declared) (i : ℕ) where
  pub one_more : (f : Declared) (items : List (Stmt VariableName TaskName FunctionName)) (known more : List S) → i < length fs
      → f ≡ get_or fs i f → items ≡ (get_or fs i f).body.items → known ≡ call_sums A (map function_of (take i fs))
      → more ≡ known ++ A.called (block_sum known A (block_view items)) ∷ [] → more ≡ call_sums A (map function_of (take (i + 1) fs))
  one_more f items known more lt at body h is =
      is ∙ ap (λ xs. known ++ A.called (block_sum known A (block_view xs)) ∷ []) body
      ∙ ap (λ known. known ++ function_sum A known (function_of (get_or fs i f)) ∷ []) h
      ∙ sym (answers_append (function_sum A) [] (map function_of (take i fs)) (function_of (get_or fs i f) ∷ []))
      ∙ ap (answers (function_sum A)) (sym (map-append function_of (take i fs) (get_or fs i f ∷ [])))
      ∙ ap (λ gs. answers (function_sum A) (map function_of gs)) (sym (take_more fs i f lt))

  pub all_of_them : (known : List S) → length fs ≤ i → known ≡ call_sums A (map function_of (take i fs)) → known ≡ call_sums A (map function_of fs)
  all_of_them known past h = h ∙ ap (λ gs. call_sums A (map function_of gs)) (take_all i fs past)
