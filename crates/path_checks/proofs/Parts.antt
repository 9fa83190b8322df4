-- Parts that are walked one after another.
use Rattle.std.proofs.Common.{◌≡◌, ◌==◌, ◌+◌, ◌-◌, ◌<◌, ◌≤◌, ℕ, Bool, List, [], ◌∷◌, length, drop, drop-cons, get_or, ap, sym, ◌∙◌, if◌then◌else◌, arith}
use Rattle.std.proofs.Common.{add-one}
use Rattle.std.proofs.lemmas.List.{drop_all, get_or_default}
use Rattle.task_ast.specs.declared.names.FunctionName.{FunctionName}
use Rattle.task_ast.specs.declared.names.VariableName.{VariableName}
use Rattle.task_ast.specs.declared.names.TaskName.{TaskName}
use Rattle.task_ast.specs.declared.Stmt.{Stmt}
use Rattle.task_ast.specs.View.{statement_of, block_view}
use Rattle.task_ast.proofs.Interface.{drop_back}
use Rattle.path_sums.specs.Sums.{statement_sum, block_sum}
use Rattle.path_checks.specs.Assignments.{assignment}
use Rattle.path_checks.specs.declared.walk.Walk.{Walk}
use Rattle.path_checks.specs.declared.ways.Ended.{Ended}
use Rattle.path_checks.specs.Walks.{Does}
use Rattle.path_checks.specs.Ways.{ended}
use Rattle.path_checks.proofs.Walks.{does_as, does_both, does_nothing}

-- one more end is put
pub put_step : (es : List Ended) (i : ℕ) (d : Ended) (old now new : ℕ → Bool) → 0 < i → i ≤ length es
    → ((x : ℕ) → now x ≡ ended (drop i es) x (old x))
    → ((x : ℕ) → new x ≡ (if (get_or es (i - 1) d).local == x then (get_or es (i - 1) d).assigned else now x))
    → (x : ℕ) → new x ≡ ended (drop (i - 1) es) x (old x)
put_step es i d old now new pos h inv put x =
    let e = get_or es (i - 1) d in
    let below : i - 1 < length es = omega arith in
    put x ∙ ap (λ n. if e.local == x then e.assigned else n) (inv x)
    ∙ ap (λ us. ended us x (old x)) (sym (drop_back es i e pos h (get_or_default es (i - 1) d e below)))

-- one more statement in front of the rest of a block
pub block_step : (body : List (Stmt VariableName TaskName FunctionName)) (i : ℕ) (s : Stmt VariableName TaskName FunctionName) (w v u : Walk)
    → i < length body → s ≡ get_or body i s
    → Does w v (λ x p. statement_sum [] (assignment x p) (statement_of s))
    → Does v u (λ x p. block_sum [] (assignment x p) (block_view (drop (i + 1) body)))
    → Does w u (λ x p. block_sum [] (assignment x p) (block_view (drop i body)))
block_step body i s w v u h at d e =
    let front : drop i body ≡ s ∷ drop (i + 1) body = rw (add-one) (drop-cons body i s h) ∙ ap (λ x. x ∷ drop (i + 1) body) (sym at) in
    does_as w u _ _ (λ x p. sym (ap (λ xs. block_sum [] (assignment x p) (block_view xs)) front)) (does_both d e)

-- nothing is left of the block
pub block_done : (body : List (Stmt VariableName TaskName FunctionName)) (i : ℕ) (w : Walk) → length body ≤ i
    → Does w w (λ x p. block_sum [] (assignment x p) (block_view (drop i body)))
block_done body i w h =
    does_as w w _ _ (λ x p. sym (ap (λ xs. block_sum [] (assignment x p) (block_view xs)) (drop_all i body h))) (does_nothing w)
