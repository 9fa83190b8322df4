-- Programs one behind another, and those of lists from one item on.
use Rattle.lower.proofs.Names.{◌≡◌, ℕ, suc, ◌+◌, ◌<◌, ◌≤◌, List, [], ◌∷◌, ◌++◌, length, drop, true, false, refl, sym, ap, ◌∙◌, drop-cons, add-one}
use Rattle.lower.proofs.Names.{if◌then◌else◌, drop_all, statement_of, block_view, Stmt, VariableName, TaskName, FunctionName, WordStep, Program, list_entry}
use Rattle.lower.proofs.Names.{step, nothing}
use Rattle.lower.proofs.Names.{joined, behind, step_of, steps_of, joined_assoc, joined_nothing, Run, run_at, is_followed_by, longer, runs_from, entries}
use Rattle.lower.proofs.Names.{lowered_statement, lowered_block, PrivateScalar, Places}
use Rattle.std.proofs.Common.{get_or, map, slice_get}
use Rattle.std.specs.Option.{option_map}
use Rattle.std.proofs.lemmas.Option.{slice_get-map}
use Rattle.task_ast.specs.View.{function_of}
use Rattle.task_ast.specs.declared.FunctionDeclaration.{FunctionDeclaration}

pub steps_of_joined : (a b : List WordStep) → steps_of (a ++ b) ≡ joined (steps_of a) (steps_of b)
steps_of_joined [] b = refl
steps_of_joined (w ∷ a) b = ap (step (step_of w)) (steps_of_joined a b)

-- a scalar that follows a run belongs to it
pub entries_joined : (count list : ℕ) (r : Run) (privates : List PrivateScalar) (i : ℕ) (d : PrivateScalar) → i < length privates
    → is_followed_by r (get_or privates i d) ≡ true
    → entries count list (runs_from (longer r (get_or privates i d)) (drop (i + 1) privates)) ≡ entries count list (runs_from r (drop i privates))
entries_joined count list r privates i d h e =
    let s = get_or privates i d in
    let joined_run : Run = longer r s in
    let rest = drop (suc i) privates in
    ap (λ j. entries count list (runs_from joined_run (drop j privates))) (add-one i)
    ∙ ap (λ b. entries count list (if b then runs_from joined_run rest else r ∷ runs_from (run_at s) rest)) (sym e)
    ∙ sym (ap (λ l. entries count list (runs_from r l)) (drop-cons privates i d h))

-- another one begins a run
pub entries_apart : (count list : ℕ) (r : Run) (privates : List PrivateScalar) (i : ℕ) (d : PrivateScalar) (p : Program) → i < length privates
    → is_followed_by r (get_or privates i d) ≡ false
    → joined (behind p (list_entry count list r.home r.copy r.words)) (entries count list (runs_from (run_at (get_or privates i d)) (drop (i + 1) privates)))
    ≡ joined p (entries count list (runs_from r (drop i privates)))
entries_apart count list r privates i d p h e =
    let s = get_or privates i d in
    let joined_run : Run = longer r s in
    let one = list_entry count list r.home r.copy r.words in
    let rest = drop (suc i) privates in
    joined_assoc p (step one nothing) (entries count list (runs_from (run_at s) (drop (i + 1) privates)))
    ∙ ap (λ j. joined p (step one (entries count list (runs_from (run_at s) (drop j privates))))) (add-one i)
    ∙ ap (λ b. joined p (entries count list (if b then runs_from joined_run rest else r ∷ runs_from (run_at s) rest))) (sym e)
    ∙ sym (ap (λ l. joined p (entries count list (runs_from r l))) (drop-cons privates i d h))

-- behind the last one
pub entries_end : (count list : ℕ) (r : Run) (privates : List PrivateScalar) (i : ℕ) (p : Program) → length privates ≤ i
    → behind p (list_entry count list r.home r.copy r.words) ≡ joined p (entries count list (runs_from r (drop i privates)))
entries_end count list r privates i p h = sym (ap (λ l. joined p (entries count list (runs_from r l))) (drop_all i privates h))

-- a function by its number
pub function_found : (fs : List (FunctionDeclaration VariableName TaskName FunctionName)) (k : ℕ)
    → slice_get (map function_of fs) k ≡ option_map function_of (slice_get fs k)
function_found fs k = slice_get-map function_of fs k

-- the statements from one on, as its own program and that of those behind it
pub block_step : (p : Places) (body : List (Stmt VariableName TaskName FunctionName)) (i : ℕ) (s : Stmt VariableName TaskName FunctionName) (q : Program)
    → i < length body
    → s ≡ get_or body i s
    → joined (joined q (lowered_statement p [] (statement_of s))) (lowered_block p [] (block_view (drop (i + 1) body)))
    ≡ joined q (lowered_block p [] (block_view (drop i body)))
block_step p body i s q h is =
    joined_assoc q (lowered_statement p [] (statement_of s)) (lowered_block p [] (block_view (drop (i + 1) body)))
    ∙ ap (λ j. joined q (joined (lowered_statement p [] (statement_of s)) (lowered_block p [] (block_view (drop j body))))) (add-one i)
    ∙ sym (ap (λ l. joined q (lowered_block p [] (block_view l))) (drop-cons body i s h ∙ ap (λ x. x ∷ drop (suc i) body) (sym is)))

pub block_end : (p : Places) (body : List (Stmt VariableName TaskName FunctionName)) (i : ℕ) (q : Program) → length body ≤ i
    → joined q (lowered_block p [] (block_view (drop i body))) ≡ q
block_end p body i q h = ap (λ l. joined q (lowered_block p [] (block_view l))) (drop_all i body h) ∙ joined_nothing q
