-- The locals of functions, as loops come to them.
use Rattle.std.proofs.Common.{◌≡◌, ℕ, ◌+◌, ◌-◌, ◌<◌, ◌≤◌, Bool, false, List, [], ◌∷◌, ◌++◌, length, take, drop, map, max, get_or, refl, sym, ap, ◌∙◌}
use Rattle.std.proofs.Common.{arith}
use Rattle.std.proofs.Common.{if◌then◌else◌, slice_index_or, zero, suc, Some}
use Rattle.std.specs.Prelude.{slice_get}
use Rattle.std.proofs.lemmas.Option.{slice_get_within}
use Rattle.task_ast.specs.Paths.{CheckedFunction}
use Rattle.std.proofs.lemmas.List.{length_push, length-map, map-append, take_all, take_more}
use Rattle.task_ast.specs.View.{function_of}
use Rattle.task_ast.specs.declared.FunctionDeclaration.{FunctionDeclaration}
use Rattle.task_ast.specs.declared.names.VariableName.{VariableName}
use Rattle.task_ast.specs.declared.names.TaskName.{TaskName}
use Rattle.task_ast.specs.declared.names.FunctionName.{FunctionName}
use Rattle.cost_bound.specs.Counts.{CheckedBlock, block_calls}
use Rattle.cost_bound.proofs.Interface.{read_again}
use Rattle.task_ast.proofs.Interface.{answers_append, answers_length, drop_back}
use Rattle.function_locals.specs.declared.locals.FunctionLocals.{FunctionLocals}
use Rattle.function_locals.specs.Locals.{register_end, greatest_end, base_of, function_locals, all_locals}

-- one function more, in front of those that were looked at
module _ (calls : ℕ → Bool) (kept : List FunctionLocals) (k : ℕ) (e : FunctionLocals) (pos : 0 < k) (h : k ≤ length kept) where
  abbrev element : FunctionLocals
  element = get_or kept (k - 1) e

  pub end_more : (n d m : ℕ) → n ≡ greatest_end calls k (drop k kept) → d ≡ (if calls (k - 1) then register_end element else 0) → m ≡ max d n
      → m ≡ greatest_end calls (k - 1) (drop (k - 1) kept)
  end_more n d m x y z =
      let same : k - 1 + 1 ≡ k = omega (arith, pos) in
      z ∙ ap (λ d. max d n) y ∙ ap (λ n. max (if calls (k - 1) then register_end element else 0) n) x
      ∙ ap (λ j. max (if calls (k - 1) then register_end element else 0) (greatest_end calls j (drop k kept))) (sym same)
      ∙ ap (λ fs. greatest_end calls (k - 1) fs) (sym (drop_back kept k element pos h (read_again kept (k - 1) _ (omega (arith, pos, h)))))

-- by the same marks
end_same : (calls marks : ℕ → Bool) (k : ℕ) (known : List FunctionLocals) → k + length known ≤ 256 → ((j : ℕ) → j < 256 → calls j ≡ marks j)
    → greatest_end calls k known ≡ greatest_end marks k known
end_same calls marks k [] few same = refl
end_same calls marks k (l ∷ known) few same =
    ap (λ c. max (if c then register_end l else 0) (greatest_end calls (k + 1) known)) (same k (omega arith))
    ∙ ap (λ n. max (if marks k then register_end l else 0) n) (end_same calls marks (k + 1) known (omega arith) same)

pub base_is : (known : List FunctionLocals) (b : CheckedBlock) (calls : List Bool) (n : ℕ) → length known ≤ 64
    → ((k : ℕ) → k < 256 → slice_index_or calls k false ≡ block_calls k b) → n ≡ greatest_end (λ k. slice_index_or calls k false) 0 known
    → n ≡ base_of known b
base_is known b calls n few are e = e ∙ end_same (λ k. slice_index_or calls k false) (λ k. block_calls k b) 0 known (omega (arith, few)) are

abbrev Declared : Type 0
Declared = FunctionDeclaration VariableName TaskName FunctionName

-- the first functions have their locals
pub record Made (fs : List Declared) (i : ℕ) (kept : List FunctionLocals) : Type 0 where
  pub count : length kept ≡ i
  pub are : kept ≡ all_locals (map function_of (take i fs))

pub none_made : (fs : List Declared) → Made fs 0 []
none_made fs = record { count = refl; are = refl }

-- one more
pub one_made : (fs : List Declared) (i : ℕ) (f : Declared) (kept more : List FunctionLocals) (next : FunctionLocals) → i < length fs → f ≡ get_or fs i f
    → next ≡ function_locals kept (function_of f) → more ≡ kept ++ next ∷ [] → Made fs i kept → Made fs (i + 1) more
one_made fs i f kept more next lt at is e h = record {
  count = ap length e ∙ length_push kept next ∙ ap (λ n. n + 1) h.count;
  are = e ∙ ap (λ n. kept ++ n ∷ []) is ∙ ap (λ ls. ls ++ function_locals ls (function_of f) ∷ []) h.are ∙ sym all;
}
  where
    all : all_locals (map function_of (take (i + 1) fs))
        ≡ all_locals (map function_of (take i fs)) ++ function_locals (all_locals (map function_of (take i fs))) (function_of f) ∷ []
    all = ap (λ gs. all_locals (map function_of gs)) (take_more fs i f lt)
        ∙ ap all_locals (map-append function_of (take i fs) (get_or fs i f ∷ []))
        ∙ answers_append function_locals [] (map function_of (take i fs)) (function_of (get_or fs i f) ∷ [])
        ∙ ap (λ g. all_locals (map function_of (take i fs)) ++ function_locals (all_locals (map function_of (take i fs))) (function_of g) ∷ []) (sym at)

pub all_made : (fs : List Declared) (i : ℕ) (kept : List FunctionLocals) → length fs ≤ i → Made fs i kept → kept ≡ all_locals (map function_of fs)
all_made fs i kept past h = h.are ∙ ap (λ gs. all_locals (map function_of gs)) (take_all i fs past)

-- as many as functions
pub locals_length : (fs : List Declared) → length (all_locals (map function_of fs)) ≡ length fs
locals_length fs = let n = answers_length function_locals [] (map function_of fs) in let m = length-map fs function_of in omega (arith, n, m)

-- each function has locals, and each locals are of a function
within : {A : Type 0} (xs : List A) (k : ℕ) → k < length xs → (x : A) × (slice_get xs k ≡ Some x)
within [] k l = absurd (let none : ⊥ = omega arith in none)
within (x ∷ xs) zero l = (x, refl)
within (x ∷ xs) (suc k) l = within xs k (omega arith)

pub locals_at : (fs : List CheckedFunction) (k : ℕ) (f : CheckedFunction) → slice_get fs k ≡ Some f
    → (l : FunctionLocals) × (slice_get (all_locals fs) k ≡ Some l)
locals_at fs k f is =
    let n = answers_length function_locals [] fs in
    let inside = slice_get_within fs k f is in
    within (all_locals fs) k (omega (arith, n, inside))

pub functions_at : (fs : List CheckedFunction) (k : ℕ) (l : FunctionLocals) → slice_get (all_locals fs) k ≡ Some l
    → (f : CheckedFunction) × (slice_get fs k ≡ Some f)
functions_at fs k l is =
    let n = answers_length function_locals [] fs in
    let inside = slice_get_within (all_locals fs) k l is in
    within fs k (omega (arith, n, inside))
