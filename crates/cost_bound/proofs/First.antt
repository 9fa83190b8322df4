-- The first task that counts too many emits.
use Rattle.std.proofs.Common.{◌≡◌, ℕ, ◌+◌, ◌<◌, ◌≤◌, List, length, get_or, take, map, ap, sym, subst, ◌∙◌, arith}
use Rattle.std.specs.Prelude.{All}
use Rattle.std.specs.Option.{option_map}
use Rattle.std.proofs.Math.ListN.{get_or-map}
use Rattle.std.proofs.lemmas.List.Elements.{All-more}
use Rattle.std.proofs.lemmas.List.{take_all, length-map}
use Rattle.std.proofs.lemmas.Option.{slice_get-map, slice_get-get_or, get_or_from_slice_get}
use Rattle.task_ast.specs.declared.names.VariableName.{VariableName}
use Rattle.task_ast.specs.declared.names.TaskName.{TaskName}
use Rattle.task_ast.specs.declared.names.FunctionName.{FunctionName}
use Rattle.task_ast.specs.declared.Stmt.{Stmt}
use Rattle.task_ast.specs.declared.TaskDeclaration.{TaskDeclaration}
use Rattle.task_ast.specs.View.{block_view, task_of}
use Rattle.cost_bound.specs.Summary.{Summary}
use Rattle.cost_bound.specs.Table.{capped}
use Rattle.cost_bound.specs.Counts.{emits_of}
use Rattle.cost_bound.specs.Allowance.{FewEmits, IsFirstOver}

abbrev Declared : Type 0
Declared = TaskDeclaration VariableName TaskName FunctionName

module _ (known : List Summary) where
  pub few_more : (ts : List Declared) (i count : ℕ) (t : Declared) (items : List (Stmt VariableName TaskName FunctionName)) → i < length ts
      → items ≡ (get_or ts i t).body.items
      → All (FewEmits known) (take i (map task_of ts)) → count ≡ capped (emits_of known (block_view items)) → count ≤ 256
      → All (FewEmits known) (take (i + 1) (map task_of ts))
  few_more ts i count t items lt e all is low =
      let few : emits_of known (block_view items) ≤ 256 = omega arith in
      All-more (FewEmits known) (map task_of ts) i (task_of t) (subst (λ n. i < n) (sym (length-map ts task_of)) lt) all
      (subst (FewEmits known) (sym (get_or-map task_of ts i t)) (subst (λ b. emits_of known (block_view b) ≤ 256) e few))

  pub few_all : (ts : List Declared) (i : ℕ) → length ts ≤ i → All (FewEmits known) (take i (map task_of ts)) → All (FewEmits known) (map task_of ts)
  few_all ts i h all = subst (All (FewEmits known)) (take_all i (map task_of ts) (subst (λ n. n ≤ i) (sym (length-map ts task_of)) h)) all

  pub over_at : (ts : List Declared) (i count : ℕ) (t : Declared) (items : List (Stmt VariableName TaskName FunctionName)) → i < length ts
      → items ≡ (get_or ts i t).body.items
      → All (FewEmits known) (take i (map task_of ts)) → count ≡ capped (emits_of known (block_view items)) → 256 < count → IsFirstOver known (map task_of ts) i
  over_at ts i count t items lt e all is high = record {
    task = task_of (get_or ts i t);
    at = slice_get-map task_of ts i ∙ ap (option_map task_of) (slice_get-get_or ts i t lt);
    over = (let over : 256 < emits_of known (block_view items) = omega arith in subst (λ b. 256 < emits_of known (block_view b)) e over);
    first = all;
  }

  pub refused_at : (ts : List Declared) (number count : ℕ) (t : Declared) (first : IsFirstOver known (map task_of ts) number) → t ≡ get_or ts number t
      → (t.name ≡ first.task.name) × (block_view t.body.items ≡ first.task.body)
  refused_at ts number count t first is =
      let a : task_of t ≡ first.task = ap task_of is ∙ sym (get_or-map task_of ts number t) ∙ get_or_from_slice_get (map task_of ts) number first.task
      (task_of t) first.at in
      (ap (λ u. u.name) a, ap (λ u. u.body) a)
