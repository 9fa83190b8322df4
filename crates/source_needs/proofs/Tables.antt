-- What the table says of one task of an accepted source.
use Rattle.std.proofs.Common.{◌≡◌, ◌∙◌, ℕ, zero, suc, ◌^◌, ◌<◌, ◌≤◌, Bool, List, [], ◌∷◌, length, map, Some, sym, ap, subst, arith}
use Rattle.std.proofs.lemmas.List.{length-map}
use Rattle.std.specs.Prelude.{slice_get, unwrap_or}
use Rattle.task_ast.specs.declared.FunctionDeclaration.{FunctionDeclaration}
use Rattle.task_ast.specs.declared.SharedDeclaration.{SharedDeclaration}
use Rattle.task_ast.specs.declared.names.VariableName.{VariableName}
use Rattle.task_ast.specs.declared.names.FunctionName.{FunctionName}
use Rattle.task_ast.specs.declared.names.TaskName.{TaskName}
use Rattle.task_ast.specs.View.{function_of}
use Rattle.task_ast.proofs.Interface.{answers_length}
use Rattle.cost_bound.specs.Counts.{CheckedBlock, emits_of}
use Rattle.cost_bound.specs.declared.function_summaries.FunctionSummary.{FunctionSummary}
use Rattle.cost_bound.specs.Machine.{AreSame, known_of}
use Rattle.cost_bound.specs.Summary.{Summary}
use Rattle.cost_bound.specs.Summaries.{function_summary, function_summaries, summaries}
use Rattle.cost_bound.specs.Allowance.{CheckedTask, greatest, list_of, scalars_of, task_bound, task_words, total, uses_events, versions_of}
use Rattle.source_values.specs.Runs.{CheckedProgram}
use Rattle.cost_bound.proofs.Interface.{bound_same, emits_same, list_same, scalars_same, words_same}
use Rattle.task_needs.specs.Needs.{elements_of}

-- one task is no more than the greatest
pub at_most_greatest : (f : CheckedBlock → ℕ) (ts : List CheckedTask) (k : ℕ) (t : CheckedTask) → slice_get ts k ≡ Some t → f t.body ≤ greatest f ts
at_most_greatest f [] k t e = cc
at_most_greatest f (u ∷ ts) zero t e = let same = ap (λ o. f (unwrap_or o u).body) e in omega (arith, same)
at_most_greatest f (u ∷ ts) (suc k) t e = let rest = at_most_greatest f ts k t e in omega (arith, rest)

-- and than all of them
pub at_most_total : (f : CheckedBlock → ℕ) (ts : List CheckedTask) (k : ℕ) (t : CheckedTask) → slice_get ts k ≡ Some t → f t.body ≤ total f ts
at_most_total f [] k t e = cc
at_most_total f (u ∷ ts) zero t e = let same = ap (λ o. f (unwrap_or o u).body) e in omega (arith, same)
at_most_total f (u ∷ ts) (suc k) t e = let rest = at_most_total f ts k t e in omega (arith, rest)

-- the table by functions as 64 bits keep them is that by the functions, where the bound and the words have 32 bits
pub record TablesAreSame (kept known : List Summary) (shared : List SharedDeclaration) (events : Bool) (versions : ℕ) (b : CheckedBlock) : Type 0 where
  pub bound : task_bound kept events versions shared b ≡ task_bound known events versions shared b
  pub words : task_words kept shared b ≡ task_words known shared b
  pub scalars : scalars_of kept shared b ≡ scalars_of known shared b
  pub list : list_of kept shared b ≡ list_of known shared b
  pub elements : elements_of kept shared b ≡ elements_of known shared b
  pub emits : emits_of kept b ≡ emits_of known b

pub tables_are_same : (kept known : List Summary) → length kept ≤ 64 → AreSame kept known → (shared : List SharedDeclaration) → length shared ≤ 256
    → (events : Bool) (versions : ℕ) (b : CheckedBlock) → task_bound known events versions shared b < 2 ^ 32 → task_words known shared b < 2 ^ 32
    → TablesAreSame kept known shared events versions b
tables_are_same kept known few same shared low events versions b small short =
    let bound = bound_same kept known few same shared low events versions b in
    let words = words_same kept known few same shared low b in
    let scalars = scalars_same kept known few same shared low b in
    let list = list_same kept known few same shared low b in
    let emits = emits_same kept known few same b in
    let all : list_of kept shared b ≡ list_of known shared b = omega (arith, list, small) in
    record {
      bound = omega (arith, bound, small);
      words = omega (arith, words, short);
      scalars = scalars;
      list = all;
      elements = omega (arith, all, scalars);
      emits = omega (arith, emits, small);
    }

-- and so it is by what is kept of a source's functions
pub tables_here : (p : CheckedProgram) (fs own : List (FunctionDeclaration VariableName TaskName FunctionName)) (given kept : List FunctionSummary)
    (b : CheckedBlock) → map function_of fs ≡ p.functions → own ≡ fs → given ≡ kept → AreSame (known_of kept) (function_summaries (map function_of own))
    → length fs ≤ 64 → length p.shared ≤ 256 → task_bound (summaries p) (uses_events p) (versions_of p) p.shared b < 2 ^ 32
    → task_words (summaries p) p.shared b ≤ 22000 → TablesAreSame (known_of given) (summaries p) p.shared (uses_events p) (versions_of p) b
tables_here p fs own given kept b is here held same few low small short =
    let all : AreSame (known_of given) (summaries p) =
    subst (λ xs. AreSame (known_of xs) (summaries p)) (sym held)
    (subst (λ gs. AreSame (known_of kept) (function_summaries gs)) (ap (map function_of) here ∙ is) same) in
    let many = answers_length function_summary [] p.functions in
    let count = all.count in
    let made = length-map fs function_of in
    tables_are_same (known_of given) (summaries p) (omega (arith, count, many, made, ap length is, few)) all p.shared low (uses_events p) (versions_of p) b
    small (omega (arith, short))
