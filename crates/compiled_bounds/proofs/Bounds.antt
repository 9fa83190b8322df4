-- The greatest of the costs of tasks, by number and by the list.
use Rattle.cost_bound.specs.Summaries.{summaries}
use Rattle.cost_bound.specs.Allowance as allowance
use Rattle.std.proofs.Common.{◌≡◌, ℕ, zero, suc, ◌<◌, ◌≤◌, max, Bool, true, false, cond, nat_lt, refl, ap, ◌∙◌, arith, List, [], ◌∷◌, length}
use Rattle.std.proofs.lemmas.Bool.Decides.{nat_tests}
use Rattle.std.specs.Prelude.{slice_get}
use Rattle.cost_bound.specs.Counts.{CheckedBlock}
use Rattle.cost_bound.specs.Allowance.{CheckedTask, task_bound, uses_events, versions_of}
use Rattle.source_values.specs.Runs.{body_of}
use Rattle.crash_rules.specs.Model.{greatest}
use Rattle.compiled_bounds.specs.Laws.{BoundIsTheSources}

pub greater : (a b : ℕ) → cond (nat_lt a b) b a ≡ max a b
greater a b = by (nat_lt a b) refl
  where
    by : (t : Bool) → nat_lt a b ≡ t → cond t b a ≡ max a b
    by true e = let l : a < b = grind (arith, nat_tests) in omega (arith, l)
    by false e = let l : b ≤ a = grind (arith, nat_tests) in omega (arith, l)

-- the first one apart
first_apart : (cost : ℕ → ℕ) (n : ℕ) → greatest cost (suc n) ≡ max (cost 0) (greatest (λ i. cost (suc i)) n)
first_apart cost zero = greater 0 (cost 0) ∙ omega arith
first_apart cost (suc n) =
    let rest = greatest (λ i. cost (suc i)) n in
    let ih = first_apart cost n in
    let one : greatest cost (suc (suc n)) ≡ max (greatest cost (suc n)) (cost (suc n)) = greater (greatest cost (suc n)) (cost (suc n)) in
    let two : greatest (λ i. cost (suc i)) (suc n) ≡ max rest (cost (suc n)) = greater rest (cost (suc n)) in
    omega (arith, ih, one, two)

same_greatest : (price : CheckedBlock → ℕ) (ts : List CheckedTask) → greatest (λ i. price (body_of (slice_get ts i))) (length ts) ≡ allowance.greatest price ts
same_greatest price [] = refl
same_greatest price (t ∷ ts) =
    first_apart (λ i. price (body_of (slice_get (t ∷ ts) i))) (length ts) ∙ ap (max (price t.body)) (same_greatest price ts)

pub bound_is_the_sources : BoundIsTheSources
bound_is_the_sources p l = same_greatest (task_bound (summaries p) (uses_events p) (versions_of p) p.shared) p.tasks
