-- The private scalars of a task have at most as many words as its allowance counts.
use Rattle.std.proofs.Common.{◌≡◌, ℕ, ◌≤◌, List, [], ◌∷◌, map, ap, arith, true, Some, None, refl}
use Rattle.std.specs.Prelude.{All, Bool, Option, IsSomeAnd, slice_get}
use Rattle.std.proofs.lemmas.List.Elements.{All-weaker, All-head, All-tail}
use Rattle.std.proofs.lemmas.Option.{slice_get_within}
use Rattle.task_ast.specs.declared.Extent.{Extent}
use Rattle.task_ast.specs.declared.Extent.TheVariants as extent
use Rattle.task_ast.specs.declared.SharedDeclaration.{SharedDeclaration}
use Rattle.task_ast.specs.declared.names.Variable.TheVariants.{Shared}
use Rattle.cost_bound.specs.Counts.{assigns_of}
use Rattle.cost_bound.specs.Summaries.{summaries}
use Rattle.cost_bound.specs.Allowance.{scalar_part, scalars_of}
use Rattle.memory_map.specs.declared.place.VariablePlace.{VariablePlace}
use Rattle.memory_map.specs.declared.place.VariablePlace.TheVariants.{Scalar, Array}
use Rattle.memory_map.specs.declared.place.PrivateScalar.{PrivateScalar}
use Rattle.memory_map.specs.Places.{scalar_words, HasItsPlace}
use Rattle.memory_map.specs.Spots.{private_words, words_at}
use Rattle.privatise.specs.Layouts.{IsPlaceOf}
use Rattle.war_analysis.specs.Plans.{is_scalar, IsScalarAt, IsPrivateIn}
use Rattle.war_analysis.proofs.Interface.{element, words_of_all, HasWords, marked_are_counted, each_returns}
use Rattle.lower.proofs.Interface.{AreCallable, writes_some}
use Rattle.checked_trees.specs.WellFormed.{WellFormedBlock}
use Rattle.whole_programs.specs.Laws.{PrivatesAreFew}
use Rattle.checked_trees.proofs.Interface.{all_at, all_of, task_checked, function_checked, block_assigned}

-- a scalar has the words of its declaration, which it counts where it is assigned
place_counts : (written : Bool) (e : Extent) (place : VariablePlace) → IsPlaceOf written e place → words_at (Some place) ≤ scalar_part true e
place_counts written (extent.Scalar _) (Scalar home copy width) h = let same = ap scalar_words h in omega (arith, same)
place_counts written (extent.Long _) (Scalar home copy width) h = let same = ap scalar_words h in omega (arith, same)
place_counts written (extent.Array n) (Array elements length copies) h = omega arith
place_counts written (extent.Scalar _) (Array elements length copies) h = absurd h
place_counts written (extent.Long _) (Array elements length copies) h = absurd h
place_counts written (extent.Array n) (Scalar home copy width) h = absurd h

-- private scalars have the words of the variables of their numbers
words_by_number : (variables : List VariablePlace) (privates : List PrivateScalar) → All (HasItsPlace variables) privates
    → private_words privates ≡ words_of_all (λ i. words_at (slice_get variables i)) (map (λ s. s.number) privates)
words_by_number variables [] h = refl
words_by_number variables (s ∷ more) h =
    let place = (All-head (HasItsPlace variables) s more h).place in
    let first = ap words_at place in
    let rest = words_by_number variables more (All-tail (HasItsPlace variables) s more h) in
    omega (arith, first, rest)

pub privates_are_few : PrivatesAreFew
privates_are_few text program allow plans l laid k task t e f =
    let checks = laid.accepted.checks in
    let placed = checks.checks.named.placed in
    let formed = task_checked text program checks k task e in
    let bodies = all_of (λ g. WellFormedBlock program.shared g.body) program.functions
    (λ n g at. (function_checked text program checks n g at).statements) in
    let callable : AreCallable program.functions =
    record { calls = placed.calls.functions; returning = each_returns program placed checks.checks.paths.returns } in
    let inside = slice_get_within program.tasks k task e in
    let count = laid.plan.count in
    let plan = element plans k (omega (arith, inside, count)) in
    let is = (laid.plan.each k task plan.0 e plan.1).private_scalars in
    let assigned : (i : ℕ) → IsPrivateIn program.functions program.shared task.body i → assigns_of (summaries program) i task.body ≡ true =
    λ i h. block_assigned i program.shared program.functions bodies task.body formed.statements
    (writes_some (Shared i) program.functions callable task.body formed.calls h.owed.0) in
    let few : words_of_all words plan.0.private_scalars ≤ scalars_of (summaries program) program.shared task.body =
    marked_are_counted (λ i. assigns_of (summaries program) i task.body) words program.shared plan.0.private_scalars is.ascending
    (All-weaker (IsPrivateIn program.functions program.shared task.body)
    (λ i. HasWords program.shared i (words i) × (assigns_of (summaries program) i task.body ≡ true))
    (λ i h. (has_words i h.scalar, assigned i h)) plan.0.private_scalars is.only) in
    let numbers = ap (words_of_all words) (laid.layout.tasks.each k task plan.0 t e plan.1 f).privates in
    let their = words_by_number l.variables t.privates (all_at (λ t. All (HasItsPlace l.variables) t.privates) l.tasks k t laid.layout.rules.privates f) in
    omega (arith, few, numbers, their)
  where
    words : ℕ → ℕ
    words i = words_at (slice_get l.variables i)

    -- by the declaration of its number, and by its place
    by_place : (i : ℕ) (d : SharedDeclaration) → slice_get program.shared i ≡ Some d → (o : Option VariablePlace) → slice_get l.variables i ≡ o
        → words_at o ≤ scalar_part true d.extent
    by_place i d e None at = omega arith
    by_place i d e (Some place) at = place_counts _ d.extent place (laid.layout.variables.each i d place e at)

    by_declaration : (i : ℕ) (o : Option SharedDeclaration) → slice_get program.shared i ≡ o → IsSomeAnd o (λ d. is_scalar d.extent ≡ true)
        → IsSomeAnd o (λ d. words i ≤ scalar_part true d.extent)
    by_declaration i (Some d) e h = by_place i d e (slice_get l.variables i) refl
    by_declaration i None e h = absurd h

    has_words : (i : ℕ) → IsScalarAt program.shared i → HasWords program.shared i (words i)
    has_words i h = by_declaration i (slice_get program.shared i) refl h
