-- The way where no condition of an `if` holds, by the last of them.
use Rattle.std.proofs.Common.{◌≡◌, ℕ, suc, ◌-◌, ◌<◌, ◌≤◌, List, [], ◌∷◌, length, get_or, slice_index, refl, ap, ◌∙◌, arith}
use Rattle.condition_lines.specs.Ways.{failed_way, task_ways, way_if}

pub none_fails : (line : ℕ) (failed numbers : List ℕ) → length numbers ≤ 0 → failed_way line failed numbers ≡ []
none_fails line failed [] h = refl
none_fails line failed (n ∷ more) h = absurd (omega (arith, h))

pub last_fails : (line : ℕ) (failed numbers : List ℕ) (d : ℕ) → 0 < length numbers
    → failed_way line failed numbers ≡ way_if line 0 (slice_index failed (get_or numbers (length numbers - 1) d))
last_fails line failed [] d h = absurd (omega (arith, h))
last_fails line failed (n ∷ []) d h = refl
last_fails line failed (n ∷ m ∷ more) d h =
    let further : suc (suc (length more)) - 1 ≡ suc (suc (length more) - 1) = omega arith in
    last_fails line failed (m ∷ more) d (omega arith)
    ∙ ap (λ i. way_if line 0 (slice_index failed (get_or (n ∷ m ∷ more) i d))) (at further)
  where
    at : suc (suc (length more)) - 1 ≡ suc (suc (length more) - 1) → suc (suc (length more) - 1) ≡ suc (suc (length more)) - 1
    at e = omega (arith, e)

-- behind the last `if` there is no way
pub no_ifs : (held failed lines : List ℕ) → task_ways held failed lines [] ≡ []
no_ifs held failed [] = refl
no_ifs held failed (line ∷ lines) = refl
