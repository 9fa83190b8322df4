-- The dearest path from each form on, by its number.
use Rattle.std.proofs.Common.{◌≡◌, ℕ, zero, suc, ◌<◌, List, [], ◌∷◌, length, drop, refl, sym, ap, ◌∙◌, arith, slice_index_or}
use Rattle.code_forms.specs.Forms.{Form}
use Rattle.code_paths.specs.Paths.{dearest, dearest_from, capped, costs_of}

pub costs_length : (ms : List Form) → length (costs_of ms) ≡ length ms
costs_length [] = refl
costs_length (m ∷ ms) = ap suc (costs_length ms)

pub cost_at : (ms : List Form) (i : ℕ) → i < length ms → slice_index_or (costs_of ms) i 0 ≡ capped (dearest (drop i ms))
cost_at [] i l = absurd (omega (arith, l))
cost_at (m ∷ ms) zero l = refl
cost_at (m ∷ ms) (suc i) l = cost_at ms i (omega (arith, l))

-- where what is left of a way is nothing
pub cost_there : (ms : List Form) (costs : List ℕ) (i left bytes : ℕ) → costs ≡ costs_of ms → i < length ms → left ≡ 0
    → dearest_from ms bytes ≡ dearest_from (drop i ms) left → slice_index_or costs i 0 ≡ capped (dearest_from ms bytes)
cost_there ms costs i left bytes e l none way =
    ap (λ c. slice_index_or c i 0) e ∙ cost_at ms i l ∙ ap (λ b. capped (dearest_from (drop i ms) b)) (sym none) ∙ ap capped (sym way)
