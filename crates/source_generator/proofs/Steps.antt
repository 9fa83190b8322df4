-- One draw, one task, one charge more of those that are left.
use Rattle.std.proofs.Common.{◌≡◌, ℕ, suc, ◌+◌, ◌-◌, ◌<◌, ◌≤◌, [], ◌∷◌, ◌++◌, refl, subst, arith}
use Rattle.energy_trace.specs.declared.charge.Charge.{Charge}
use Rattle.source_generator.specs.Draws.{next, drawn, draws, behind}
use Rattle.source_generator.specs.Source.{task_text, task_texts}
use Rattle.source_generator.specs.Trace.{charge_of, charges}

one_less : (m k : ℕ) → k < m → suc (m - (k + 1)) ≡ m - k
one_less m k h = omega (arith, h)

none_left : (m k : ℕ) → m ≤ k → 0 ≡ m - k
none_left m k h = omega (arith, h)

pub draws_left : (m k s t d : ℕ) → k < m → d ≡ drawn s → t ≡ next s → draws (m - k) s ≡ d ∷ draws (m - (k + 1)) t
unfolding draws
draws_left m k s t d h e f = rw (e, f) (subst (λ j. draws j s ≡ drawn s ∷ draws (m - (k + 1)) (next s)) (one_less m k h) refl)

pub behind_left : (m k s t : ℕ) → k < m → t ≡ next s → behind (m - k) s ≡ behind (m - (k + 1)) t
unfolding behind
behind_left m k s t h e = rw e (subst (λ j. behind j s ≡ behind (m - (k + 1)) (next s)) (one_less m k h) refl)

pub tasks_left : (m k s t : ℕ) → k < m → t ≡ behind 7 s → task_texts (m - k) k s ≡ task_text k s ++ task_texts (m - (k + 1)) (k + 1) t
unfolding task_texts
tasks_left m k s t h e = rw e (subst (λ j. task_texts j k s ≡ task_text k s ++ task_texts (m - (k + 1)) (k + 1) (behind 7 s)) (one_less m k h) refl)

pub charges_left : (m k bound s t : ℕ) (c : Charge) → k < m → c ≡ charge_of bound s → t ≡ behind 2 s
    → charges (m - k) bound s ≡ c ∷ charges (m - (k + 1)) bound t
unfolding charges
charges_left m k bound s t c h e f =
    rw (e, f) (subst (λ j. charges j bound s ≡ charge_of bound s ∷ charges (m - (k + 1)) bound (behind 2 s)) (one_less m k h) refl)

-- where none is left
pub no_draws : (m k s : ℕ) → m ≤ k → draws (m - k) s ≡ []
unfolding draws
no_draws m k s h = subst (λ j. draws j s ≡ []) (none_left m k h) refl

pub behind_none : (m k s : ℕ) → m ≤ k → behind (m - k) s ≡ s
unfolding behind
behind_none m k s h = subst (λ j. behind j s ≡ s) (none_left m k h) refl

pub no_tasks : (m k s : ℕ) → m ≤ k → task_texts (m - k) k s ≡ []
unfolding task_texts
no_tasks m k s h = subst (λ j. task_texts j k s ≡ []) (none_left m k h) refl

pub no_charges : (m k bound s : ℕ) → m ≤ k → charges (m - k) bound s ≡ []
unfolding charges
no_charges m k bound s h = subst (λ j. charges j bound s ≡ []) (none_left m k h) refl

-- two draws one after another
pub behind_two : (s : ℕ) → behind 2 s ≡ next (next s)
unfolding behind
behind_two s = refl

-- one draw behind six
pub behind_seven : (s : ℕ) → behind 7 s ≡ next (behind 6 s)
unfolding behind
behind_seven s = refl
