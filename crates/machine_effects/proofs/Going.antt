-- Stretches of any machine, one after another.
use Rattle.std.proofs.Common.{◌≡◌, ℕ, suc, ◌+◌, List, [], ◌++◌, sym, ap, ◌∙◌, append_assoc, add_assoc, one-add, zero-add}
use Rattle.fram_board.specs.Effects.{Effect}
use Rattle.machine_effects.specs.Going.{StepOutcome, Goes, Stops, Stretch, stretch, after_effects, continued, going, Leads, Stalls}

-- effects in front of effects
pub after_after : {S X : Type 0} (es fs : List Effect) (c d : ℕ) (r : Stretch S X)
    → after_effects es c (after_effects fs d r) ≡ after_effects (es ++ fs) (c + d) r
after_after es fs c d r =
    ap (λ l. stretch l (c + (d + r.cycles)) r.status) (sym (append_assoc es fs r.effects))
    ∙ ap (λ n. stretch ((es ++ fs) ++ r.effects) n r.status) (sym (add_assoc c d r.cycles))

-- nothing in front
pub after_nothing : {S X : Type 0} (r : Stretch S X) → after_effects [] 0 r ≡ r
after_nothing r = ap (λ n. stretch r.effects n r.status) (zero-add r.cycles)

module _ {S X : Type 0} (step : S → StepOutcome S X) where
  -- no step is a stretch
  pub stay : (s : S) → Leads step 0 [] 0 s s
  stay s = record { by = λ k. ap (λ n. going step n s) (zero-add k) ∙ sym (after_nothing (going step k s)) }

  -- one step is a stretch
  pub one_step : (s t : S) (es : List Effect) (c : ℕ) → step s ≡ Goes es c t → Leads step 1 es c s t
  one_step s t es c e = record { by = λ k. ap (λ n. going step n s) (one-add k) ∙ ap (λ o. continued o (going step k)) e }

  -- two stretches, one behind the other
  pub join : (n m : ℕ) (es fs : List Effect) (c d : ℕ) (s t u : S) → Leads step n es c s t → Leads step m fs d t u → Leads step (n + m) (es ++ fs) (c + d) s u
  join n m es fs c d s t u a b =
      record { by = λ k. ap (λ x. going step x s) (add_assoc n m k) ∙ a.by (m + k) ∙ ap (after_effects es c) (b.by k) ∙ after_after es fs c d (going step k u) }

  -- a stretch that comes to a stall
  pub join_stall : (n m : ℕ) (es fs : List Effect) (c d : ℕ) (s t : S) (price : ℕ) (x : X) → Leads step n es c s t → Stalls step m fs d t price x
      → Stalls step (n + m) (es ++ fs) (c + d) s price x
  join_stall n m es fs c d s t price x a b =
      record { by = λ k. ap (λ y. going step y s) (add_assoc n m (suc k)) ∙ a.by (m + suc k) ∙ ap (after_effects es c) (b.by k) }

  -- a step that stops is a stall
  pub stall : (s : S) (es : List Effect) (price : ℕ) (x : X) → step s ≡ Stops es price x → Stalls step 0 es 0 s price x
  stall s es price x e = record { by = λ k. ap (λ n. going step n s) (zero-add (suc k)) ∙ ap (λ o. continued o (going step k)) e }
