-- Steps of any machine, one after another.
use Rattle.std.proofs.Common.{◌≡◌, ℕ, zero, suc, ◌+◌, ◌≤◌, List, [], ◌++◌, refl, sym, ap, ap₂, ◌∙◌, subst, arith, append_assoc, append-nil}
use Rattle.std.proofs.Common.{suc-add, zero-add}
use Rattle.machine_effects.specs.fram_board.Effects.{Effect}
use Rattle.machine_effects.specs.World.{fram_after, IsPrefix}
use Rattle.machine_effects.specs.Inputs.{Inputs, TakesExactly}
use Rattle.machine_effects.specs.Going.{StepOutcome, Goes, Stops, At, Halted, Stretch, stretch, after_effects, continued, going, Leads, Stalls}
use Rattle.machine_effects.specs.Machine.{MachineBoard, MachineOutcome}
use Rattle.machine_effects.specs.Changes.{ChangesByEffects}
use Rattle.machine_effects.proofs.Interface.{after_after, fram_after-append, takes_nothing, takes_through}

-- nothing in front
after_nothing : {S X : Type 0} (r : Stretch S X) → r ≡ after_effects [] 0 r
after_nothing r = ap (λ c. stretch r.effects c r.status) (sym (zero-add r.cycles))

module _ {S X : Type 0} (step : S → StepOutcome S X) where
  -- a machine that is at a state after so many steps goes on from there
  goes_on_from : (n : ℕ) (o : StepOutcome S X) (q : S) → ((t : S) → (going step n t).status ≡ At q → (j : ℕ)
      → going step (n + j) t ≡ after_effects (going step n t).effects (going step n t).cycles (going step j q)) →
      (continued o (going step n)).status ≡ At q → (j : ℕ)
      → continued o (going step (n + j)) ≡ after_effects (continued o (going step n)).effects (continued o (going step n)).cycles (going step j q)
  goes_on_from n (Goes es c t) q ih h j = ap (after_effects es c) (ih t h j)
      ∙ after_after es (going step n t).effects c (going step n t).cycles (going step j q)
  goes_on_from n (Stops es price e) q ih h j = absurd cc

  -- going on from where a stretch ends
  pub goes_on : (n : ℕ) (s q : S) → (going step n s).status ≡ At q → (j : ℕ)
      → going step (n + j) s ≡ after_effects (going step n s).effects (going step n s).cycles (going step j q)
  goes_on zero s q h j =
      let e : s ≡ q = cc h in
      ap (λ k. going step k s) (zero-add j) ∙ ap (going step j) e ∙ after_nothing (going step j q)
  goes_on (suc n) s q h j = ap (λ k. going step k s) (suc-add n j) ∙ goes_on_from n (step s) q (λ t g i. goes_on n t q g i) h j

  -- a machine that has halted stays so
  halts_from : (n j : ℕ) (o : StepOutcome S X) (price : ℕ) (e : X) → ((t : S) → (going step n t).status ≡ Halted price e
      → going step (n + j) t ≡ going step n t) → (continued o (going step n)).status ≡ Halted price e
      → continued o (going step (n + j)) ≡ continued o (going step n)
  halts_from n j (Goes es c t) price e ih h = ap (after_effects es c) (ih t h)
  halts_from n j (Stops es p x) price e ih h = refl

  pub halts : (n j : ℕ) (s : S) (price : ℕ) (e : X) → (going step n s).status ≡ Halted price e → going step (n + j) s ≡ going step n s
  halts zero j s price e h = absurd cc
  halts (suc n) j s price e h = ap (λ k. going step k s) (suc-add n j) ∙ halts_from n j (step s) price e (λ t g. halts n j t price e g) h

  -- fewer steps show a part of the effects, and cost no more
  fewer_from : (n j : ℕ) (o : StepOutcome S X) → ((t : S) → IsPrefix (going step n t).effects (going step (n + j) t).effects
      × ((going step n t).cycles ≤ (going step (n + j) t).cycles)) →
      IsPrefix (continued o (going step n)).effects (continued o (going step (n + j))).effects
      × ((continued o (going step n)).cycles ≤ (continued o (going step (n + j))).cycles)
  fewer_from n j (Goes es c t) ih =
      let h = ih t in let k = h.1 in
      (record { rest = h.0.rest; joins = append_assoc es (going step n t).effects h.0.rest ∙ ap (λ l. es ++ l) h.0.joins }, omega (arith, k))
  fewer_from n j (Stops es price e) ih = (record { rest = []; joins = append-nil es }, omega arith)

  pub fewer : (n j : ℕ) (s : S) → IsPrefix (going step n s).effects (going step (n + j) s).effects × ((going step n s).cycles ≤ (going step (n + j) s).cycles)
  fewer zero j s = (record { rest = (going step (zero + j) s).effects; joins = refl }, omega arith)
  fewer (suc n) j s =
      subst (λ k. IsPrefix (going step (suc n) s).effects (going step k s).effects × ((going step (suc n) s).cycles ≤ (going step k s).cycles))
      (sym (suc-add n j)) (fewer_from n j (step s) (λ t. fewer n j t))

  -- a stretch, and where it leads
  pub leads_there : (n : ℕ) (es : List Effect) (c : ℕ) (s t : S) → Leads step n es c s t → (j : ℕ) → going step (n + j) s ≡ after_effects es c (going step j t)
  leads_there n es c s t l j = l.by j

  pub leads_end : (n : ℕ) (es : List Effect) (c : ℕ) (s t : S) → Leads step n es c s t → going step n s ≡ stretch es c (At t)
  leads_end n es c s t l =
      let e : n ≡ n + 0 = omega arith in
      let k : c + 0 ≡ c = omega arith in
      ap (λ j. going step j s) e ∙ l.by 0 ∙ ap₂ (λ x y. stretch x y (At t)) (append-nil es) k

  pub stalls_end : (n : ℕ) (es : List Effect) (c : ℕ) (s : S) (price : ℕ) (e : X) → Stalls step n es c s price e → (j : ℕ)
      → going step (n + 1 + j) s ≡ stretch es c (Halted price e)
  stalls_end n es c s price e l j =
      let i : n + 1 + j ≡ n + suc j = omega arith in ap (λ k. going step k s) i ∙ l.by j

  -- no steps make nothing
  pub no_steps : (n : ℕ) (es : List Effect) (c : ℕ) (s t : S) → n ≡ 0 → Leads step n es c s t → es ≡ []
  no_steps n es c s t z l = sym (ap (λ r. r.effects) (leads_end n es c s t l)) ∙ ap (λ k. (going step k s).effects) z

-- what effects make of FRAM and the inputs
pub record Changed (s : MachineBoard) (es : List Effect) (t : MachineBoard) : Type 0 where
  pub fram : t.fram ≡ fram_after es s.fram
  pub inputs : TakesExactly es s.inputs t.inputs

module _ (step : MachineBoard → MachineOutcome) (changes : (s : MachineBoard) → ChangesByEffects s (step s)) where
  changed_from : (n : ℕ) (s q : MachineBoard) (o : MachineOutcome) → ChangesByEffects s o
      → ((t : MachineBoard) → (going step n t).status ≡ At q → Changed t (going step n t).effects q) → (continued o (going step n)).status ≡ At q
      → Changed s (continued o (going step n)).effects q
  changed_from n s q (Goes es c t) h ih e =
      let k = ih t e in let fs = (going step n t).effects in
      record {
        fram = k.fram ∙ ap (fram_after fs) h.0 ∙ sym (fram_after-append es fs s.fram);
        inputs = takes_through es fs s.inputs t.inputs q.inputs h.1 k.inputs;
      }
  changed_from n s q (Stops es price x) h ih e = absurd cc

  -- so many steps take exactly what their effects tell, also where the machine halts
  taken_from : (n : ℕ) (s : MachineBoard) (o : MachineOutcome) → ChangesByEffects s o
      → ((t : MachineBoard) → (left : Inputs) × TakesExactly (going step n t).effects t.inputs left)
      → (left : Inputs) × TakesExactly (continued o (going step n)).effects s.inputs left
  taken_from n s (Goes es c t) h ih = let k = ih t in (k.0, takes_through es (going step n t).effects s.inputs t.inputs k.0 h.1 k.1)
  taken_from n s (Stops es price x) h ih = h.1

  pub taken_by : (n : ℕ) (s : MachineBoard) → (left : Inputs) × TakesExactly (going step n s).effects s.inputs left
  taken_by zero s = (s.inputs, takes_nothing s.inputs)
  taken_by (suc n) s = taken_from n s (step s) (changes s) (λ t. taken_by n t)

  -- any number of steps changes FRAM and the inputs by its effects
  pub changed : (n : ℕ) (s q : MachineBoard) → (going step n s).status ≡ At q → Changed s (going step n s).effects q
  changed zero s q e =
      let h : s ≡ q = cc e in subst (Changed s []) h (record { fram = refl; inputs = takes_nothing s.inputs })
  changed (suc n) s q e = changed_from n s q (step s) (changes s) (λ t g. changed n t q g) e
