-- Two machines that make the same step wherever a fact holds of the board: where it holds in front of each of so many steps of the one, the other makes
-- them too.
use Rattle.std.proofs.Common.{◌≡◌, ℕ, zero, suc, ◌+◌, ◌<◌, ◌≤◌, List, ◌++◌, refl, sym, ap, ◌∙◌, subst, arith, suc-add, zero-add, append-nil}
use Rattle.machine_effects.specs.msp_step.declared.machine.Stop.{Stop}
use Rattle.machine_effects.specs.fram_board.Effects.{Effect}
use Rattle.machine_effects.specs.Going.{Goes, Stops, Status, At, Halted, stretch, after_effects, continued, going, Leads, Stalls}
use Rattle.machine_effects.specs.Machine.{MachineBoard, MachineOutcome, MachineStretch}
use Rattle.machine_effects.proofs.Interface.{after_after, after_nothing}
use Rattle.code_forms.specs.Code.{OfState}

-- where the steps end
abbrev carry_on : Status MachineBoard Stop → List Effect → ℕ → (MachineBoard → MachineStretch) → MachineStretch
carry_on (At t) es c next = after_effects es c (next t)
carry_on (Halted price x) es c next = stretch es c (Halted price x)

carry_after : (es fs : List Effect) (c d : ℕ) (st : Status MachineBoard Stop) (next : MachineBoard → MachineStretch)
    → after_effects es c (carry_on st fs d next) ≡ carry_on st (es ++ fs) (c + d) next
carry_after es fs c d (At t) next = after_after es fs c d (next t)
carry_after es fs c d (Halted price x) next = refl

-- a fact of the board in front of each of so many steps
abbrev pub EachFront : (MachineBoard → MachineOutcome) → (MachineBoard → Type 0) → ℕ → MachineBoard → Type 0
EachFront step A n s = (k : ℕ) → k < n → OfState (going step k s).status A

module _ (other step : MachineBoard → MachineOutcome) (A : MachineBoard → Type 0) (same : (s : MachineBoard) → A s → other s ≡ step s) where
  front_behind : (n : ℕ) (s t : MachineBoard) (es : List Effect) (c : ℕ) → step s ≡ Goes es c t → EachFront step A (suc n) s → EachFront step A n t
  front_behind n s t es c e all k l = subst (λ o. OfState (continued o (going step k)).status A) e (all (suc k) (omega (arith, l)))

  same_by : (n k : ℕ) (s : MachineBoard) (o : MachineOutcome) → step s ≡ o → EachFront step A (suc n) s
      → ((t : MachineBoard) → EachFront step A n t → (let r = going step n t in
      going other (n + k) t ≡ carry_on r.status r.effects r.cycles (going other k)))
      → (let r = continued o (going step n) in continued o (going other (n + k)) ≡ carry_on r.status r.effects r.cycles (going other k))
  same_by n k s (Goes es c t) e all ih =
      let r = going step n t in
      ap (after_effects es c) (ih t (front_behind n s t es c e all)) ∙ carry_after es r.effects c r.cycles r.status (going other k)
  same_by n k s (Stops es price x) e all ih = refl

  -- so many steps are made alike, and then the other goes on
  same_then : (n k : ℕ) (s : MachineBoard) → EachFront step A n s → (let r = going step n s in
      going other (n + k) s ≡ carry_on r.status r.effects r.cycles (going other k))
  same_then zero k s all = ap (λ j. going other j s) (zero-add k) ∙ sym (after_nothing (going other k s))
  same_then (suc n) k s all =
      ap (λ j. going other j s) (suc-add n k)
      ∙ ap (λ o. continued o (going other (n + k))) (same s (all 0 (omega arith)))
      ∙ same_by n k s (step s) refl all (λ t rest. same_then n k t rest)

  going_by : (n : ℕ) (s : MachineBoard) (o : MachineOutcome) → step s ≡ o → EachFront step A (suc n) s
      → ((t : MachineBoard) → EachFront step A n t → going other n t ≡ going step n t) → continued o (going other n) ≡ continued o (going step n)
  going_by n s (Goes es c t) e all ih = ap (after_effects es c) (ih t (front_behind n s t es c e all))
  going_by n s (Stops es price x) e all ih = refl

  pub same_going : (n : ℕ) (s : MachineBoard) → EachFront step A n s → going other n s ≡ going step n s
  same_going zero s all = refl
  same_going (suc n) s all =
      ap (λ o. continued o (going other n)) (same s (all 0 (omega arith))) ∙ going_by n s (step s) refl all (λ t rest. same_going n t rest)

  -- the fact holds in front of each step of the other too
  pub fronts_so : (n : ℕ) (s : MachineBoard) → EachFront step A n s → EachFront other A n s
  fronts_so n s all k l =
      let q = same_going k s (λ j i. all j (omega (arith, i, l))) in subst (λ r. OfState r.status A) (sym q) (all k l)

  leads_there : (n c : ℕ) (es : List Effect) (s t : MachineBoard) → Leads step n es c s t → going step n s ≡ stretch es c (At t)
  leads_there n c es s t a =
      let none : n ≡ n + 0 = omega arith in
      let all : c + 0 ≡ c = omega arith in
      ap (λ j. going step j s) none ∙ a.by 0 ∙ ap (λ l. stretch l (c + 0) (At t)) (append-nil es) ∙ ap (λ d. stretch es d (At t)) all

  pub leads_so : (n c : ℕ) (es : List Effect) (s t : MachineBoard) → EachFront step A n s → Leads step n es c s t → Leads other n es c s t
  leads_so n c es s t all a = record {
    by = λ k. same_then n k s all ∙ ap (λ r. carry_on r.status r.effects r.cycles (going other k)) (leads_there n c es s t a);
  }

  pub stalls_so : (n c : ℕ) (es : List Effect) (s : MachineBoard) (price : ℕ) (x : Stop) → EachFront step A (suc n) s → Stalls step n es c s price x
      → Stalls other n es c s price x
  stalls_so n c es s price x all a = record {
    by = λ k.
        let one : n + suc k ≡ suc n + k = omega arith in
        let last : suc n ≡ n + suc 0 = omega arith in
        let there : going step (suc n) s ≡ stretch es c (Halted price x) = ap (λ j. going step j s) last ∙ a.by 0 in
        ap (λ j. going other j s) one ∙ same_then (suc n) k s all ∙ ap (λ r. carry_on r.status r.effects r.cycles (going other k)) there;
  }
