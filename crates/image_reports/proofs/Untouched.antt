-- A word on which no step stores is, behind any charges, as it was in front of them.
use Rattle.image_reports.proofs.Names.{◌≡◌, ℕ, refl, ap, ◌∙◌, List, [], ◌∷◌, EachStore, going, MachineBoard, IsElsewhere, Marks, History, observe, behind_boot}
use Rattle.image_reports.proofs.Names.{Program, Charge, Charged, IsPoweredFrom, changed, elsewhere_same}
use Rattle.machine_effects.specs.Changes.{ChangesByEffects}

module _ (a : ℕ) (c : Program) (changes : (s : MachineBoard) → ChangesByEffects s (c.step s)) (marks : Marks) where
  -- wherever charges lead, a further one stores elsewhere
  abbrev pub NeverThere : MachineBoard → History → Type 0
  NeverThere s h = (es : List Charge) (t : MachineBoard) (k : History) → Charged c marks s h es t k → (p : MachineBoard) → c.IsPoweredUp p
      → IsPoweredFrom t p → (n : ℕ) → EachStore (IsElsewhere a) (going c.step n p).effects

  pub untouched : (es : List Charge) (s t : MachineBoard) (h k : History) → NeverThere s h → Charged c marks s h es t k → t.fram a ≡ s.fram a
  untouched [] s t h k never run = ap (λ u. u.fram a) run.0
  untouched (e ∷ es) s t h k never run =
      let q = run.2.0 in
      let p = e.powered in
      let made = (going c.step e.steps p).effects in
      let here : q.fram a ≡ s.fram a = ap (λ f. f a) (changed c.step changes e.steps p q run.2.1).fram
      ∙ elsewhere_same a made p.fram (never [] s h (refl, refl) p run.0 run.1 e.steps) ∙ ap (λ f. f a) run.1.fram in
      untouched es q t (observe marks made (behind_boot h)) k (λ fs u z more. never (e ∷ fs) u z (run.0, run.1, (q, run.2.1, more))) run.2.2 ∙ here
