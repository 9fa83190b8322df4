-- What a word of FRAM holds at most, by what is stored there.
use Rattle.std.proofs.Common.{◌≡◌, ◌≤◌, ◌==◌, if◌then◌else◌, ℕ, refl, sym, subst, Bool, true, false, cond, eqb-true, List, [], ◌∷◌}
use Rattle.fram_board.specs.Effects.{Effect, Store, Take, Outside}
use Rattle.machine_effects.specs.World.{fram_after, EachStore}
use Rattle.machine_effects.specs.Going.{going}
use Rattle.machine_effects.specs.Machine.{MachineBoard}
use Rattle.machine_effects.specs.Runs.{last_board}
use Rattle.crash_rules.specs.Model.{Model, Marks}
use Rattle.crash_rules.specs.History.{History, observe, behind_boot, first_history}
use Rattle.crash_rules.specs.Runs.{Program, Charge, IsPoweredFrom, Charged}
use Rattle.crash_rules.proofs.Interface.{changed, stores_only}
use Rattle.machine_effects.specs.Changes.{ChangesByEffects}
use Rattle.run_charges.specs.View.{outside_of}
use Rattle.run_charges.proofs.Interface.{run_front}
use Rattle.model_runs.specs.Runs.{history_behind}
use Rattle.model_runs.specs.Laws.{WordsStayWithin}
use Rattle.model_runs.proofs.Fronts.{runs_so, at_front, powers_up}

module _ (P : ℕ → ℕ → Type 0) (a most : ℕ) (few : (w : ℕ) → P a w → w ≤ most) where
  put_within : (f : ℕ → ℕ) (d w : ℕ) → P d w → f a ≤ most → (if a == d then w else f a) ≤ most
  put_within f d w p h = by (a == d) refl
    where
      by : (t : Bool) → (a == d) ≡ t → cond t w (f a) ≤ most
      by true e = let Q : ℕ → Type 0 = λ k. P k w in few w (subst Q (sym (eqb-true a d e)) p)
      by false e = h

  after_within : (es : List Effect) (f : ℕ → ℕ) → EachStore P es → f a ≤ most → fram_after es f a ≤ most
  after_within [] f s h = h
  after_within (Store d w ∷ es) f s h = after_within es _ s.1 (put_within f d w s.0 h)
  after_within (Take w ∷ es) f s h = after_within es f s.1 h
  after_within (Outside o ∷ es) f s h = after_within es f s.1 h

  -- wherever charges lead, a further one stores so
  abbrev StoresSo : Program → Marks → MachineBoard → History → Type 0
  StoresSo c marks s h = (es : List Charge) (t : MachineBoard) (k : History) → Charged c marks s h es t k → (p : MachineBoard) → c.IsPoweredUp p
      → IsPoweredFrom t p → (n : ℕ) → EachStore P (going c.step n p).effects

  module _ (c : Program) (changes : (s : MachineBoard) → ChangesByEffects s (c.step s)) (marks : Marks) where
    charges_within : (es : List Charge) (s t : MachineBoard) (h k : History) → StoresSo c marks s h → Charged c marks s h es t k → s.fram a ≤ most
        → t.fram a ≤ most
    charges_within [] s t h k stores run l = let Q : MachineBoard → Type 0 = λ u. u.fram a ≤ most in subst Q (sym run.0) l
    charges_within (e ∷ es) s t h k stores run l =
        let q = run.2.0 in
        let p = e.powered in
        let made = (going c.step e.steps p).effects in
        let Q : (ℕ → ℕ) → Type 0 = λ f. f a ≤ most in
        let here : q.fram a ≤ most = subst Q (sym (changed c.step changes e.steps p q run.2.1).fram)
        (after_within made p.fram (stores [] s h (refl, refl) p run.0 run.1 e.steps) (subst Q (sym run.1.fram) l)) in
        charges_within es q t (observe marks made (behind_boot h)) k
        (λ fs u z more. stores (e ∷ fs) u z (run.0, run.1, (q, run.2.1, more))) run.2.2 here

-- a word stays within its bound at each front
pub words_stay_within : {St : Type 0} (m : Model St) (c : Program) (P : ℕ → ℕ → Type 0) → WordsStayWithin m c P
words_stay_within m c P readings origin x cs b r run bears scripts a most few first ms rest e =
    let at = at_front m c readings origin x b bears ms (run_front cs b r ms rest (runs_so m c readings origin x b bears cs r run) e) in
    let Q : (ℕ → ℕ) → Type 0 = λ f. f a ≤ most in
    subst Q at.fram (charges_within P a most few c bears.program.changes m.marks at.charges (outside_of b) at.end
    (first_history m.marks x) (history_behind m x ms)
    (λ es t k charged p up from n. stores_only m c P bears.model bears.program scripts readings origin p
    (powers_up m c readings origin x b bears es t k charged p up from) n)
    at.charged (subst Q (sym bears.begins.fram) first))
