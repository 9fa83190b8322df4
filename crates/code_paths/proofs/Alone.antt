-- Code alone, with no other code around it: what it does there, it does in all code that it is a part of.
use Rattle.std.proofs.Common.{◌≡◌, ℕ, zero, suc, ◌+◌, ◌*◌, ◌<◌, ◌≤◌, ◌==◌, Bool, true, false, if◌then◌else◌, List, [], ◌∷◌, ◌++◌, length, Some}
use Rattle.std.proofs.Common.{refl, sym, ap, ◌∙◌, subst, arith, suc-add, zero-add, append-nil, eqb-true}
use Rattle.code_forms.specs.msp_isa.declared.instructions.Instr.{Instr}
use Rattle.code_forms.specs.msp_isa.Encoding.{encoding}
use Rattle.machine_effects.specs.msp_step.declared.machine.Stop.{Stop}
use Rattle.machine_effects.specs.fram_board.Effects.{Effect}
use Rattle.machine_effects.specs.Going.{Goes, Stops, Status, At, Halted, stretch, after_effects, continued, going, Leads, Stalls}
use Rattle.machine_effects.specs.Machine.{MachineBoard, MachineOutcome, MachineStretch, Code, exec, step_with, undisturbed}
use Rattle.machine_effects.proofs.Interface.{after_after, after_nothing}
use Rattle.code_forms.specs.Forms.{Core, board_of, Form, instruction_of, form_bytes}
use Rattle.code_forms.specs.Code.{Stands, IsTidy, KeptCode, IsAtKept, OfState}
use Rattle.code_forms.specs.Placed.{placed, placed_at, instructions}
use Rattle.code_forms.proofs.Interface.{bytes_are, forms_stand}

-- a board stands at forms in front of each of so many steps
abbrev pub AtForms : KeptCode → ℕ → MachineBoard → Type 0
AtForms kept n s = (k : ℕ) → k < n → OfState (going (exec kept.code) k s).status (IsAtKept kept)

-- where the steps end
abbrev pub carry_on : Status MachineBoard Stop → List Effect → ℕ → (MachineBoard → MachineStretch) → MachineStretch
carry_on (At t) es c next = after_effects es c (next t)
carry_on (Halted price x) es c next = stretch es c (Halted price x)

carry_after : (es fs : List Effect) (c d : ℕ) (st : Status MachineBoard Stop) (next : MachineBoard → MachineStretch)
    → after_effects es c (carry_on st fs d next) ≡ carry_on st (es ++ fs) (c + d) next
carry_after es fs c d (At t) next = after_after es fs c d (next t)
carry_after es fs c d (Halted price x) next = refl

-- in front of the steps behind the first one
pub forms_behind_step : (kept : KeptCode) (n : ℕ) (s t : MachineBoard) (es : List Effect) (c : ℕ) → exec kept.code s ≡ Goes es c t → AtForms kept (suc n) s
    → AtForms kept n t
forms_behind_step kept n s t es c e all k l =
    subst (λ o. OfState (continued o (going (exec kept.code) k)).status (IsAtKept kept)) e (all (suc k) (omega (arith, l)))

-- in front of the first one
pub first_form : (kept : KeptCode) (n : ℕ) (s : MachineBoard) → AtForms kept (suc n) s → IsAtKept kept s
first_form kept n s all = all 0 (omega arith)

-- of fewer steps
pub fewer_forms : (kept : KeptCode) (n m : ℕ) (s : MachineBoard) → m ≤ n → AtForms kept n s → AtForms kept m s
fewer_forms kept n m s l all k j = all k (omega (arith, l, j))

-- ---- forms that stand somewhere, placed there alone

stands_by : (code : Code) (p : ℕ) (m : Form) (ms : List Form) (a : ℕ) (i : Instr) (b : Bool) → (a == p) ≡ b → Stands code p (m ∷ ms)
    → (if b then Some (instruction_of m) else placed_at (p + 2 * length (encoding (instruction_of m))) (instructions ms) a) ≡ Some i
    → (placed_at (p + form_bytes m) (instructions ms) a ≡ Some i → code.at a ≡ Some i) → code.at a ≡ Some i
stands_by code p m ms a i true e h q rest = ap code.at (eqb-true a p e) ∙ h.0 ∙ q
stands_by code p m ms a i false e h q rest = rest (ap (λ n. placed_at (p + n) (instructions ms) a) (sym (bytes_are m)) ∙ q)

-- an instruction of theirs is one of the code
pub is_part : (code : Code) (p : ℕ) (ms : List Form) (a : ℕ) (i : Instr) → Stands code p ms → placed_at p (instructions ms) a ≡ Some i → code.at a ≡ Some i
is_part code p [] a i h q = absurd (cc q)
is_part code p (m ∷ ms) a i h q = stands_by code p m ms a i (a == p) refl h q (λ r. is_part code (p + form_bytes m) ms a i h.1 r)

pub tidy_alone : (code : Code) (p : ℕ) (ms : List Form) → IsTidy code → Stands code p ms → IsTidy (placed code.events p (instructions ms))
tidy_alone code p ms tidy h a i q = tidy a i (is_part code p ms a i h q)

pub stands_alone : (events : Bool) (p : ℕ) (ms : List Form) → Stands (placed events p (instructions ms)) p ms
stands_alone events p ms = forms_stand events ms p

module _ (kept : KeptCode) (p : ℕ) (ms : List Form) (h : Stands kept.code p ms) where
  abbrev code : Code
  code = kept.code

  abbrev alone : Code
  alone = placed code.events p (instructions ms)

  -- SP staying where it does
  abbrev apart : KeptCode
  apart = record kept { code = alone }

  -- at a form of theirs both step alike
  same_at : (s : MachineBoard) (u : Core) (m : Form) → s ≡ board_of u → alone.at u.pc ≡ Some (instruction_of m) → exec code s ≡ exec alone s
  same_at s u m e q =
      let at : s.registers 0 ≡ u.pc = ap (λ x. x.registers 0) e in
      let one : alone.at (s.registers 0) ≡ Some (instruction_of m) = ap alone.at at ∙ q in
      let other : code.at (s.registers 0) ≡ Some (instruction_of m) = is_part code p ms (s.registers 0) (instruction_of m) h one in
      ap (λ o. undisturbed code.events s (step_with o s)) other ∙ sym (ap (λ o. undisturbed code.events s (step_with o s)) one)

  same_step : (s : MachineBoard) → IsAtKept apart s → exec code s ≡ exec alone s
  same_step s k = same_at s k.core k.form k.is k.stands

  same_by : (n k : ℕ) (s : MachineBoard) (o : MachineOutcome) → exec alone s ≡ o → AtForms apart (suc n) s
      → ((t : MachineBoard) → AtForms apart n t → (let r = going (exec alone) n t in
      going (exec code) (n + k) t ≡ carry_on r.status r.effects r.cycles (going (exec code) k)))
      → (let r = continued o (going (exec alone) n) in
      continued o (going (exec code) (n + k)) ≡ carry_on r.status r.effects r.cycles (going (exec code) k))
  same_by n k s (Goes es c t) e all ih =
      let r = going (exec alone) n t in
      ap (after_effects es c) (ih t (forms_behind_step apart n s t es c e all)) ∙ carry_after es r.effects c r.cycles r.status (going (exec code) k)
  same_by n k s (Stops es price x) e all ih = refl

  -- so many steps at forms of theirs are made alike, and then the code goes on
  same_then : (n k : ℕ) (s : MachineBoard) → AtForms apart n s → (let r = going (exec alone) n s in
      going (exec code) (n + k) s ≡ carry_on r.status r.effects r.cycles (going (exec code) k))
  same_then zero k s all = ap (λ j. going (exec code) j s) (zero-add k) ∙ sym (after_nothing (going (exec code) k s))
  same_then (suc n) k s all =
      ap (λ j. going (exec code) j s) (suc-add n k)
      ∙ ap (λ o. continued o (going (exec code) (n + k))) (same_step s (first_form apart n s all))
      ∙ same_by n k s (exec alone s) refl all (λ t rest. same_then n k t rest)

  going_by : (n : ℕ) (s : MachineBoard) (o : MachineOutcome) → exec alone s ≡ o → AtForms apart (suc n) s
      → ((t : MachineBoard) → AtForms apart n t → going (exec code) n t ≡ going (exec alone) n t)
      → continued o (going (exec code) n) ≡ continued o (going (exec alone) n)
  going_by n s (Goes es c t) e all ih = ap (after_effects es c) (ih t (forms_behind_step apart n s t es c e all))
  going_by n s (Stops es price x) e all ih = refl

  same_going : (n : ℕ) (s : MachineBoard) → AtForms apart n s → going (exec code) n s ≡ going (exec alone) n s
  same_going zero s all = refl
  same_going (suc n) s all =
      ap (λ o. continued o (going (exec code) n)) (same_step s (first_form apart n s all))
      ∙ going_by n s (exec alone s) refl all (λ t rest. same_going n t rest)

  form_there : (s : MachineBoard) → IsAtKept apart s → IsAtKept kept s
  form_there s k = record {
    form = k.form;
    core = k.core;
    is = k.is;
    stands = is_part code p ms k.core.pc (instruction_of k.form) h k.stands;
    needs = k.needs;
  }

  of_state : (st : Status MachineBoard Stop) → OfState st (IsAtKept apart) → OfState st (IsAtKept kept)
  of_state (At s) k = form_there s k
  of_state (Halted price x) k = tt

  pub forms_there : (n : ℕ) (s : MachineBoard) → AtForms apart n s → AtForms kept n s
  forms_there n s all k l =
      let q = same_going k s (fewer_forms apart n k s (omega (arith, l)) all) in
      subst (λ r. OfState r.status (IsAtKept kept)) (sym q) (of_state (going (exec alone) k s).status (all k l))

  -- where the steps lead, without more behind them
  leads_there : (n c : ℕ) (es : List Effect) (s t : MachineBoard) → Leads (exec alone) n es c s t → going (exec alone) n s ≡ stretch es c (At t)
  leads_there n c es s t a =
      let none : n ≡ n + 0 = omega arith in
      let all : c + 0 ≡ c = omega arith in
      ap (λ j. going (exec alone) j s) none ∙ a.by 0 ∙ ap (λ l. stretch l (c + 0) (At t)) (append-nil es) ∙ ap (λ d. stretch es d (At t)) all

  pub leads_so : (n c : ℕ) (es : List Effect) (s t : MachineBoard) → AtForms apart n s → Leads (exec alone) n es c s t → Leads (exec code) n es c s t
  leads_so n c es s t all a = record {
    by = λ k. same_then n k s all ∙ ap (λ r. carry_on r.status r.effects r.cycles (going (exec code) k)) (leads_there n c es s t a);
  }

  pub stalls_so : (n c : ℕ) (es : List Effect) (s : MachineBoard) (price : ℕ) (x : Stop) → AtForms apart (suc n) s
      → Stalls (exec alone) n es c s price x → Stalls (exec code) n es c s price x
  stalls_so n c es s price x all a = record {
    by = λ k.
        let one : n + suc k ≡ suc n + k = omega arith in
        let last : suc n ≡ n + suc 0 = omega arith in
        let there : going (exec alone) (suc n) s ≡ stretch es c (Halted price x) = ap (λ j. going (exec alone) j s) last ∙ a.by 0 in
        ap (λ j. going (exec code) j s) one ∙ same_then (suc n) k s all ∙ ap (λ r. carry_on r.status r.effects r.cycles (going (exec code) k)) there;
  }
