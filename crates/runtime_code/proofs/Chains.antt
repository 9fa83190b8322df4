-- Stretches of code one after another.
use Rattle.std.proofs.Common.{◌≡◌, ℕ, ◌+◌, List, [], ◌∷◌, ◌++◌, length, Some, Bool, not, true, if◌then◌else◌, refl, sym, ap, ◌∙◌, subst, arith}
use Rattle.code_forms.specs.alp_words.declared.Width.TheVariants.{Word}
use Rattle.code_forms.specs.alp_words.Words.{difference_of}
use Rattle.code_forms.specs.msp_isa.declared.operands.Konst.{Konst}
use Rattle.code_forms.specs.msp_isa.Constant.{constant_value}
use Rattle.code_forms.specs.msp_isa.declared.instructions.Condition.{Condition}
use Rattle.code_forms.specs.msp_isa.declared.instructions.Condition.TheVariants.{NotEqual}
use Rattle.runtime_effects.specs.msp_step.Effect.{word_sum, distance, is_met}
use Rattle.runtime_effects.specs.fram_board.Effects.{Effect}
use Rattle.runtime_effects.specs.machine_effects.Inputs.{Inputs}
use Rattle.runtime_effects.specs.machine_effects.World.{fram_after}
use Rattle.runtime_effects.specs.machine_effects.Going.{Goes, At, stretch}
use Rattle.runtime_effects.specs.machine_effects.Machine.{Code, IsPlace}
use Rattle.runtime_effects.proofs.machine_effects.Interface.{fram_after-append}
use Rattle.code_forms.specs.Forms.{Core, Form, Compare, Jump, Constant, instruction_of}
use Rattle.code_forms.specs.Code.{Stands, AreStraight, forms_run, forms_bytes, FormsNeed, IsTidy, rules_of, anywhere}
use Rattle.code_forms.proofs.Interface.{end_of, comes_on, straight_comes, form_comes}
use Rattle.runtime_code.specs.Counted.{over, size}
use Rattle.runtime_code.specs.Comes.{Comes, IsAt}

-- the state behind straight code
abbrev pub behind : List Form → Core → Core
behind ms u = end_of u (forms_run ms u).status

-- a state at an address, with this FRAM and these inputs
abbrev pub core_at : ℕ → (ℕ → ℕ) → Inputs → Core → Core
core_at p f l u = record u { pc = p; fram = f; inputs = l }

-- what code makes there it makes from each state that is said to be there
pub from_there : {code : Code} {es : List Effect} {n c p : ℕ} {f : ℕ → ℕ} {l : Inputs} {Q : Core → Type 0} (u : Core) → IsAt p f l u
    → Comes code es n c (core_at p f l u) Q → Comes code es n c u Q
from_there {code} {es} {n} {c} {Q = Q} u h a =
    let e = sym h.pc in let d = sym h.fram in let k = sym h.inputs in
    subst (λ v. Comes code es n c v Q) (λ i. record u { pc = e i; fram = d i; inputs = k i }) a

-- a stretch to a state that is known, where something holds of that
pub ends : {code : Code} {es : List Effect} {n c : ℕ} {u t : Core} {Q : Core → Type 0} → Comes code es n c u (λ v. v ≡ t) → Q t → Comes code es n c u Q
ends {Q = Q} a q = record { end = a.end; leads = a.leads; forms = a.forms; holds = subst Q (sym a.holds) q }

-- and another from there
pub then_on : {code : Code} {es fs : List Effect} {n k c d : ℕ} {u t : Core} {Q : Core → Type 0} → Comes code es n c u (λ v. v ≡ t)
    → Comes code fs k d t Q → Comes code (es ++ fs) (n + k) (c + d) u Q
then_on {code} {fs = fs} {k = k} {d = d} {Q = Q} a b = comes_on a (λ v e. subst (λ x. Comes code fs k d x Q) (sym e) b)

-- the same stretch, where more holds behind it
pub so_ends : {code : Code} {es : List Effect} {n c : ℕ} {u : Core} {P Q : Core → Type 0} → Comes code es n c u P → ((v : Core) → P v → Q v)
    → Comes code es n c u Q
so_ends a f = record { end = a.end; leads = a.leads; forms = a.forms; holds = f a.end a.holds }

-- its steps and cycles added up
pub recounted : {code : Code} {es : List Effect} {n k c d : ℕ} {u : Core} {P : Core → Type 0} → n ≡ k → c ≡ d → Comes code es n c u P → Comes code es k d u P
recounted {code} {es} {k = k} {c = c} {u = u} {P = P} e i a = subst (λ x. Comes code es k x u P) i (subst (λ x. Comes code es x c u P) e a)

-- two stretches on a FRAM
module _ {code : Code} {u : Core} {l : Inputs} where
  pub on_fram : {es fs : List Effect} {n k c d p q : ℕ} (f : ℕ → ℕ) → Comes code es n c u (IsAt p (fram_after es f) l)
      → ((v : Core) → IsAt p (fram_after es f) l v → Comes code fs k d v (IsAt q (fram_after fs (fram_after es f)) l))
      → Comes code (es ++ fs) (n + k) (c + d) u (IsAt q (fram_after (es ++ fs) f) l)
  on_fram {es} {fs} f a b =
      so_ends (comes_on a b) (λ v h. record { pc = h.pc; fram = h.fram ∙ sym (fram_after-append es fs f); inputs = h.inputs })

-- the same address by another sum
pub moved_to : {code : Code} {es : List Effect} {n c p q : ℕ} {f : ℕ → ℕ} {l : Inputs} {u : Core} → p ≡ q → Comes code es n c u (IsAt p f l)
    → Comes code es n c u (IsAt q f l)
moved_to e a = so_ends a (λ v h. record { pc = h.pc ∙ e; fram = h.fram; inputs = h.inputs })

module _ (code : Code) (tidy : IsTidy code) where
  -- straight code
  pub straight : (ms : List Form) (u : Core) → AreStraight ms → Stands code u.pc ms → FormsNeed (rules_of (anywhere code)) ms u → (forms_run ms u).status
      ≡ At (behind ms u)
      → Comes code (forms_run ms u).effects (length ms) (forms_run ms u).cycles u (λ v. v ≡ behind ms u)
  straight ms u st h w e =
      let r = forms_run ms u in
      straight_comes (anywhere code) tidy ms u (behind ms u) r.effects r.cycles (λ v. v ≡ behind ms u) st h w (ap (stretch r.effects r.cycles) e) refl

  -- a jump, by whether its condition is met
  pub jumps : (c : Condition) (o to next : ℕ) (b : Bool) (u : Core) → code.at u.pc ≡ Some (instruction_of (Jump c o)) → word_sum (u.pc + 2) (distance o) ≡ to
      → u.pc + 2 ≡ next → is_met c u.flags ≡ b → Comes code [] 1 2 u (λ v. v ≡ record u { pc = if b then to else next })
  jumps c o to next b u h there here met =
      form_comes (anywhere code) tidy (Jump c o) u (record u { pc = if b then to else next }) [] 2 (λ v. v ≡ record u { pc = if b then to else next }) h tt
      (ap (λ x. Goes [] 2 (record u { pc = if x then word_sum (u.pc + 2) (distance o) else u.pc + 2 })) met
      ∙ ap (λ x. Goes [] 2 (record u { pc = if b then x else u.pc + 2 })) there
      ∙ ap (λ x. Goes [] 2 (record u { pc = if b then to else x })) here)
      refl

  -- a word of FRAM is compared with a constant, and where it is another it goes on behind some forms
  module _ (k : Konst) (a p : ℕ) (ms : List Form) (word : IsPlace a) (h : Stands code p (Compare (Constant k) a ∷ over NotEqual ms ∷ []))
      (there : word_sum (p + 4 + 2) (distance (size ms)) ≡ p + (6 + forms_bytes ms)) where
    pub compares : (b : Bool) (f : ℕ → ℕ) (l : Inputs) (u : Core) → (difference_of Word (f a) (constant_value k) true).1.z ≡ b → IsAt p f l u
        → Comes code [] 2 6 u (IsAt (if not b then p + (6 + forms_bytes ms) else p + 6) f l)
    compares b f l u flag at =
        let s = core_at p f l u in
        let looked : List Form = Compare (Constant k) a ∷ [] in
        from_there u at (then_on (straight looked s (tt, tt) (h.0, tt) ((tt, word), tt) refl)
        (ends (jumps NotEqual (size ms) (p + (6 + forms_bytes ms)) (p + 6) (not b) (behind looked s) h.1.0 there (omega arith) (ap not flag))
        (record { pc = refl; fram = refl; inputs = refl })))
