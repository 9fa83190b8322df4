-- A machine that goes astray where SP isn't between the addresses of the place in code where it stands: code by itself whose boards keep to these does
-- under watch, in all code that it is a part of, what it does by itself.
use Rattle.std.proofs.Common.{◌≡◌, ◌<◌, ◌≤◌, ◌+◌, ℕ, suc, List, [], ◌∷◌, length, Bool, true, false, if◌then◌else◌, Some, None, refl, ap, ◌∙◌, sym, arith}
use Rattle.machine_effects.specs.msp_isa.declared.instructions.Instr.{Instr}
use Rattle.machine_effects.specs.msp_step.declared.machine.Stop.{Stop}
use Rattle.machine_effects.specs.msp_step.Registers.{Registers}
use Rattle.machine_effects.specs.fram_board.Effects.{Effect}
use Rattle.machine_effects.specs.msp_isa.Encoding.{encoding}
use Rattle.machine_effects.specs.Going.{Status, At, Halted, Stops, going, Leads, Stalls}
use Rattle.machine_effects.specs.Machine.{Code, MachineBoard, MachineOutcome, exec, step_with, undisturbed, astray}
use Rattle.code_forms.specs.Forms.{Core, board_of, Form, instruction_of, form_bytes, IsKept}
use Rattle.code_forms.specs.Code.{Stands, forms_bytes, IsTidy, KeptCode, rules_of, IsAtKept, OfState, StepsAreKept}
use Rattle.code_forms.specs.Watch.{watched, IsPart, only_at}
use Rattle.code_forms.proofs.Placed.{bytes_are}
use Rattle.code_forms.proofs.Stacks.{forms_keep_the_stack}
use Rattle.code_forms.proofs.Agreeing as agreeing
use Rattle.code_forms.proofs.Agreeing.{EachFront}

-- a board at a form of a part, where SP may stand as it does
pub record MayStand (may : Registers → Bool) (part : KeptCode) (s : MachineBoard) : Type 0 where
  pub at : IsAtKept part s
  pub may_be : may s.registers ≡ true

module _ (may : Registers → Bool) (whole : Code) (part : KeptCode) (is_part : IsPart part.code whole) where
  abbrev under_watch : MachineBoard → MachineOutcome
  under_watch = watched may (exec whole)

  -- at such a board both step alike
  same_step : (s : MachineBoard) → MayStand may part s → under_watch s ≡ exec part.code s
  same_step s k =
      let at : s.registers 0 ≡ k.at.core.pc = ap (λ x. x.registers 0) k.at.is in
      let one : part.code.at (s.registers 0) ≡ Some (instruction_of k.at.form) = ap part.code.at at ∙ k.at.stands in
      let other : whole.at (s.registers 0) ≡ Some (instruction_of k.at.form) = is_part.at (s.registers 0) (instruction_of k.at.form) one in
      ap (λ b. if b then exec whole s else Stops [] 0 (astray s)) k.may_be
      ∙ ap (λ o. undisturbed whole.events s (step_with o s)) other
      ∙ ap (λ b. undisturbed b s (step_with (Some (instruction_of k.at.form)) s)) (sym is_part.events)
      ∙ sym (ap (λ o. undisturbed part.code.events s (step_with o s)) one)

  pub leads_watched : (n c : ℕ) (es : List Effect) (s t : MachineBoard) → EachFront (exec part.code) (MayStand may part) n s
      → Leads (exec part.code) n es c s t → Leads under_watch n es c s t
  leads_watched = agreeing.leads_so under_watch (exec part.code) (MayStand may part) same_step

  pub stalls_watched : (n c : ℕ) (es : List Effect) (s : MachineBoard) (price : ℕ) (x : Stop) → EachFront (exec part.code) (MayStand may part) (suc n) s
      → Stalls (exec part.code) n es c s price x → Stalls under_watch n es c s price x
  stalls_watched = agreeing.stalls_so under_watch (exec part.code) (MayStand may part) same_step

-- ---- the front of each of so many steps

module _ (may : Registers → Bool) (part : KeptCode) (u : Core) where
  each_may : (st : Status MachineBoard Stop) → OfState st (IsAtKept part) → ((s : MachineBoard) → IsAtKept part s → may s.registers ≡ true)
      → OfState st (MayStand may part)
  each_may (At s) at may_be = record { at = at; may_be = may_be s at }
  each_may (Halted price x) at may_be = tt

  -- where it may stand so at each form of the part
  pub fronts_may : (n : ℕ) → StepsAreKept part n u → ((s : MachineBoard) → IsAtKept part s → may s.registers ≡ true)
      → EachFront (exec part.code) (MayStand may part) n (board_of u)
  fronts_may n forms may_be k l = each_may (going (exec part.code) k (board_of u)).status (forms k l) may_be

  each_on_stack : (st : Status MachineBoard Stop) → OfState st (IsAtKept part) → OfState st (λ s. IsKept (rules_of part) (s.registers 1))
      → ((s : MachineBoard) → IsAtKept part s → IsKept (rules_of part) (s.registers 1) → may s.registers ≡ true) → OfState st (MayStand may part)
  each_on_stack (At s) at kept may_be = record { at = at; may_be = may_be s at kept }
  each_on_stack (Halted price x) at kept may_be = tt

  -- where it may stand so with SP in the stack of the part
  pub fronts_on_stack : (n : ℕ) → IsTidy part.code → StepsAreKept part n u → IsKept (rules_of part) u.sp
      → ((s : MachineBoard) → IsAtKept part s → IsKept (rules_of part) (s.registers 1) → may s.registers ≡ true)
      → EachFront (exec part.code) (MayStand may part) n (board_of u)
  fronts_on_stack n tidy forms stack may_be k l =
      each_on_stack (going (exec part.code) k (board_of u)).status (forms k l) (forms_keep_the_stack part n u tidy forms stack k (omega (arith, l))) may_be

-- ---- the part of code that stands at such addresses

module _ (there : ℕ → Bool) (code : Code) where
  some_bytes : (m : Form) → 0 < form_bytes m
  some_bytes m = let e = bytes_are m in omega (arith, e, some_word (instruction_of m))
    where
      some_word : (i : Instr) → 0 < length (encoding i)
      some_word i = grind arith

  pub stands_only : (p : ℕ) (ms : List Form) → ((a : ℕ) → p ≤ a → a < p + forms_bytes ms → there a ≡ true) → Stands code p ms
      → Stands (only_at there code) p ms
  stands_only p [] all h = tt
  stands_only p (m ∷ ms) all h =
      let some = some_bytes m in (
        ap (λ b. if b then code.at p else None) (all p (omega arith) (omega (arith, some))) ∙ h.0,
        stands_only (p + form_bytes m) ms (λ a low high. all a (omega (arith, low)) (omega (arith, high))) h.1,
      )

  only_by : (a : ℕ) (i : Instr) (b : Bool) → (if b then code.at a else None) ≡ Some i → (b ≡ true) × (code.at a ≡ Some i)
  only_by a i true e = (refl, e)
  only_by a i false e = absurd (let no : None ≡ Some i = e in cc)

  -- what stands there does so at such an address
  pub only_there : (a : ℕ) (i : Instr) → (only_at there code).at a ≡ Some i → there a ≡ true
  only_there a i e = (only_by a i (there a) e).0

  pub only_is_part : IsPart (only_at there code) code
  only_is_part = record { at = λ a i e. (only_by a i (there a) e).1; events = refl }

  pub only_is_tidy : IsTidy code → IsTidy (only_at there code)
  only_is_tidy tidy p i e = tidy p i (only_by p i (there p) e).1
