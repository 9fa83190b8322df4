-- Where forms have what they need, SP stays between the addresses of their code.
use Rattle.std.proofs.Common.{◌≡◌, ℕ, zero, suc, ◌+◌, ◌<◌, List, [], ◌∷◌, Some, arith, sym, ap, ◌∙◌, subst}
use Rattle.machine_effects.specs.fram_board.Effects.{Effect}
use Rattle.machine_effects.specs.Going.{Goes, Stops, continued, going}
use Rattle.machine_effects.specs.Machine.{Code, MachineBoard, MachineOutcome, exec}
use Rattle.code_forms.specs.Forms.{WorkRegister, Core, CoreOutcome, board_of, outcome_of_core, CodeRules, IsKept}
use Rattle.code_forms.specs.Forms.{Source, Register, Number, Constant, Fram, Ram, Pointed, PointedNext, Indexed, Popped, StackNext, Head, Slot}
use Rattle.code_forms.specs.Forms.{source_read, source_effects, source_value, source_bytes, SourceNeeds, behind_source}
use Rattle.code_forms.specs.Forms.{Target, ToRegister, ToFram, ToRam, ToIndexed, ToPointed, ToOutnum, ToOutdata, target_written, target_bytes, sensed}
use Rattle.code_forms.specs.Forms.{Form, Move, Calculate, Compare, Update, Push, Modify, SetStack, Sense, Jump, Skip, Branch, BranchIndexed, SkipBy}
use Rattle.code_forms.specs.Forms.{EnableInterrupts, Call, Return, KeepStack, RestoreStack, form_step, FormNeeds}
use Rattle.code_forms.specs.Code.{OfNext, OfState, IsTidy, KeptCode, rules_of, IsAtKept}
use Rattle.code_forms.specs.Laws.{FormsKeepTheStack}
use Rattle.code_forms.proofs.Blocks.{does}

module _ (rules : CodeRules) where
  abbrev StackStays : Core → Type 0
  StackStays t = IsKept rules t.sp

  source_stays : (x : Source) (u : Core) → SourceNeeds rules x u → StackStays u → StackStays (source_read x u)
  source_stays (Register b) u h i = i
  source_stays (Number n) u h i = i
  source_stays (Constant k) u h i = i
  source_stays (Fram a) u h i = i
  source_stays (Ram a) u h i = i
  source_stays (Pointed b) u h i = i
  source_stays (PointedNext b) u h i = i
  source_stays (Indexed b x) u h i = i
  source_stays Popped u h i = h.2
  source_stays (StackNext b) u h i = i
  source_stays Head u h i = i
  source_stays (Slot b) u h i = i

  written_stays : (y : Target) (c v : ℕ) (t : Core) → StackStays t → OfNext (target_written y c v t) StackStays
  written_stays (ToRegister b) c v t i = i
  written_stays (ToFram a) c v t i = i
  written_stays (ToRam a) c v t i = i
  written_stays (ToIndexed b x) c v t i = i
  written_stays (ToPointed b) c v t i = i
  written_stays ToOutnum c v t i = i
  written_stays ToOutdata c v t i = i

  stays_behind : (es : List Effect) (o : CoreOutcome) → OfNext o StackStays → OfNext (behind_source es o) StackStays
  stays_behind es (Goes [] c u) i = i
  stays_behind es (Goes (f ∷ fs) c u) i = i
  stays_behind es (Stops fs price e) i = tt

  sensed_stays : (ws : List ℕ) (b : WorkRegister) (u : Core) → StackStays u → OfNext (sensed ws b u) StackStays
  sensed_stays [] b u i = tt
  sensed_stays (w ∷ ws) b u i = i

  form_stays : (m : Form) (u : Core) → FormNeeds rules m u → StackStays u → OfNext (form_step m u) StackStays
  form_stays (Move x y) u h i =
      let t : Core = record (source_read x u) { pc = u.pc + (2 + source_bytes x + target_bytes y) } in
      stays_behind (source_effects x u) (target_written y _ (source_value x u) t)
      (written_stays y _ (source_value x u) t (source_stays x u h.0 i))
  form_stays (Calculate op x b) u h i = source_stays x u h.1 i
  form_stays (Compare x a) u h i = source_stays x u h.0 i
  form_stays (Update op x a) u h i = source_stays x u h.2 i
  form_stays (Push x) u h i = h.1.below
  form_stays (Modify m b) u h i = i
  form_stays (SetStack n) u h i = h.2
  form_stays EnableInterrupts u h i = i
  form_stays (Sense b) u h i = sensed_stays u.inputs.readings b u i
  form_stays (Jump c o) u h i = i
  form_stays (Skip n) u h i = i
  form_stays (Branch a) u h i = i
  form_stays (BranchIndexed b x) u h i = i
  form_stays (SkipBy b) u h i = i
  form_stays (Call a) u h i = h.1.below
  form_stays Return u h i = h.3
  form_stays (KeepStack b) u h i = i
  form_stays RestoreStack u h i = h.4

module _ (kept : KeptCode) (tidy : IsTidy kept.code) where
  abbrev code : Code
  code = kept.code

  abbrev OnStack : MachineBoard → Type 0
  OnStack s = IsKept (rules_of kept) (s.registers 1)

  -- a board stands at forms in front of each of so many steps
  abbrev AtForms : ℕ → MachineBoard → Type 0
  AtForms n s = (k : ℕ) → k < n → OfState (going (exec code) k s).status (IsAtKept kept)

  -- so it is behind a step
  abbrev AtFormsBehind : ℕ → MachineOutcome → Type 0
  AtFormsBehind n o = (k : ℕ) → k < n → OfState (continued o (going (exec code) k)).status (IsAtKept kept)

  steps_on : (n : ℕ) (o : CoreOutcome) → OfNext o (StackStays (rules_of kept)) → AtFormsBehind n (outcome_of_core o)
      → ((t : Core) → StackStays (rules_of kept) t → AtForms n (board_of t) → OfState (going (exec code) n (board_of t)).status OnStack)
      → OfState (continued (outcome_of_core o) (going (exec code) n)).status OnStack
  steps_on n (Goes es c t) i forms more = more t i forms
  steps_on n (Stops es price e) i forms more = tt

  stays_on : (n : ℕ) (s : MachineBoard) → AtForms n s → OnStack s → OfState (going (exec code) n s).status OnStack
  stays_on zero s forms i = i
  stays_on (suc n) s forms i =
      let k : IsAtKept kept s = forms 0 (omega arith) in
      let made : exec code s ≡ outcome_of_core (form_step k.form k.core) = ap (exec code) k.is ∙ does kept tidy k.form k.core k.stands k.needs in
      let sp : s.registers 1 ≡ k.core.sp = ap (λ b. b.registers 1) k.is in
      let next = form_stays (rules_of kept) k.form k.core k.needs (subst (IsKept (rules_of kept)) sp i) in
      let behind : AtFormsBehind n (outcome_of_core (form_step k.form k.core)) = λ j l.
      subst (λ o. OfState (continued o (going (exec code) j)).status (IsAtKept kept)) made (forms (suc j) (omega (arith, l))) in
      subst (λ o. OfState (continued o (going (exec code) n)).status OnStack) (sym made)
      (steps_on n (form_step k.form k.core) next behind (λ t j at. stays_on n (board_of t) at j))

pub forms_keep_the_stack : FormsKeepTheStack
forms_keep_the_stack kept steps u tidy forms i n l = stays_on kept tidy n (board_of u) (λ k j. forms k (omega (arith, j, l))) i
