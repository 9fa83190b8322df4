-- The rules of code that lets the CPU accept interrupts: forms that have what they need keep them, and what code is by them.
use Rattle.std.proofs.Common.{◌≡◌, ◌==◌, ◌&&◌, ◌||◌, ◌≤◌, ◌+◌, ◌-◌, if◌then◌else◌, not, ℕ, refl, sym, ap, ◌∙◌, subst, Bool, true, false, nat_le, arith}
use Rattle.std.proofs.Common.{eqb-true, eq-eqb, leb-true, le-leb, List, [], ◌∷◌, Option, Some}
use Rattle.std.proofs.lemmas.Bool.Decides.{nat_tests}
use Rattle.std.proofs.lemmas.Bool.{and_parts, and_from, or_left, or_right}
use Rattle.machine_effects.specs.address_space.Limits.{stack_floor, stack_top, event_vector}
use Rattle.machine_effects.specs.event_places.Places.{handler_place}
use Rattle.machine_effects.specs.msp_isa.declared.instructions.Instr.{Instr}
use Rattle.machine_effects.specs.msp_step.Step.{is_interruptible}
use Rattle.machine_effects.specs.fram_board.Effects.{Effect}
use Rattle.machine_effects.specs.Going.{Goes, Stops}
use Rattle.machine_effects.specs.Machine.{MachineBoard, MachineOutcome, Code, step_with, exec, astray, in_stack, is_prepared}
use Rattle.machine_effects.specs.Machine.{keeps_stack, breaks_rules, is_exposed, undisturbed}
use Rattle.machine_effects.specs.Laws.{KeepsTheHandler}
use Rattle.machine_effects.proofs.Interface.{code_keeps_the_handler}
use Rattle.code_forms.specs.Forms.{WorkRegister, Core, CoreOutcome, board_of, outcome_of_core, Source, Register, Number, Constant, Fram, Ram, Pointed}
use Rattle.code_forms.specs.Forms.{PointedNext, Indexed, Popped, StackNext, Head, Slot, source_read, SourceNeeds, HasPushRoom, IsPrepared}
use Rattle.code_forms.specs.Forms.{Target, ToRegister, ToFram, ToRam, ToIndexed, ToPointed, ToOutnum, ToOutdata, target_written}
use Rattle.code_forms.specs.Forms.{Form, Move, Calculate, Compare, Update, Push, Modify, SetStack, EnableInterrupts, Sense, Jump, Skip, Branch, BranchIndexed}
use Rattle.code_forms.specs.Forms.{SkipBy, instruction_of, source_value, source_bytes, target_bytes, source_effects, behind_source, sensed, form_step}
use Rattle.code_forms.specs.Forms.{FormNeeds, CodeRules, ram_word, Call, Return, KeepStack, RestoreStack}
use Rattle.machine_effects.specs.msp_cycles.Cycles.{cycles_of}
use Rattle.code_forms.specs.Code.{OfNext}
use Rattle.code_forms.specs.Laws.{CodeGoesUndisturbed, CodeStaysPrepared, CodeStaysOpen}
use Rattle.code_forms.proofs.Registers.{interruptible_is}

-- ---- from one SP to another

stays : (p : ℕ) → keeps_stack p p ≡ true
stays p = or_left (p == p) (nat_le p stack_top && (nat_le p p || nat_le stack_floor p)) (eq-eqb p p refl)

-- within the stack, up or down to where a handler has room
moves_inside : (p q : ℕ) → q ≤ stack_top → (nat_le p q || nat_le stack_floor q) ≡ true → keeps_stack p q ≡ true
moves_inside p q l h = or_right (q == p) (nat_le q stack_top && (nat_le p q || nat_le stack_floor q)) (and_from (nat_le q stack_top) _ (le-leb q stack_top l) h)

rises : (p q : ℕ) → p ≤ q → q ≤ stack_top → keeps_stack p q ≡ true
rises p q up l = moves_inside p q l (or_left (nat_le p q) (nat_le stack_floor q) (le-leb p q up))

lowers : (p q : ℕ) → stack_floor ≤ q → q ≤ stack_top → keeps_stack p q ≡ true
lowers p q low l = moves_inside p q l (or_right (nat_le p q) (nat_le stack_floor q) (le-leb stack_floor q low))

-- ---- a form that has what it needs breaks no rule

abbrev IsUnexposed : Bool → Core → Core → Type 0
IsUnexposed events u t = is_exposed events (board_of u) (board_of t) ≡ false

-- where GIE stays, and with events SP is as it may be
record StackKept (events : Bool) (u t : Core) : Type 0 where
  enabled : t.enabled ≡ u.enabled
  stack : events ≡ true → keeps_stack u.sp t.sp ≡ true

kept_by : (a b k p : Bool) → a ≡ b → k ≡ true → (if a then not (if b then k else p) else b) ≡ false
kept_by true true k p e h = ap not h
kept_by true false k p e h = absurd cc
kept_by false true k p e h = absurd cc
kept_by false false k p e h = refl

not_newly : (a b : Bool) → a ≡ b → (a && not b) ≡ false
not_newly true true e = refl
not_newly true false e = absurd cc
not_newly false b e = refl

is_kept : (events : Bool) (u t : Core) → StackKept events u t → IsUnexposed events u t
is_kept true u t h =
    kept_by (is_interruptible (board_of t).registers) (is_interruptible (board_of u).registers) (keeps_stack u.sp t.sp) (is_prepared (board_of t))
    (interruptible_is t.pc t.sp t.enabled t.flags t.work ∙ h.enabled ∙ sym (interruptible_is u.pc u.sp u.enabled u.flags u.work)) (h.stack refl)
is_kept false u t h =
    not_newly (is_interruptible (board_of t).registers) (is_interruptible (board_of u).registers)
    (interruptible_is t.pc t.sp t.enabled t.flags t.work ∙ h.enabled ∙ sym (interruptible_is u.pc u.sp u.enabled u.flags u.work))

kept_next : (events : Bool) (u : Core) (o : CoreOutcome) → OfNext o (StackKept events u) → OfNext o (IsUnexposed events u)
kept_next events u (Goes es c t) h = is_kept events u t h
kept_next events u (Stops es price e) h = tt

-- SP and GIE are as they were
all_stays : (events : Bool) (u t : Core) → t.enabled ≡ u.enabled → t.sp ≡ u.sp → StackKept events u t
all_stays events u t g e = record { enabled = g; stack = λ h. subst (λ q. keeps_stack u.sp q ≡ true) (sym e) (stays u.sp) }

-- behind a source
read_kept : (rules : CodeRules) (x : Source) (u : Core) → SourceNeeds rules x u → StackKept rules.events u (source_read x u)
read_kept rules (Register b) u h = all_stays rules.events u (source_read (Register b) u) refl refl
read_kept rules (Number n) u h = all_stays rules.events u (source_read (Number n) u) refl refl
read_kept rules (Constant k) u h = all_stays rules.events u (source_read (Constant k) u) refl refl
read_kept rules (Fram a) u h = all_stays rules.events u (source_read (Fram a) u) refl refl
read_kept rules (Ram a) u h = all_stays rules.events u (source_read (Ram a) u) refl refl
read_kept rules (Pointed b) u h = all_stays rules.events u (source_read (Pointed b) u) refl refl
read_kept rules (PointedNext b) u h = all_stays rules.events u (source_read (PointedNext b) u) refl refl
read_kept rules (Indexed b x) u h = all_stays rules.events u (source_read (Indexed b x) u) refl refl
read_kept rules Popped u h =
    let even = h.0.even in let high = h.0.high in record { enabled = refl; stack = λ e. rises u.sp (u.sp + 2) (omega arith) (omega arith) }
read_kept rules (StackNext b) u h = all_stays rules.events u (source_read (StackNext b) u) refl refl
read_kept rules Head u h = all_stays rules.events u (source_read Head u) refl refl
read_kept rules (Slot b) u h = all_stays rules.events u (source_read (Slot b) u) refl refl

-- what is done to other registers and to memory makes no difference to that
kept_with : (events : Bool) (u t v : Core) → v.enabled ≡ t.enabled → v.sp ≡ t.sp → StackKept events u t → StackKept events u v
kept_with events u t v g e h =
    record { enabled = g ∙ h.enabled; stack = λ on. subst (λ q. keeps_stack u.sp q ≡ true) (sym e) (h.stack on) }

-- behind a write
abbrev AsBefore : Core → Core → Type 0
AsBefore t v = (v.enabled ≡ t.enabled) × (v.sp ≡ t.sp)

write_stays : (y : Target) (c v : ℕ) (t : Core) → OfNext (target_written y c v t) (AsBefore t)
write_stays (ToRegister b) c v t = (refl, refl)
write_stays (ToFram a) c v t = (refl, refl)
write_stays (ToRam a) c v t = (refl, refl)
write_stays (ToIndexed b x) c v t = (refl, refl)
write_stays (ToPointed b) c v t = (refl, refl)
write_stays ToOutnum c v t = (refl, refl)
write_stays ToOutdata c v t = (refl, refl)

kept_behind : (events : Bool) (u t : Core) (es : List Effect) (o : CoreOutcome) → OfNext o (AsBefore t) → StackKept events u t
    → OfNext (behind_source es o) (StackKept events u)
kept_behind events u t es (Goes [] c v) h k = kept_with events u t v h.0 h.1 k
kept_behind events u t es (Goes (f ∷ fs) c v) h k = kept_with events u t v h.0 h.1 k
kept_behind events u t es (Stops fs price e) h k = tt

-- SP behind a push, which may have taken its operand from the stack
lowered : {rules : CodeRules} (x : Source) (u : Core) → HasPushRoom rules u.sp → keeps_stack u.sp (u.sp - 2) ≡ true
lowered x u h = let room = h.room.fits in let high = h.high in lowers u.sp (u.sp - 2) (omega arith) (omega arith)

push_kept : {rules : CodeRules} (x : Source) (u : Core) → HasPushRoom rules (source_read x u).sp
    → ((source_read x u).enabled ≡ u.enabled) × (keeps_stack u.sp ((source_read x u).sp - 2) ≡ true)
push_kept (Register b) u h = (refl, lowered (Register b) u h)
push_kept (Number n) u h = (refl, lowered (Number n) u h)
push_kept (Constant k) u h = (refl, lowered (Constant k) u h)
push_kept (Fram a) u h = (refl, lowered (Fram a) u h)
push_kept (Ram a) u h = (refl, lowered (Ram a) u h)
push_kept (Pointed b) u h = (refl, lowered (Pointed b) u h)
push_kept (PointedNext b) u h = (refl, lowered (PointedNext b) u h)
push_kept (Indexed b x) u h = (refl, lowered (Indexed b x) u h)
push_kept Popped u h =
    let back : u.sp ≡ u.sp + 2 - 2 = omega arith in
    (refl, subst (λ n. keeps_stack u.sp n ≡ true) back (stays u.sp))
push_kept (StackNext b) u h = (refl, lowered (StackNext b) u h)
push_kept Head u h = (refl, lowered Head u h)
push_kept (Slot b) u h = (refl, lowered (Slot b) u h)

sense_kept : (events : Bool) (ws : List ℕ) (b : WorkRegister) (u : Core) → OfNext (sensed ws b u) (StackKept events u)
sense_kept events [] b u = tt
sense_kept events (w ∷ ws) b u = record { enabled = refl; stack = λ e. stays u.sp }

-- GIE is set where a handler is named and has room
opened_by : (a b k p : Bool) → a ≡ true → k ≡ true → p ≡ true → (if a then not (if b then k else p) else b) ≡ false
opened_by a true k p e h j = ap (λ x. if x then not k else true) e ∙ ap not h
opened_by a false k p e h j = ap (λ x. if x then not p else false) e ∙ ap not j

prepared_there : (u : Core) → IsPrepared u → is_prepared (board_of u) ≡ true
prepared_there u h = let vector = h.vector in let low = h.low in let high = h.high in grind (arith, nat_tests)

opened : (events : Bool) (u : Core) → events ≡ true → IsPrepared u
    → IsUnexposed events u (record u { pc = u.pc + 2; enabled = true })
opened true u on h =
    opened_by (is_interruptible (board_of (record u { pc = u.pc + 2; enabled = true })).registers) (is_interruptible (board_of u).registers)
    (keeps_stack u.sp u.sp) (is_prepared (board_of u))
    (interruptible_is (u.pc + 2) u.sp true u.flags u.work) (stays u.sp) (prepared_there u h)
opened false u on h = absurd cc

-- all that isn't done to the stack is done with SP and GIE as they are
module _ (rules : CodeRules) (u : Core) where
  plain_kept : (m : Form) → OfNext (form_step m u) (StackKept rules.events u) → OfNext (form_step m u) (IsUnexposed rules.events u)
  plain_kept m h = kept_next rules.events u (form_step m u) h

  form_kept : (m : Form) → FormNeeds rules m u → OfNext (form_step m u) (IsUnexposed rules.events u)
  form_kept (Move x y) h =
      let t : Core = record (source_read x u) { pc = u.pc + (2 + source_bytes x + target_bytes y) } in
      plain_kept (Move x y) (kept_behind rules.events u t (source_effects x u) (target_written y (cycles_of (instruction_of (Move x y))) (source_value x u) t)
      (write_stays y (cycles_of (instruction_of (Move x y))) (source_value x u) t)
      (kept_with rules.events u (source_read x u) t refl refl (read_kept rules x u h.0)))
  form_kept (Calculate op x b) h =
      plain_kept (Calculate op x b) (kept_with rules.events u (source_read x u) _ refl refl (read_kept rules x u h.1))
  form_kept (Compare x a) h =
      plain_kept (Compare x a) (kept_with rules.events u (source_read x u) _ refl refl (read_kept rules x u h.0))
  form_kept (Update op x a) h =
      plain_kept (Update op x a) (kept_with rules.events u (source_read x u) _ refl refl (read_kept rules x u h.2))
  form_kept (Push x) h = let k = push_kept x u h.1 in plain_kept (Push x) (record { enabled = k.0; stack = λ e. k.1 })
  form_kept (Modify m b) h = plain_kept (Modify m b) (all_stays rules.events u _ refl refl)
  form_kept (SetStack n) h =
      plain_kept (SetStack n)
      (record { enabled = refl; stack = λ e. lowers u.sp n (h.1 e).low (h.1 e).high })
  form_kept EnableInterrupts h = opened rules.events u h.0 h.1
  form_kept (Sense b) h = plain_kept (Sense b) (sense_kept rules.events u.inputs.readings b u)
  form_kept (Jump c o) h = plain_kept (Jump c o) (all_stays rules.events u _ refl refl)
  form_kept (Skip n) h = plain_kept (Skip n) (all_stays rules.events u _ refl refl)
  form_kept (Branch a) h = plain_kept (Branch a) (all_stays rules.events u _ refl refl)
  form_kept (BranchIndexed b x) h = plain_kept (BranchIndexed b x) (all_stays rules.events u _ refl refl)
  form_kept (SkipBy b) h = plain_kept (SkipBy b) (all_stays rules.events u _ refl refl)
  form_kept (Call a) h =
      let room = h.1.room.fits in let high = h.1.high in
      plain_kept (Call a) (record { enabled = refl; stack = λ e. lowers u.sp (u.sp - 2) (omega arith) (omega arith) })
  form_kept Return h =
      let even = h.0.even in let high = h.0.high in
      plain_kept Return (record { enabled = refl; stack = λ e. rises u.sp (u.sp + 2) (omega arith) (omega arith) })
  form_kept (KeepStack b) h = plain_kept (KeepStack b) (all_stays rules.events u _ refl refl)
  form_kept RestoreStack h = plain_kept RestoreStack (record { enabled = refl; stack = λ e. rises u.sp (ram_word u u.sp) h.2.0 h.2.1 })

undisturbed_by : (events : Bool) (u : Core) (o : CoreOutcome) → OfNext o (IsUnexposed events u)
    → undisturbed events (board_of u) (outcome_of_core o) ≡ outcome_of_core o
undisturbed_by events u (Goes es c t) h = ap (λ b. if b then Stops [] 0 (astray (board_of u)) else Goes es c (board_of t)) h
undisturbed_by events u (Stops es price e) h = refl

-- so code does what the form does
pub undisturbed_form : (rules : CodeRules) (m : Form) (u : Core) → FormNeeds rules m u
    → undisturbed rules.events (board_of u) (outcome_of_core (form_step m u)) ≡ outcome_of_core (form_step m u)
undisturbed_form rules m u h = undisturbed_by rules.events u (form_step m u) (form_kept rules u m h)

-- ---- what a step of code is by the rules

goes_by : (events b : Bool) (s t u : MachineBoard) (es fs : List Effect) (c d : ℕ) → is_exposed events s t ≡ b
    → ◌≡◌ {A = MachineOutcome} (if b then Stops [] 0 (astray s) else Goes es c t) (Goes fs d u) → is_exposed events s u ≡ false
goes_by events true s t u es fs c d e h = absurd cc
goes_by events false s t u es fs c d e h = let same : t ≡ u = cc in ap (λ v. is_exposed events s v) (sym same) ∙ e

pub goes_kept : (events : Bool) (s u : MachineBoard) (o : MachineOutcome) (fs : List Effect) (d : ℕ)
    → undisturbed events s o ≡ Goes fs d u → is_exposed events s u ≡ false
goes_kept events s u (Goes es c t) fs d h = goes_by events (is_exposed events s t) s t u es fs c d refl h
goes_kept events s u (Stops es price e) fs d h = absurd cc

step_kept : (code : Code) (s t : MachineBoard) (es : List Effect) (c : ℕ) → exec code s ≡ Goes es c t
    → is_exposed code.events s t ≡ false
step_kept code s t es c e = goes_kept code.events s t (step_with (code.at (s.registers 0)) s) es c e

-- with events and without them
rules_kept : (code : Code) (s t : MachineBoard) (es : List Effect) (c : ℕ) → code.events ≡ true → exec code s ≡ Goes es c t
    → breaks_rules s t ≡ false
rules_kept code s t es c on e = subst (λ b. is_exposed b s t ≡ false) on (step_kept code s t es c e)

stays_closed : (a b : Bool) → (a && not b) ≡ false → b ≡ false → a ≡ false
stays_closed true b h e = subst (λ x. not x ≡ false) e h
stays_closed false b h e = refl

pub code_goes_undisturbed : CodeGoesUndisturbed
code_goes_undisturbed code s t es c off e closed =
    stays_closed (is_interruptible t.registers) (is_interruptible s.registers)
    (subst (λ b. is_exposed b s t ≡ false) off (step_kept code s t es c e)) closed

not_false : (b : Bool) → not b ≡ false → b ≡ true
not_false true e = refl
not_false false e = absurd cc

prepared_by : (a b k p : Bool) → (if a then not (if b then k else p) else b) ≡ false → a ≡ true → (b ≡ true → k ≡ true → p ≡ true) → p ≡ true
prepared_by true true k p h e f = f refl (not_false k h)
prepared_by true false k p h e f = not_false p h
prepared_by false b k p h e f = absurd cc

-- each way in which SP may move
either_way : (a b : Bool) (P : Type 0) → (a || b) ≡ true → (a ≡ true → P) → (b ≡ true → P) → P
either_way true b P h f g = f refl
either_way false b P h f g = g h

stack_stays : (p q : ℕ) → in_stack p ≡ true → keeps_stack p q ≡ true → in_stack q ≡ true
stack_stays p q h k =
    let low = leb-true stack_floor p (and_parts (nat_le stack_floor p) (nat_le p stack_top) h).0 in
    either_way (q == p) (nat_le q stack_top && (nat_le p q || nat_le stack_floor q)) (in_stack q ≡ true) k
    (λ e. subst (λ n. in_stack n ≡ true) (sym (eqb-true q p e)) h)
    (λ e. let both = and_parts (nat_le q stack_top) (nat_le p q || nat_le stack_floor q) e in
    let above : nat_le stack_floor q ≡ true = either_way (nat_le p q) (nat_le stack_floor q) (nat_le stack_floor q ≡ true) both.1
    (λ u. let up = leb-true p q u in le-leb stack_floor q (omega (arith, low, up))) (λ f. f) in
    and_from (nat_le stack_floor q) (nat_le q stack_top) above both.0)

-- the word at the vector stays
pub vector_stays : (code : Code) (s t : MachineBoard) (es : List Effect) (c : ℕ) → exec code s ≡ Goes es c t → t.fram event_vector ≡ s.fram event_vector
vector_stays code s t es c e =
    let k : KeepsTheHandler s (Goes es c t) = subst (KeepsTheHandler s) e (code_keeps_the_handler code s) in k event_vector (omega arith)

still_prepared : (s t : MachineBoard) → t.fram event_vector ≡ s.fram event_vector → is_prepared s ≡ true
    → keeps_stack (s.registers 1) (t.registers 1) ≡ true → is_prepared t ≡ true
still_prepared s t same h k =
    let both = and_parts (s.fram event_vector == handler_place) (in_stack (s.registers 1)) h in
    ap (λ w. (w == handler_place) && in_stack (t.registers 1)) same
    ∙ ap (λ b. b && in_stack (t.registers 1)) both.0
    ∙ stack_stays (s.registers 1) (t.registers 1) both.1 k

pub code_stays_prepared : CodeStaysPrepared
code_stays_prepared code s t es c on e before now =
    prepared_by (is_interruptible t.registers) (is_interruptible s.registers) (keeps_stack (s.registers 1) (t.registers 1)) (is_prepared t)
    (rules_kept code s t es c on e) now (λ was k. still_prepared s t (vector_stays code s t es c e) (before was) k)

open_by : (a b x : Bool) → (if a then x else b) ≡ false → b ≡ true → a ≡ true
open_by true b x h e = refl
open_by false b x h e = absurd cc

pub code_stays_open : CodeStaysOpen
code_stays_open code s t es c on e was =
    open_by (is_interruptible t.registers) (is_interruptible s.registers) _ (rules_kept code s t es c on e) was
