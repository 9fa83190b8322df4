-- Straight stretches of code, and stretches one after another.
use Rattle.std.proofs.Common.{◌≡◌, ◌==◌, ◌&&◌, ◌/◌, ◌%◌, if◌then◌else◌, ℕ, ◌+◌, ◌-◌, ◌≤◌, Bool, true, false, nat_lt, ltb-true, List, [], ◌∷◌, ◌++◌, length}
use Rattle.std.proofs.Common.{Some, refl, sym, ap, ◌∙◌, subst, arith, suc-add, zero-add, zero, suc, take, drop}
use Rattle.std.proofs.Common.{slice_get}
use Rattle.std.proofs.lemmas.Bool.Decides.{nat_tests}
use Rattle.std.proofs.lemmas.Option.{same_Some}
use Rattle.machine_effects.specs.msp_step.declared.machine.Stop.{Stop}
use Rattle.machine_effects.specs.msp_step.declared.machine.Stop.TheVariants as stop
use Rattle.machine_effects.specs.fram_board.Effects.{Effect}
use Rattle.machine_effects.specs.Going.{Goes, Stops, Status, At, Halted, stretch, after_effects, continued, going, Leads}
use Rattle.machine_effects.specs.Machine.{MachineBoard, MachineStretch, Code, step_with, exec, undisturbed}
use Rattle.machine_effects.proofs.Interface.{stay, one_step, join, join_stall, stall, after_after, after_nothing}
use Rattle.code_forms.specs.Forms.{WorkRegister, Core, CoreOutcome, CoreStretch, board_of, outcome_of_core, source_read, Target, ToRegister, ToFram, ToRam}
use Rattle.code_forms.specs.Forms.{source_effects, behind_source}
use Rattle.code_forms.specs.Forms.{ToIndexed, ToPointed, ToOutnum, ToOutdata, target_written, Form, Move, Calculate, Compare, Update, Push, Modify, SetStack}
use Rattle.code_forms.specs.Forms.{EnableInterrupts, Sense, Jump, Skip, Branch, BranchIndexed, SkipBy, Call, Return, KeepStack, RestoreStack, instruction_of}
use Rattle.code_forms.specs.Forms.{form_bytes}
use Rattle.code_forms.specs.Forms.{sensed, form_step, FormNeeds}
use Rattle.code_forms.specs.Code.{Stands, forms_bytes, IsStraight, AreStraight, forms_run, OfNext, FormsNeed, IsTidy, IsAtKept, OfState, StepsAreKept}
use Rattle.code_forms.specs.Code.{KeptCode, rules_of, ComesWithin, RunsWithin, StarvesWithin}
use Rattle.code_forms.specs.Laws.{StraightCodeLeads}
use Rattle.code_forms.proofs.Uncovered.{form_does}
use Rattle.code_forms.proofs.Rules.{undisturbed_form}

-- the first part stands where both do
pub stands_front : (code : Code) (p : ℕ) (a b : List Form) → Stands code p (a ++ b) → Stands code p a
stands_front code p [] b h = tt
stands_front code p (i ∷ a) b h = (h.0, stands_front code (p + form_bytes i) a b h.1)

-- the second part stands behind the first
pub stands_back : (code : Code) (p : ℕ) (a b : List Form) → Stands code p (a ++ b) → Stands code (p + forms_bytes a) b
stands_back code p [] b h = let e : p ≡ p + 0 = omega arith in subst (λ n. Stands code n b) e h
stands_back code p (i ∷ a) b h =
    let e : p + form_bytes i + forms_bytes a ≡ p + forms_bytes (i ∷ a) = omega arith in
    subst (λ n. Stands code n b) e (stands_back code (p + form_bytes i) a b h.1)

-- the forms behind the first k of those that stand from an address on
pub forms_behind : (code : Code) (p k : ℕ) (ms : List Form) → Stands code p ms → Stands code (p + forms_bytes (take k ms)) (drop k ms)
forms_behind code p zero ms h = let e : p ≡ p + 0 = omega arith in subst (λ n. Stands code n ms) e h
forms_behind code p (suc k) [] h = tt
forms_behind code p (suc k) (m ∷ ms) h =
    let e : p + form_bytes m + forms_bytes (take k ms) ≡ p + (form_bytes m + forms_bytes (take k ms)) = omega arith in
    subst (λ n. Stands code n (drop k ms)) e (forms_behind code (p + form_bytes m) k ms h.1)

-- the first k of them
pub first_forms : (code : Code) (p k : ℕ) (ms : List Form) → Stands code p ms → Stands code p (take k ms)
first_forms code p zero ms h = tt
first_forms code p (suc k) [] h = tt
first_forms code p (suc k) (m ∷ ms) h = (h.0, first_forms code (p + form_bytes m) k ms h.1)

-- n of them, behind the first k
pub forms_at : (code : Code) (p k n : ℕ) (ms : List Form) → Stands code p ms → Stands code (p + forms_bytes (take k ms)) (take n (drop k ms))
forms_at code p k n ms h = first_forms code (p + forms_bytes (take k ms)) n (drop k ms) (forms_behind code p k ms h)

-- the one behind the first k
pub form_at : (code : Code) (p k : ℕ) (ms : List Form) (m : Form) → Stands code p ms → slice_get ms k ≡ Some m
    → code.at (p + forms_bytes (take k ms)) ≡ Some (instruction_of m)
form_at code p k [] m h e = absurd (cc)
form_at code p zero (i ∷ ms) m h e =
    let o : p ≡ p + 0 = omega arith in
    subst (λ n. code.at n ≡ Some (instruction_of m)) o (h.0 ∙ ap (λ i. Some (instruction_of i)) (same_Some i m e))
form_at code p (suc k) (i ∷ ms) m h e =
    let o : p + form_bytes i + forms_bytes (take k ms) ≡ p + (form_bytes i + forms_bytes (take k ms)) = omega arith in
    subst (λ n. code.at n ≡ Some (instruction_of m)) o (form_at code (p + form_bytes i) k ms m h.1 e)

abbrev IsAt : ℕ → Core → Type 0
IsAt p t = t.pc ≡ p

written_at : (y : Target) (c v : ℕ) (u : Core) → OfNext (target_written y c v u) (IsAt u.pc)
written_at (ToRegister b) c v u = refl
written_at (ToFram a) c v u = refl
written_at (ToRam a) c v u = refl
written_at (ToIndexed b x) c v u = refl
written_at (ToPointed b) c v u = refl
written_at ToOutnum c v u = refl
written_at ToOutdata c v u = refl

sensed_at : (ws : List ℕ) (b : WorkRegister) (u : Core) → OfNext (sensed ws b u) (IsAt (u.pc + 4))
sensed_at [] b u = tt
sensed_at (w ∷ ws) b u = refl

at_behind : (es : List Effect) (o : CoreOutcome) (p : ℕ) → OfNext o (IsAt p) → OfNext (behind_source es o) (IsAt p)
at_behind es (Goes [] c u) p h = h
at_behind es (Goes (f ∷ fs) c u) p h = h
at_behind es (Stops fs price e) p h = h

goes_to : (m : Form) (u : Core) → IsStraight m → OfNext (form_step m u) (IsAt (u.pc + form_bytes m))
goes_to (Move x y) u h =
    at_behind (source_effects x u) (target_written y _ _ (record (source_read x u) { pc = u.pc + form_bytes (Move x y) })) _
    (written_at y _ _ (record (source_read x u) { pc = u.pc + form_bytes (Move x y) }))
goes_to (Calculate op x b) u h = refl
goes_to (Compare x a) u h = refl
goes_to (Push x) u h = refl
goes_to (Update op x a) u h = refl
goes_to (SetStack n) u h = refl
goes_to EnableInterrupts u h = refl
goes_to (Modify t b) u h = refl
goes_to (Sense b) u h = sensed_at u.inputs.readings b u
goes_to (Jump c o) u h = elim h [ ]
goes_to (Skip n) u h = elim h [ ]
goes_to (Branch a) u h = elim h [ ]
goes_to (BranchIndexed b x) u h = elim h [ ]
goes_to (SkipBy b) u h = elim h [ ]
goes_to (Call a) u h = elim h [ ]
goes_to Return u h = elim h [ ]
goes_to (KeepStack b) u h = refl
goes_to RestoreStack u h = refl

-- goes on from where a stretch ends
abbrev pub on_status : Status Core Stop → List Effect → ℕ → (Core → MachineStretch) → MachineStretch
on_status (At t) es c next = after_effects es c (next t)
on_status (Halted price x) es c next = stretch es c (Halted price x)

abbrev pub carry : CoreStretch → (Core → MachineStretch) → MachineStretch
carry r next = on_status r.status r.effects r.cycles next

carry_after : (es fs : List Effect) (c d : ℕ) (st : Status Core Stop) (next : Core → MachineStretch)
    → after_effects es c (on_status st fs d next) ≡ on_status st (es ++ fs) (c + d) next
carry_after es fs c d (At t) next = after_after es fs c d (next t)
carry_after es fs c d (Halted price x) next = refl

-- no step at all
pub no_steps : (kept : KeptCode) (u : Core) (P : Core → Type 0) → P u → ComesWithin kept [] 0 0 u P
no_steps kept u P p = record { end = u; leads = stay (exec kept.code) (board_of u); forms = λ n l. absurd (omega (arith, l)); holds = p }

-- the forms of a stretch, and of what is behind it
forms_on : (kept : KeptCode) (n m : ℕ) (es : List Effect) (c : ℕ) (u t : Core) → Leads (exec kept.code) n es c (board_of u) (board_of t) → StepsAreKept kept n u
    → StepsAreKept kept m t → StepsAreKept kept (n + m) u
forms_on kept n m es c u t leads front back k l = by (nat_lt k n) refl
  where
    by : (b : Bool) → nat_lt k n ≡ b → OfState (going (exec kept.code) k (board_of u)).status (IsAtKept kept)
    by true e = front k (ltb-true k n e)
    by false e =
        let from : n ≤ k = grind (arith, nat_tests) in
        let at : n + (k - n) ≡ k = omega (arith, from) in
        subst (λ j. OfState (going (exec kept.code) j (board_of u)).status (IsAtKept kept)) at
        (subst (λ r. OfState r.status (IsAtKept kept)) (sym (leads.by (k - n))) (back (k - n) (omega (arith, l, from))))

-- a stretch of code, and another from where it ends
pub comes_then : {kept : KeptCode} {es fs : List Effect} {n k c d : ℕ} {u : Core} {P Q : Core → Type 0} → (a : ComesWithin kept es n c u P)
    → ComesWithin kept fs k d a.end Q → ComesWithin kept (es ++ fs) (n + k) (c + d) u Q
comes_then {kept} {es} {fs} {n} {k} {c} {d} {u} a b =
    record {
      end = b.end;
      leads = join (exec kept.code) n k es fs c d (board_of u) (board_of a.end) (board_of b.end) a.leads b.leads;
      forms = forms_on kept n k es c u a.end a.leads a.forms b.forms;
      holds = b.holds;
    }

-- and another from each state to which it may come
pub comes_on : {kept : KeptCode} {es fs : List Effect} {n k c d : ℕ} {u : Core} {P Q : Core → Type 0} → ComesWithin kept es n c u P
    → ((t : Core) → P t → ComesWithin kept fs k d t Q) → ComesWithin kept (es ++ fs) (n + k) (c + d) u Q
comes_on a f = comes_then a (f a.end a.holds)

module _ (kept : KeptCode) (tidy : IsTidy kept.code) where
  abbrev code : Code
  code = kept.code

  -- one form
  pub does : (m : Form) (u : Core) → code.at u.pc ≡ Some (instruction_of m) → FormNeeds (rules_of kept) m u
      → exec code (board_of u) ≡ outcome_of_core (form_step m u)
  does m u h k =
      ap (λ o. undisturbed code.events (board_of u) (step_with o (board_of u))) h
      ∙ ap (undisturbed code.events (board_of u)) (form_does (rules_of kept) m u (tidy u.pc (instruction_of m) h) k)
      ∙ undisturbed_form (rules_of kept) m u k

  block_on : (ms : List Form) (p k : ℕ) (o : CoreOutcome) → OfNext o (IsAt p) → OfNext o (FormsNeed (rules_of kept) ms)
      → ((t : Core) → t.pc ≡ p → FormsNeed (rules_of kept) ms t → going (exec code) (length ms + k) (board_of t) ≡ carry (forms_run ms t)
      (λ v. going (exec code) k (board_of v)))
      → continued (outcome_of_core o) (going (exec code) (length ms + k)) ≡ carry (continued o (forms_run ms)) (λ v. going (exec code) k (board_of v))
  block_on ms p k (Goes fs d t) g w ih =
      ap (after_effects fs d) (ih t g w)
      ∙ carry_after fs (forms_run ms t).effects d (forms_run ms t).cycles (forms_run ms t).status (λ v. going (exec code) k (board_of v))
  block_on ms p k (Stops es price x) g w ih = refl

  block_all : (ms : List Form) (k : ℕ) (u : Core) → AreStraight ms → Stands code u.pc ms → FormsNeed (rules_of kept) ms u
      → going (exec code) (length ms + k) (board_of u) ≡ carry (forms_run ms u) (λ v. going (exec code) k (board_of v))
  block_all [] k u st h w = ap (λ n. going (exec code) n (board_of u)) (zero-add k) ∙ sym (after_nothing (going (exec code) k (board_of u)))
  block_all (m ∷ ms) k u st h w =
      ap (λ n. going (exec code) n (board_of u)) (suc-add (length ms) k)
      ∙ ap (λ o. continued o (going (exec code) (length ms + k))) (does m u h.0 w.0)
      ∙ block_on ms (u.pc + form_bytes m) k (form_step m u) (goes_to m u st.0) w.1
      (λ t e o. block_all ms k t st.1 (subst (λ p. Stands code p ms) (sym e) h.1) o)

  -- straight code ends where its forms do
  pub block : (ms : List Form) (u t : Core) (es : List Effect) (c : ℕ) → AreStraight ms → Stands code u.pc ms → FormsNeed (rules_of kept) ms u
      → forms_run ms u ≡ stretch es c (At t) → Leads (exec code) (length ms) es c (board_of u) (board_of t)
  block ms u t es c st h w e = record { by = λ k. block_all ms k u st h w ∙ ap (λ r. carry r (λ v. going (exec code) k (board_of v))) e }

  -- what stands there is a form that has what it needs
  at_form : (m : Form) (u : Core) → code.at u.pc ≡ Some (instruction_of m) → FormNeeds (rules_of kept) m u → StepsAreKept kept 1 u
  at_form m u h w zero l = record { form = m; core = u; is = refl; stands = h; needs = w }
  at_form m u h w (suc n) l = absurd (omega (arith, l))

  behind_form : (ms : List Form) (p n : ℕ) (o : CoreOutcome) → OfNext o (IsAt p) → OfNext o (FormsNeed (rules_of kept) ms)
      → ((t : Core) → t.pc ≡ p → FormsNeed (rules_of kept) ms t → OfState (going (exec code) n (board_of t)).status (IsAtKept kept))
      → OfState (continued (outcome_of_core o) (going (exec code) n)).status (IsAtKept kept)
  behind_form ms p n (Goes fs d t) g w ih = ih t g w
  behind_form ms p n (Stops es price x) g w ih = tt

  -- so is each form of straight code
  at_forms : (ms : List Form) (u : Core) → AreStraight ms → Stands code u.pc ms → FormsNeed (rules_of kept) ms u → StepsAreKept kept (length ms) u
  at_forms [] u st h w n l = absurd (omega (arith, l))
  at_forms (m ∷ ms) u st h w zero l = at_form m u h.0 w.0 0 (omega arith)
  at_forms (m ∷ ms) u st h w (suc n) l =
      subst (λ o. OfState (continued o (going (exec code) n)).status (IsAtKept kept)) (sym (does m u h.0 w.0))
      (behind_form ms (u.pc + form_bytes m) n (form_step m u) (goes_to m u st.0) w.1
      (λ t e k. at_forms ms t st.1 (subst (λ p. Stands code p ms) (sym e) h.1) k n (omega (arith, l))))

  pub straight_comes : (ms : List Form) (u t : Core) (es : List Effect) (c : ℕ) (P : Core → Type 0) → AreStraight ms → Stands code u.pc ms
      → FormsNeed (rules_of kept) ms u → forms_run ms u ≡ stretch es c (At t) → P t → ComesWithin kept es (length ms) c u P
  straight_comes ms u t es c P st h w e p = record { end = t; leads = block ms u t es c st h w e; forms = at_forms ms u st h w; holds = p }

  -- within so many cycles
  pub runs_within : {es : List Effect} {n c : ℕ} {u : Core} {P : Core → Type 0} (most : ℕ) → ComesWithin kept es n c u P → c ≤ most
      → RunsWithin kept es most u P
  runs_within {es} {n} {c} most a l = record { steps = n; cycles = c; within = l; comes = a }

  -- one form, a jump too
  pub form_comes : (m : Form) (u t : Core) (es : List Effect) (c : ℕ) (P : Core → Type 0) → code.at u.pc ≡ Some (instruction_of m)
      → FormNeeds (rules_of kept) m u
      → form_step m u ≡ Goes es c t → P t → ComesWithin kept es 1 c u P
  form_comes m u t es c P h w e p = record {
    end = t;
    leads = one_step (exec code) (board_of u) (board_of t) es c (does m u h w ∙ ap outcome_of_core e);
    forms = at_form m u h w;
    holds = p;
  }

  pub hop : (m : Form) (most : ℕ) (u t : Core) (es : List Effect) (c : ℕ) (P : Core → Type 0) → code.at u.pc ≡ Some (instruction_of m)
      → FormNeeds (rules_of kept) m u
      → form_step m u ≡ Goes es c t → c ≤ most → P t → RunsWithin kept es most u P
  hop m most u t es c P h w e l p = runs_within most (form_comes m u t es c P h w e p) l

  pub runs_on : (most more : ℕ) (u : Core) (P Q : Core → Type 0) (es fs : List Effect) → RunsWithin kept es most u P
      → ((t : Core) → P t → RunsWithin kept fs more t Q) → RunsWithin kept (es ++ fs) (most + more) u Q
  runs_on most more u P Q es fs a f =
      let b = f a.end a.holds in
      record {
        steps = a.steps + b.steps;
        cycles = a.cycles + b.cycles;
        within = omega (arith, a.within, b.within);
        comes = comes_then a.comes b.comes;
      }

  pub dearer : (es : List Effect) (most more : ℕ) (u : Core) (P : Core → Type 0) → most ≤ more → RunsWithin kept es most u P → RunsWithin kept es more u P
  dearer es most more u P l a = record { steps = a.steps; cycles = a.cycles; within = omega (arith, a.within, l); comes = a.comes }

  pub nothing : (u : Core) (P : Core → Type 0) → P u → RunsWithin kept [] 0 u P
  nothing u P p = record { steps = 0; cycles = 0; within = omega arith; comes = no_steps kept u P p }

  -- a stretch to a state that is known
  pub then_to : (most more : ℕ) (u t : Core) (Q : Core → Type 0) (es fs : List Effect) → RunsWithin kept es most u (λ v. v ≡ t) → RunsWithin kept fs more t Q
      → RunsWithin kept (es ++ fs) (most + more) u Q
  then_to most more u t Q es fs a b = runs_on most more u (λ v. v ≡ t) Q es fs a (λ v e. subst (λ x. RunsWithin kept fs more x Q) (sym e) b)

  -- straight code that comes to a sensor with no reading left, and a stretch before such a place
  pub starve : (m : Form) (most price : ℕ) (u : Core) (es : List Effect) → code.at u.pc ≡ Some (instruction_of m) → FormNeeds (rules_of kept) m u
      → form_step m u ≡ Stops es price stop.NoReading → price ≤ most → StarvesWithin kept es most u
  starve m most price u es h w e l =
      record {
        steps = 0;
        cycles = 0;
        price = price;
        within = omega (arith, l);
        stalls = stall (exec code) (board_of u) es price stop.NoReading
            (does m u h w ∙ ap outcome_of_core e);
        forms = at_form m u h w;
      }

  pub starves_on : (most more : ℕ) (u : Core) (P : Core → Type 0) (es fs : List Effect) → RunsWithin kept es most u P
      → ((t : Core) → P t → StarvesWithin kept fs more t) → StarvesWithin kept (es ++ fs) (most + more) u
  starves_on most more u P es fs a f =
      let b = f a.end a.holds in
      record {
        steps = a.steps + b.steps;
        cycles = a.cycles + b.cycles;
        price = b.price;
        within = omega
            (arith, a.within, b.within);
        stalls = join_stall (exec code) a.steps b.steps es fs a.cycles b.cycles (board_of u)
            (board_of a.end) b.price stop.NoReading a.leads b.stalls;
        forms = λ n l. forms_on kept a.steps (suc b.steps) es a.cycles u a.end a.leads a.forms b.forms n (omega (arith, l));
      }

  pub dearer_starves : (es : List Effect) (most more : ℕ) (u : Core) → most ≤ more → StarvesWithin kept es most u → StarvesWithin kept es more u
  dearer_starves es most more u l a = record {
    steps = a.steps;
    cycles = a.cycles;
    price = a.price;
    within = omega (arith, a.within, l);
    stalls = a.stalls;
    forms = a.forms;
  }

pub straight_code_leads : StraightCodeLeads
straight_code_leads kept ms u t es c tidy st h w e = block kept tidy ms u t es c st h w e

-- the machine at a status, or else this one
abbrev pub end_of : Core → Status Core Stop → Core
end_of u (At t) = t
end_of u (Halted price x) = u
