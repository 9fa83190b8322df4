-- Each form does what its instruction does. But for one that sets SP down, and what is pushed, none brings a word to stand above SP that stood below it.
use Rattle.std.proofs.Common.{◌≡◌, ◌==◌, ◌&&◌, if◌then◌else◌, ◌+◌, ◌-◌, ◌<◌, ◌≤◌, ℕ, refl, sym, ◌∙◌, ap, Bool, true, false, nat_le, nat_lt, List, [], ◌∷◌, Option, Some, None, arith}
use Rattle.std.proofs.lemmas.Bool.Decides.{nat_tests}
use mathlib.Core.Path.{fun_ext}
use Rattle.machine_effects.specs.msp_isa.declared.instructions.Instr.{Instr}
use Rattle.machine_effects.specs.msp_step.declared.machine.Stop.TheVariants as stop
use Rattle.machine_effects.specs.msp_step.Step.{is_interruptible, off_bit}
use Rattle.machine_effects.specs.fram_board.Effects.{Effect}
use Rattle.machine_effects.specs.Going.{Goes, Stops}
use Rattle.machine_effects.specs.Machine.{MachineBoard, MachineOutcome, pushes, forgotten, uncovered_from, uncovered, uncovering, code_executed}
use Rattle.machine_effects.specs.Machine.{step_with}
use Rattle.code_forms.specs.Forms.{WorkRegister, Core, CoreOutcome, board_of, outcome_of_core, CodeRules, IsCodeAddress, Form, instruction_of, form_step, FormNeeds}
use Rattle.code_forms.specs.Forms.{ram_word}
use Rattle.code_forms.specs.Forms.{Source, Register, Number, Constant, Fram, Ram, Pointed, PointedNext, Indexed, Popped, StackNext, Head, Slot}
use Rattle.code_forms.specs.Forms.{source_read, source_effects, source_value, source_bytes, behind_source}
use Rattle.code_forms.specs.Forms.{Target, ToRegister, ToFram, ToRam, ToIndexed, ToPointed, ToOutnum, ToOutdata, target_written, target_bytes, sensed}
use Rattle.code_forms.specs.Forms.{Move, Calculate, Compare, Update, Push, Modify, SetStack, Sense, Jump, Skip, Branch, BranchIndexed, SkipBy}
use Rattle.code_forms.specs.Forms.{EnableInterrupts, Call, Return, KeepStack, RestoreStack}
use Rattle.code_forms.specs.Code.{OfNext}
use Rattle.code_forms.specs.Laws.{FormsDoAsInstructions}
use Rattle.code_forms.proofs.Registers.{interruptible_is}
use Rattle.code_forms.proofs.Forms.{plainly, plain_step, form_plainly}

-- nothing stands between an address and one below it
none_between : (from upto a : ℕ) → upto ≤ from → (nat_le from a && nat_lt a upto) ≡ false
none_between from upto a l = by (nat_le from a) refl
  where
    by : (b : Bool) → nat_le from a ≡ b → (b && nat_lt a upto) ≡ false
    by true e = grind (arith, nat_tests)
    by false e = refl

none_forgotten : (from upto : ℕ) (ram : ℕ → Option ℕ) → upto ≤ from → forgotten from upto ram ≡ ram
none_forgotten from upto ram l = fun_ext (λ a. ap (λ b. if b then None else ram a) (none_between from upto a l))

ram_stays : (b : Bool) (from upto : ℕ) (ram : ℕ → Option ℕ) → upto ≤ from → (if b then forgotten from upto ram else ram) ≡ ram
ram_stays true from upto ram l = none_forgotten from upto ram l
ram_stays false from upto ram l = refl

-- behind a form no word that it didn't push came to stand above SP
abbrev Covers : Form → Core → Core → Type 0
Covers m u t = u.sp ≤ uncovered_from (instruction_of m) t.sp

covered : (m : Form) (u t : Core) → Covers m u t → uncovered (instruction_of m) (board_of u) (board_of t) ≡ board_of t
covered m u t l =
    ap (λ r. record (board_of t) { ram = r })
    (ram_stays (is_interruptible (board_of u).registers) (uncovered_from (instruction_of m) t.sp) u.sp t.ram l)

covering : (m : Form) (u : Core) (o : CoreOutcome) → OfNext o (Covers m u)
    → uncovering (instruction_of m) (board_of u) (outcome_of_core o) ≡ outcome_of_core o
covering m u (Goes es c t) h = ap (λ s. Goes es c s) (covered m u t h)
covering m u (Stops es price e) h = refl

-- SP that doesn't go down uncovers nothing
rising : (i : Instr) (p q : ℕ) → p ≤ q → p ≤ uncovered_from i q
rising i p q l = by (pushes i)
  where
    by : (b : Bool) → p ≤ (if b then q + 2 else q)
    by true = omega (arith, l)
    by false = l

read_up : (x : Source) (u : Core) → u.sp ≤ (source_read x u).sp
read_up (Register b) u = omega arith
read_up (Number n) u = omega arith
read_up (Constant k) u = omega arith
read_up (Fram a) u = omega arith
read_up (Ram a) u = omega arith
read_up (Pointed b) u = omega arith
read_up (PointedNext b) u = omega arith
read_up (Indexed b x) u = omega arith
read_up Popped u = omega arith
read_up (StackNext b) u = omega arith
read_up Head u = omega arith
read_up (Slot b) u = omega arith

write_up : (p : ℕ) (y : Target) (c v : ℕ) (t : Core) → p ≤ t.sp → OfNext (target_written y c v t) (λ w. p ≤ w.sp)
write_up p (ToRegister b) c v t l = l
write_up p (ToFram a) c v t l = l
write_up p (ToRam a) c v t l = l
write_up p (ToIndexed b x) c v t l = l
write_up p (ToPointed b) c v t l = l
write_up p ToOutnum c v t l = l
write_up p ToOutdata c v t l = l

behind_up : (m : Form) (u : Core) (es : List Effect) (o : CoreOutcome) → OfNext o (λ w. u.sp ≤ w.sp) → OfNext (behind_source es o) (Covers m u)
behind_up m u es (Goes [] c w) h = rising (instruction_of m) u.sp w.sp h
behind_up m u es (Goes (f ∷ fs) c w) h = rising (instruction_of m) u.sp w.sp h
behind_up m u es (Stops fs price e) h = tt

sense_up : (b : WorkRegister) (ws : List ℕ) (u : Core) → OfNext (sensed ws b u) (Covers (Sense b) u)
sense_up b [] u = tt
sense_up b (w ∷ ws) u = rising (instruction_of (Sense b)) u.sp u.sp (omega arith)

-- each form but one that sets SP
abbrev IsNoSetting : Form → Type 0
IsNoSetting (SetStack n) = ⊥
IsNoSetting m = Unit {0}

module _ (rules : CodeRules) (u : Core) where
  stays_there : (m : Form) → u.sp ≤ uncovered_from (instruction_of m) u.sp
  stays_there m = rising (instruction_of m) u.sp u.sp (omega arith)

  form_covers : (m : Form) → IsNoSetting m → FormNeeds rules m u → OfNext (form_step m u) (Covers m u)
  form_covers (Move x y) n h =
      let t : Core = record (source_read x u) { pc = u.pc + (2 + source_bytes x + target_bytes y) } in
      behind_up (Move x y) u (source_effects x u) (target_written y _ (source_value x u) t) (write_up u.sp y _ (source_value x u) t (read_up x u))
  form_covers (Calculate op x b) n h = rising (instruction_of (Calculate op x b)) u.sp (source_read x u).sp (read_up x u)
  form_covers (Compare x a) n h = rising (instruction_of (Compare x a)) u.sp (source_read x u).sp (read_up x u)
  form_covers (Update op x a) n h = rising (instruction_of (Update op x a)) u.sp (source_read x u).sp (read_up x u)
  form_covers (Push x) n h = let up = read_up x u in omega (arith, up)
  form_covers (Modify m b) n h = stays_there (Modify m b)
  form_covers (SetStack k) n h = absurd n
  form_covers EnableInterrupts n h = stays_there EnableInterrupts
  form_covers (Sense b) n h = sense_up b u.inputs.readings u
  form_covers (Jump c o) n h = stays_there (Jump c o)
  form_covers (Skip k) n h = stays_there (Skip k)
  form_covers (Branch a) n h = stays_there (Branch a)
  form_covers (BranchIndexed b x) n h = stays_there (BranchIndexed b x)
  form_covers (SkipBy b) n h = stays_there (SkipBy b)
  form_covers (Call a) n h = omega arith
  form_covers Return n h = rising (instruction_of Return) u.sp (u.sp + 2) (omega arith)
  form_covers (KeepStack b) n h = stays_there (KeepStack b)
  form_covers RestoreStack n h = rising (instruction_of RestoreStack) u.sp (ram_word u u.sp) h.2.0

-- an instruction with what it uncovers
by_power : (b : Bool) (i : Instr) (s : MachineBoard) (o : MachineOutcome)
    → (if b then Stops [] 0 stop.Off else uncovering i s o) ≡ uncovering i s (if b then Stops [] 0 stop.Off else o)
by_power true i s o = refl
by_power false i s o = refl

uncovers : (i : Instr) (s : MachineBoard) (o : MachineOutcome) → plainly i s ≡ o → step_with (Some i) s ≡ uncovering i s o
uncovers i s o e = by_power (off_bit s.registers == 1) i s (code_executed s i) ∙ ap (uncovering i s) e

-- SP is set, maybe down
sets_down : (n : ℕ) (u : Core) → uncovering (instruction_of (SetStack n)) (board_of u) (outcome_of_core (plain_step (SetStack n) u))
    ≡ outcome_of_core (form_step (SetStack n) u)
sets_down n u =
    let t : Core = record u { pc = u.pc + 4; sp = n } in
    ap (λ b. Goes [] 2 (record (board_of t) { ram = if b then forgotten n u.sp u.ram else u.ram })) (interruptible_is u.pc u.sp u.enabled u.flags u.work)

other_does : (rules : CodeRules) (m : Form) (u : Core) → IsCodeAddress u.pc → FormNeeds rules m u → IsNoSetting m
    → plainly (instruction_of m) (board_of u) ≡ outcome_of_core (form_step m u) → step_with (Some (instruction_of m)) (board_of u) ≡ outcome_of_core (form_step m u)
other_does rules m u c h n e =
    uncovers (instruction_of m) (board_of u) (outcome_of_core (form_step m u)) e ∙ covering m u (form_step m u) (form_covers rules u m n h)

pub form_does : FormsDoAsInstructions
form_does rules (SetStack n) u c h =
    uncovers (instruction_of (SetStack n)) (board_of u) (outcome_of_core (plain_step (SetStack n) u)) (form_plainly rules (SetStack n) u c h) ∙ sets_down n u
form_does rules (Move x y) u c h = other_does rules (Move x y) u c h tt (form_plainly rules (Move x y) u c h)
form_does rules (Calculate op x b) u c h = other_does rules (Calculate op x b) u c h tt (form_plainly rules (Calculate op x b) u c h)
form_does rules (Compare x a) u c h = other_does rules (Compare x a) u c h tt (form_plainly rules (Compare x a) u c h)
form_does rules (Update op x a) u c h = other_does rules (Update op x a) u c h tt (form_plainly rules (Update op x a) u c h)
form_does rules (Push x) u c h = other_does rules (Push x) u c h tt (form_plainly rules (Push x) u c h)
form_does rules (Modify m b) u c h = other_does rules (Modify m b) u c h tt (form_plainly rules (Modify m b) u c h)
form_does rules EnableInterrupts u c h = other_does rules EnableInterrupts u c h tt (form_plainly rules EnableInterrupts u c h)
form_does rules (Sense b) u c h = other_does rules (Sense b) u c h tt (form_plainly rules (Sense b) u c h)
form_does rules (Jump k o) u c h = other_does rules (Jump k o) u c h tt (form_plainly rules (Jump k o) u c h)
form_does rules (Skip n) u c h = other_does rules (Skip n) u c h tt (form_plainly rules (Skip n) u c h)
form_does rules (Branch a) u c h = other_does rules (Branch a) u c h tt (form_plainly rules (Branch a) u c h)
form_does rules (BranchIndexed b x) u c h = other_does rules (BranchIndexed b x) u c h tt (form_plainly rules (BranchIndexed b x) u c h)
form_does rules (SkipBy b) u c h = other_does rules (SkipBy b) u c h tt (form_plainly rules (SkipBy b) u c h)
form_does rules (Call a) u c h = other_does rules (Call a) u c h tt (form_plainly rules (Call a) u c h)
form_does rules Return u c h = other_does rules Return u c h tt (form_plainly rules Return u c h)
form_does rules (KeepStack b) u c h = other_does rules (KeepStack b) u c h tt (form_plainly rules (KeepStack b) u c h)
form_does rules RestoreStack u c h = other_does rules RestoreStack u c h tt (form_plainly rules RestoreStack u c h)
