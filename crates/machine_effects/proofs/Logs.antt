-- What the machine's bus logs of an instruction: the readings that it takes, and then its one store or its one send.
use Rattle.std.proofs.Common.{nat_lt, ◌&&◌}
use Rattle.std.proofs.Common.{◌≡◌, ◌==◌, if◌then◌else◌, ◌%◌, arith, ℕ, refl, sym, ◌∙◌, ap, subst, Bool, true, false, List, [], ◌∷◌, ◌++◌, map, append_assoc}
use Rattle.std.proofs.Common.{append-nil, eq-eqb, Option, Some, None}
use Rattle.std.proofs.lemmas.List.{map-append}
use Rattle.std.proofs.lemmas.Bool.Decides.{nat_tests}
use Rattle.std.proofs.lemmas.Bool.{and_parts}
use Rattle.event_places.specs.Places.{handler_place}
use Rattle.fram_board.specs.alp_words.declared.Width.{Width}
use Rattle.fram_board.specs.alp_words.declared.Width.TheVariants.{Word, Byte}
use Rattle.fram_board.specs.msp_isa.declared.instructions.Instr.{Instr}
use Rattle.fram_board.specs.msp_step.Registers.{Registers}
use Rattle.fram_board.specs.msp_step.Access.{Access, Completed, Faulted}
use Rattle.fram_board.specs.msp_step.Reads.{HasRead, Nothing, Once, OnlyReads}
use Rattle.fram_board.specs.msp_step.Effect.{Written}
use Rattle.fram_board.specs.msp_step.Step.{effect, off_bit}
use Rattle.fram_board.specs.msp_step.Laws.{AfterWrite}
use Rattle.fram_board.proofs.msp_step.Interface.{Ends, effect_ends}
use Rattle.fram_board.specs.msp_cycles.Cycles.{cycles_of}
use Rattle.fram_board.specs.msp_step.declared.machine.Stop.TheVariants as stop
use Rattle.fram_board.specs.Bus.{is_ram, is_fram, is_memory, is_word, with_byte, sensor_port, number_port, data_port}
use Rattle.fram_board.specs.Effects.{Effect, Store, Take, Outside, Offered, sends_of}
use Rattle.fram_board.proofs.Interface.{data_not_fram, other_is_fram, ram_not_fram}
use Rattle.machine_effects.specs.World.{put, fram_after, readings_taken, looks_taken}
use Rattle.machine_effects.specs.Going.{Goes, Stops, step_behind}
use Rattle.machine_effects.specs.Machine.{MachineBus, machine_bus, machine_word, word_address, reading_taken, machine_after_read, machine_stored}
use Rattle.machine_effects.specs.Inputs.{Look, Inputs, first_look, other_looks, look_effects, TakesExactly}
use Rattle.machine_effects.specs.Machine.{is_readable, word_written, looks_there, machine_executed_seeing, executed_looking, code_executed}
use Rattle.machine_effects.specs.Machine.{machine_port_written, machine_written, MachineBoard, machine_opened_seeing, MachineOutcome, machine_outcome}
use Rattle.machine_effects.specs.Machine.{machine_executed, NoInstruction, Executes, uncovering, standing, step_with, astray, is_exposed, undisturbed}
use Rattle.machine_effects.specs.Laws.{CodeChangesByEffects, MachineChangesByEffects}
use Rattle.machine_effects.specs.Changes.{ChangesByEffects}
use Rattle.machine_effects.proofs.Worlds.{fram_after-append, readings_taken-append, looks_taken-append, taking_keeps_fram, taking_takes, taking_looks}
use Rattle.machine_effects.proofs.Inputs.{takes_nothing, takes_look, takes_through}

-- the effects of readings taken, the first one first
abbrev pub takes : List ℕ → List Effect
takes ws = map (λ w. Take w) ws

-- readings were taken and logged, and nothing else
pub record Took (s t : MachineBus) : Type 0 where
  pub words : List ℕ
  pub same : t ≡ record s { inputs = t.inputs; log = s.log ++ takes words }
  pub left : words ++ t.inputs.readings ≡ s.inputs.readings
  pub looks : t.inputs.looks ≡ s.inputs.looks

took_none : (s : MachineBus) → Took s s
took_none s = record { words = []; same = ap {A = List Effect} (λ l. record s { log = l }) (sym (append-nil s.log)); left = refl; looks = refl }

took_first : (ws : List ℕ) (s : MachineBus) → s.inputs.readings ≡ ws → Took s (reading_taken ws s)
took_first [] s e = took_none s
took_first (w ∷ ws) s e = record { words = w ∷ []; same = refl; left = sym e; looks = refl }

took_if : (b : Bool) (s : MachineBus) → Took s (if b then reading_taken s.inputs.readings s else s)
took_if true s = took_first s.inputs.readings s refl
took_if false s = took_none s

took_read : (s : MachineBus) (a : ℕ) (w : Width) → Took s (machine_after_read s a w)
took_read s a Word = took_if (a == sensor_port) s
took_read s a Byte = took_none s

took_join : (s t u : MachineBus) → Took s t → Took t u → Took s u
took_join s t u g h = record {
  words = g.words ++ h.words;
  same = h.same
      ∙ ap {A = MachineBus} (λ x. record x { inputs = u.inputs; log = x.log ++ takes h.words }) g.same
      ∙ ap {A = List Effect} (λ l. record s { inputs = u.inputs; log = l })
      (append_assoc s.log (takes g.words) (takes h.words) ∙ ap (λ l. s.log ++ l) (sym (map-append (λ w. Take w) g.words h.words)));
  left = append_assoc g.words h.words u.inputs.readings ∙ ap (λ l. g.words ++ l) h.left ∙ g.left;
  looks = h.looks ∙ g.looks;
}

took_reads : (s t : MachineBus) (n : ℕ) → HasRead machine_bus s n t → Took s t
took_reads s t n Nothing = took_none s
took_reads s t n (Once m u a w v h e) = took_join s u t (took_reads s u m h) (took_read u a w)

pub only_took : (n : ℕ) (s t : MachineBus) → OnlyReads machine_bus n s t → Took s t
only_took n s t h = took_reads s t h.count h.reads

-- the word that a write offers
abbrev pub offered_by : ℕ → ℕ → Option ℕ
offered_by a v = if a == data_port then Some v else None

-- the store of a write at this address, with FRAM after it
abbrev pub store_by : ℕ → (ℕ → ℕ) → List Effect
store_by a f = if is_fram a then Store (word_address a) (f (word_address a)) ∷ [] else []

abbrev pub write_effects : ℕ → ℕ → (ℕ → ℕ) → ℕ → List Effect
write_effects a v f number = store_by a f ++ sends_of number (offered_by a v)

-- what a write left
pub record Wrote (u : MachineBus) (a v : ℕ) (t : MachineBus) : Type 0 where
  pub inputs : t.inputs ≡ u.inputs
  pub log : t.log ≡ u.log ++ write_effects a v t.fram u.outnum
  pub fram : t.fram ≡ fram_after (write_effects a v t.fram u.outnum) u.fram

quiet : (a v : ℕ) (f : ℕ → ℕ) (number : ℕ) → is_fram a ≡ false → (a == data_port) ≡ false → write_effects a v f number ≡ []
quiet a v f number e g = rw (e, g) refl

stores : (a v w : ℕ) (f : ℕ → ℕ) (number : ℕ) → is_fram a ≡ true → (a == data_port) ≡ false
    → write_effects a v (put f (word_address a) w) number ≡ Store (word_address a) w ∷ []
stores a v w f number e g = rw (e, g, eq-eqb (word_address a) (word_address a) refl) refl

sends : (a v : ℕ) (f : ℕ → ℕ) (number : ℕ) → is_fram a ≡ false → (a == data_port) ≡ true → write_effects a v f number ≡ Outside (Offered number v) ∷ []
sends a v f number e g = rw (e, g) refl

memory_no_data : (a : ℕ) → is_memory a ≡ true → (a == data_port) ≡ false
memory_no_data a e = grind (arith, nat_tests)

pub number_no_fram : (a : ℕ) → (a == number_port) ≡ true → (is_fram a ≡ false) × ((a == data_port) ≡ false)
number_no_fram a e = (grind (arith, nat_tests), grind (arith, nat_tests))

wrote_quiet : (u t : MachineBus) (a v : ℕ) → is_fram a ≡ false → (a == data_port) ≡ false → t.inputs ≡ u.inputs → t.log ≡ u.log
    → t.fram ≡ u.fram → Wrote u a v t
wrote_quiet u t a v e g r l f =
    let n = quiet a v t.fram u.outnum e g in
    record { inputs = r; log = l ∙ sym (append-nil u.log) ∙ ap (λ x. u.log ++ x) (sym n); fram = f ∙ ap (λ x. fram_after x u.fram) (sym n) }

wrote_fram : (u : MachineBus) (a v w : ℕ) → is_fram a ≡ true → (a == data_port) ≡ false
    → Wrote u a v (record u { fram = put u.fram (word_address a) w; log = u.log ++ Store (word_address a) w ∷ [] })
wrote_fram u a v w e g =
    let n = stores a v w u.fram u.outnum e g in
    record { inputs = refl; log = ap (λ x. u.log ++ x) (sym n); fram = ap (λ x. fram_after x u.fram) (sym n) }

stored_wrote : (b : Bool) (u : MachineBus) (a v w : ℕ) → is_ram a ≡ b → is_memory a ≡ true
    → Wrote u a v (if b then record u { ram = put u.ram (word_address a) (Some w) } else record u
    { fram = put u.fram (word_address a) w; log = u.log ++ Store (word_address a) w ∷ [] })
stored_wrote true u a v w e m = wrote_quiet u (record u { ram = put u.ram (word_address a) (Some w) }) a v (ram_not_fram a e) (memory_no_data a m) refl refl refl
stored_wrote false u a v w e m = wrote_fram u a v w (other_is_fram a e m) (memory_no_data a m)

abbrev WroteIf : MachineBus → ℕ → ℕ → Option MachineBus → Type 0
WroteIf u a v None = Unit {0}
WroteIf u a v (Some t) = Wrote u a v t

port_wrote : (b c : Bool) (u : MachineBus) (a v : ℕ) → (a == number_port) ≡ b → (a == data_port) ≡ c
    → WroteIf u a v (if b then Some (record u { outnum = v }) else if c then Some (record u { log = u.log ++ Outside (Offered u.outnum v) ∷ [] }) else None)
port_wrote true c u a v e g = let n = number_no_fram a e in wrote_quiet u (record u { outnum = v }) a v n.0 n.1 refl refl refl
port_wrote false true u a v e g =
    let n = sends a v u.fram u.outnum (data_not_fram a g) g in
    record { inputs = refl; log = ap (λ x. u.log ++ x) (sym n); fram = ap (λ x. fram_after x u.fram) (sym n) }
port_wrote false false u a v e g = tt

served : (b : Bool) (u : MachineBus) (a v : ℕ) (x y : Option MachineBus) → (b ≡ true → WroteIf u a v x) → WroteIf u a v y → WroteIf u a v (if b then x else y)
served true u a v x y g h = g refl
served false u a v x y g h = h

written_wrote : (u : MachineBus) (a : ℕ) (w : Width) (v : ℕ) → WroteIf u a v (machine_written u a w v)
written_wrote u a Word v =
    served (is_word a) u a v (word_written u a v) (machine_port_written u a v)
    (λ e. served (nat_lt a handler_place) u a v (Some (machine_stored u a v)) None
    (λ l. stored_wrote (is_ram a) u a v v refl (and_parts (a % 2 == 0) (is_memory a) e).1) tt) (port_wrote (a == number_port) (a == data_port) u a v refl refl)
written_wrote u a Byte v =
    served (is_memory a && is_readable u a) u a v (Some (machine_stored u a (with_byte (machine_word u a) a v))) None
    (λ e. stored_wrote (is_ram a) u a v (with_byte (machine_word u a) a v) refl (and_parts (is_memory a) (is_readable u a) e).0) tt

-- the effects of the one write of an instruction, if it makes one
abbrev pub written_effects : Option Written → (ℕ → ℕ) → ℕ → List Effect
written_effects None f number = []
written_effects (Some w) f number = write_effects w.0 w.1 f number

-- what an instruction that is served leaves
pub record Logged (s : MachineBus) (w : Option Written) (t : MachineBus) : Type 0 where
  pub words : List ℕ
  pub left : words ++ t.inputs.readings ≡ s.inputs.readings
  pub looks : t.inputs.looks ≡ s.inputs.looks
  pub log : t.log ≡ (s.log ++ takes words) ++ written_effects w t.fram s.outnum
  pub fram : t.fram ≡ fram_after (written_effects w t.fram s.outnum) s.fram

logged_write : (s u t : MachineBus) (w : Option Written) → Took s u → AfterWrite machine_bus w u t → Logged s w t
logged_write s u t None g h = record {
  words = g.words;
  left = ap (λ x. g.words ++ x.inputs.readings) h ∙ g.left;
  looks = ap (λ x. x.inputs.looks) h ∙ g.looks;
  log = ap (λ x. x.log) h ∙ ap (λ x. x.log) g.same ∙ sym (append-nil (s.log ++ takes g.words));
  fram = ap (λ x. x.fram) h ∙ ap (λ x. x.fram) g.same;
}
logged_write s u t (Some w) g h =
    let P : Option MachineBus → Type 0 = λ x. WroteIf u w.0 w.1 x in
    let k : Wrote u w.0 w.1 t = subst P h.1 (written_wrote u w.0 h.0 w.1) in
    let number : u.outnum ≡ s.outnum = ap (λ x. x.outnum) g.same in
    record {
      words = g.words;
      left = ap (λ x. g.words ++ x.readings) k.inputs ∙ g.left;
      looks = ap (λ x. x.looks) k.inputs ∙ g.looks;
      log =
          k.log ∙ ap (λ x. x ++ write_effects w.0 w.1 t.fram u.outnum) (ap (λ x. x.log) g.same)
          ∙ ap (λ n. (s.log ++ takes g.words) ++ write_effects w.0 w.1 t.fram n) number;
      fram =
          k.fram ∙ ap (λ n. fram_after (write_effects w.0 w.1 t.fram n) u.fram) number
          ∙ ap (λ f. fram_after (write_effects w.0 w.1 t.fram s.outnum) f) (ap (λ x. x.fram) g.same);
    }

-- what an access leaves of a bus whose log was empty
abbrev pub LoggedBy : MachineBus → Access MachineBus (Registers × Option Written) → Type 0
LoggedBy s (Completed x t) = Logged s x.1 t
LoggedBy s (Faulted e a t) = Took s t

ends_logged : (s : MachineBus) (m : Access MachineBus (Registers × Option Written)) → Ends machine_bus 2 s m → LoggedBy s m
ends_logged s (Completed x t) h = logged_write s h.0 t x.1 (only_took 2 s h.0 h.1) h.2
ends_logged s (Faulted e a t) h = only_took 2 s t h

-- an instruction's effects are logged
pub effect_logged : (i : Instr) (r : Registers) (s : MachineBus) → LoggedBy s (effect machine_bus i r s)
effect_logged i r s = ends_logged s (effect machine_bus i r s) (effect_ends machine_bus i r s)

-- a write takes no reading
no_reading : (b : Bool) (o : Option ℕ) (a w n : ℕ) → readings_taken ((if b then Store a w ∷ [] else []) ++ sends_of n o) ≡ []
no_reading true None a w n = refl
no_reading true (Some v) a w n = refl
no_reading false None a w n = refl
no_reading false (Some v) a w n = refl

written_takes_none : (w : Option Written) (f : ℕ → ℕ) (n : ℕ) → readings_taken (written_effects w f n) ≡ []
written_takes_none None f n = refl
written_takes_none (Some w) f n = no_reading (is_fram w.0) (offered_by w.0 w.1) (word_address w.0) (f (word_address w.0)) n

-- nor a look
no_look : (b : Bool) (o : Option ℕ) (a w n : ℕ) → looks_taken ((if b then Store a w ∷ [] else []) ++ sends_of n o) ≡ []
no_look true None a w n = refl
no_look true (Some v) a w n = refl
no_look false None a w n = refl
no_look false (Some v) a w n = refl

written_looks_none : (w : Option Written) (f : ℕ → ℕ) (n : ℕ) → looks_taken (written_effects w f n) ≡ []
written_looks_none None f n = refl
written_looks_none (Some w) f n = no_look (is_fram w.0) (offered_by w.0 w.1) (word_address w.0) (f (word_address w.0)) n

looked_none : (ws : List ℕ) (es : List Effect) → looks_taken es ≡ [] → looks_taken (takes ws ++ es) ≡ []
looked_none ws es e = looks_taken-append (takes ws) es ∙ ap (λ l. l ++ looks_taken es) (taking_looks ws) ∙ e

taken_all : (ws : List ℕ) (es : List Effect) → readings_taken es ≡ [] → readings_taken (takes ws ++ es) ≡ ws
taken_all ws es e = readings_taken-append (takes ws) es ∙ ap (λ l. l ++ readings_taken es) (taking_takes ws) ∙ ap (λ l. ws ++ l) e ∙ append-nil ws

outcome_changes : (ring : Option Look) (s : MachineBoard) (pc c : ℕ) (m : Access MachineBus (Registers × Option Written))
    → LoggedBy (machine_opened_seeing ring s) m → ChangesByEffects s (machine_outcome pc c m)
outcome_changes ring s pc c (Completed x t) h =
    let new = written_effects x.1 t.fram s.outnum in (
      h.fram ∙ sym (ap (λ es. fram_after es s.fram) h.log ∙ fram_after-append (takes h.words) new s.fram ∙ ap (λ f. fram_after new f)
          (taking_keeps_fram h.words s.fram)),
      record {
        readings =
            ap (λ l. l ++ t.inputs.readings) (ap readings_taken h.log ∙ taken_all h.words new (written_takes_none x.1 t.fram s.outnum)) ∙ h.left;
        looks =
            ap (λ l. l ++ t.inputs.looks) (ap looks_taken h.log ∙ looked_none h.words new (written_looks_none x.1 t.fram s.outnum)) ∙ h.looks;
      },
    )
outcome_changes ring s pc c (Faulted e a t) h =
    let log : t.log ≡ takes h.words = ap (λ x. x.log) h.same in (
      ap (λ es. fram_after es s.fram) log ∙ taking_keeps_fram h.words s.fram,
      (
        t.inputs,
        record {
          readings = ap (λ l. l ++ t.inputs.readings) (ap readings_taken log ∙ taking_takes h.words) ∙ h.left;
          looks = ap (λ l. l ++ t.inputs.looks) (ap looks_taken log ∙ taking_looks h.words) ∙ h.looks;
        },
      ),
    )

pub executed_changes : (ring : Option Look) (s : MachineBoard) (i : Instr) → ChangesByEffects s (machine_executed_seeing ring s i)
executed_changes ring s i =
    let t = machine_opened_seeing ring s in
    outcome_changes ring s (s.registers 0) (cycles_of i) (effect machine_bus i s.registers t) (effect_logged i s.registers t)

-- FRAM behind a look is as before
look_keeps_fram : (looks : List Look) (es : List Effect) (f : ℕ → ℕ) → fram_after (look_effects looks ++ es) f ≡ fram_after es f
look_keeps_fram [] es f = refl
look_keeps_fram (look ∷ more) es f = refl

-- behind effects of a look, which takes this of the inputs
changes_behind_look : (looks : List Look) (left : Inputs) (s : MachineBoard) (o : MachineOutcome) → TakesExactly (look_effects looks) s.inputs left
    → ChangesByEffects (record s { inputs = left }) o → ChangesByEffects s (step_behind (look_effects looks) o)
changes_behind_look looks left s (Goes es c t) k h =
    (h.0 ∙ sym (look_keeps_fram looks es s.fram), takes_through (look_effects looks) es s.inputs left t.inputs k h.1)
changes_behind_look looks left s (Stops es price x) k h =
    (look_keeps_fram looks es s.fram ∙ h.0, (h.1.0, takes_through (look_effects looks) es s.inputs left h.1.0 k h.1.1))

looking_changes : (s : MachineBoard) (i : Instr) → ChangesByEffects s (executed_looking s.inputs.looks s i)
looking_changes s i =
    let left : Inputs = record s.inputs { looks = other_looks s.inputs.looks } in
    changes_behind_look s.inputs.looks left s _ (takes_look s.inputs)
    (executed_changes (Some (first_look s.inputs.looks)) (record s { inputs = left }) i)

either_changes : (b : Bool) (s : MachineBoard) (o p : MachineOutcome) → ChangesByEffects s o → ChangesByEffects s p → ChangesByEffects s (if b then o else p)
either_changes true s o p h k = h
either_changes false s o p h k = k

-- an instruction of code changes FRAM and the inputs so
pub code_changes : (s : MachineBoard) (i : Instr) → ChangesByEffects s (code_executed s i)
code_changes s i = either_changes (looks_there i) s _ _ (looking_changes s i) (executed_changes None s i)

uncovering_changes : (i : Instr) (s : MachineBoard) (o : MachineOutcome) → ChangesByEffects s o → ChangesByEffects s (uncovering i s o)
uncovering_changes i s (Goes es c t) h = h
uncovering_changes i s (Stops es price e) h = h

standing_changes : (o : Option Instr) (s : MachineBoard) → ChangesByEffects s (standing o s)
standing_changes None s = (refl, (s.inputs, takes_nothing s.inputs))
standing_changes (Some i) s = uncovering_changes i s (code_executed s i) (code_changes s i)

if_off : (b : Bool) (s : MachineBoard) (o : MachineOutcome) → ChangesByEffects s o → ChangesByEffects s (if b then Stops [] 0 stop.Off else o)
if_off true s o h = (refl, (s.inputs, takes_nothing s.inputs))
if_off false s o h = h

-- a step changes as its effects say
pub step_changes : (i : Option Instr) (s : MachineBoard) → ChangesByEffects s (step_with i s)
step_changes i s = if_off (off_bit s.registers == 1) s (standing i s) (standing_changes i s)

undisturbed_if : (b : Bool) (s : MachineBoard) (o : MachineOutcome) → ChangesByEffects s o → ChangesByEffects s (if b then Stops [] 0 (astray s) else o)
undisturbed_if true s o h = (refl, (s.inputs, takes_nothing s.inputs))
undisturbed_if false s o h = h

undisturbed_changes : (events : Bool) (s : MachineBoard) (o : MachineOutcome) → ChangesByEffects s o → ChangesByEffects s (undisturbed events s o)
undisturbed_changes events s (Goes es c t) h = undisturbed_if (is_exposed events s t) s (Goes es c t) h
undisturbed_changes events s (Stops es price e) h = h

-- code changes FRAM and inputs as its effects say
pub code_changes_by_effects : CodeChangesByEffects
code_changes_by_effects code s =
    let i = code.at (s.registers 0) in
    undisturbed_changes code.events s (step_with i s) (step_changes i s)

-- a machine changes as its effects say
pub machine_changes_by_effects : MachineChangesByEffects
machine_changes_by_effects s o (NoInstruction e h) = (refl, (s.inputs, takes_nothing s.inputs))
machine_changes_by_effects s o (Executes i h) = executed_changes None s i
