-- FRAM from the handler on stays as it is: no write is served there.
use Rattle.std.proofs.Common.{◌≡◌, ◌==◌, ◌&&◌, ◌≤◌, ◌<◌, if◌then◌else◌, arith, ℕ, refl, ◌∙◌, Bool, true, false, ltb-true, nat_lt, List, [], ◌∷◌, ◌++◌}
use Rattle.std.proofs.Common.{Option, Some, None, ap, subst}
use Rattle.std.proofs.lemmas.Bool.{and_parts}
use Rattle.event_places.specs.Places.{handler_place}
use Rattle.fram_board.specs.alp_words.declared.Width.{Width}
use Rattle.fram_board.specs.alp_words.declared.Width.TheVariants.{Word, Byte}
use Rattle.fram_board.specs.msp_isa.declared.instructions.Instr.{Instr}
use Rattle.fram_board.specs.msp_step.Registers.{Registers}
use Rattle.fram_board.specs.msp_step.Access.{Access, Completed, Faulted}
use Rattle.fram_board.specs.msp_step.Reads.{HasRead, Nothing, Once}
use Rattle.fram_board.specs.msp_step.Effect.{Written}
use Rattle.fram_board.specs.msp_step.Step.{effect, off_bit}
use Rattle.fram_board.specs.msp_step.Laws.{AfterWrite}
use Rattle.fram_board.proofs.msp_step.Interface.{Ends, effect_ends}
use Rattle.fram_board.specs.msp_cycles.Cycles.{cycles_of}
use Rattle.fram_board.specs.msp_step.declared.machine.Stop.TheVariants as stop
use Rattle.fram_board.specs.Bus.{is_ram, is_memory, is_word, with_byte, sensor_port, number_port, data_port}
use Rattle.fram_board.specs.Effects.{Effect, Store, Outside, Offered}
use Rattle.machine_effects.specs.World.{put}
use Rattle.machine_effects.specs.Inputs.{Look, first_look, other_looks, look_effects}
use Rattle.machine_effects.specs.Going.{Goes, Stops, step_behind}
use Rattle.machine_effects.specs.Machine.{MachineBus, machine_bus, machine_word, word_address, is_readable, reading_taken, machine_after_read, machine_stored}
use Rattle.machine_effects.specs.Machine.{word_written, machine_port_written, machine_written, MachineBoard, machine_opened_seeing, MachineOutcome}
use Rattle.machine_effects.specs.Machine.{machine_outcome}
use Rattle.machine_effects.specs.Machine.{looks_there, machine_executed_seeing, machine_executed, executed_looking, code_executed, uncovering, standing, step_with, astray}
use Rattle.machine_effects.specs.Machine.{is_exposed, undisturbed}
use Rattle.machine_effects.specs.Laws.{KeepsTheHandler, CodeKeepsTheHandler}
use Rattle.machine_effects.proofs.Worlds.{put_other}

-- from one bus to another
abbrev Keeps : MachineBus → MachineBus → Type 0
Keeps s t = (a : ℕ) → handler_place ≤ a → t.fram a ≡ s.fram a

abbrev KeepsIf : MachineBus → Option MachineBus → Type 0
KeepsIf s None = Unit {0}
KeepsIf s (Some t) = Keeps s t

taking_keeps : (ws : List ℕ) (s : MachineBus) → Keeps s (reading_taken ws s)
taking_keeps [] s a l = refl
taking_keeps (w ∷ ws) s a l = refl

taking_if_keeps : (b : Bool) (s : MachineBus) → Keeps s (if b then reading_taken s.inputs.readings s else s)
taking_if_keeps true s = taking_keeps s.inputs.readings s
taking_if_keeps false s = λ a l. refl

read_keeps : (s : MachineBus) (a : ℕ) (w : Width) → Keeps s (machine_after_read s a w)
read_keeps s a Word = taking_if_keeps (a == sensor_port) s
read_keeps s a Byte = λ x l. refl

reads_keep : (s t : MachineBus) (n : ℕ) → HasRead machine_bus s n t → Keeps s t
reads_keep s t n Nothing x l = refl
reads_keep s t n (Once m u a w v h e) x l = read_keeps u a w x l ∙ reads_keep s u m h x l

-- a word of memory in front of the handler is written
stored_keeps : (b : Bool) (s : MachineBus) (a v : ℕ) → (b ≡ false → a < handler_place)
    → Keeps s (if b then record s { ram = put s.ram (word_address a) (Some v) } else record s
    { fram = put s.fram (word_address a) v; log = s.log ++ Store (word_address a) v ∷ [] })
stored_keeps true s a v low x l = refl
stored_keeps false s a v low x l = let below = low refl in put_other s.fram (word_address a) v x (λ e. omega (arith, below, l, e))

port_keeps : (b c : Bool) (u : MachineBus) (v : ℕ)
    → KeepsIf u (if b then Some (record u { outnum = v }) else if c then Some (record u { log = u.log ++ Outside (Offered u.outnum v) ∷ [] }) else None)
port_keeps true c u v = λ x l. refl
port_keeps false true u v = λ x l. refl
port_keeps false false u v = tt

served : (b : Bool) (u : MachineBus) (x y : Option MachineBus) → (b ≡ true → KeepsIf u x) → KeepsIf u y → KeepsIf u (if b then x else y)
served true u x y g h = g refl
served false u x y g h = h

-- what a byte's word may be read at is in front of the handler, where it isn't RAM
otherwise : (b c d : Bool) → (if b then c else d) ≡ true → b ≡ false → d ≡ true
otherwise true c d h e = absurd cc
otherwise false c d h e = h

written_keeps : (u : MachineBus) (a : ℕ) (w : Width) (v : ℕ) → KeepsIf u (machine_written u a w v)
written_keeps u a Word v =
    served (is_word a) u (word_written u a v) (machine_port_written u a v)
    (λ e. served (nat_lt a handler_place) u (Some (machine_stored u a v)) None
    (λ l. stored_keeps (is_ram a) u a v (λ q. ltb-true a handler_place l)) tt) (port_keeps (a == number_port) (a == data_port) u v)
written_keeps u a Byte v =
    served (is_memory a && is_readable u a) u (Some (machine_stored u a (with_byte (machine_word u a) a v))) None
    (λ e. stored_keeps (is_ram a) u a (with_byte (machine_word u a) a v)
    (λ q. ltb-true a handler_place (otherwise (is_ram a) _ (nat_lt a handler_place) (and_parts (is_memory a) (is_readable u a) e).1 q))) tt

write_keeps : (s u t : MachineBus) (w : Option Written) → Keeps s u → AfterWrite machine_bus w u t → Keeps s t
write_keeps s u t None g h x l = ap (λ b. b.fram x) h ∙ g x l
write_keeps s u t (Some w) g h x l =
    let P : Option MachineBus → Type 0 = λ b. KeepsIf u b in
    let k : Keeps u t = subst P h.1 (written_keeps u w.0 h.0 w.1) in k x l ∙ g x l

-- what an access leaves
abbrev KeepsBy : MachineBus → Access MachineBus (Registers × Option Written) → Type 0
KeepsBy s (Completed x t) = Keeps s t
KeepsBy s (Faulted e a t) = Unit {0}

ends_keep : (s : MachineBus) (m : Access MachineBus (Registers × Option Written)) → Ends machine_bus 2 s m → KeepsBy s m
ends_keep s (Completed x t) h = write_keeps s h.0 t x.1 (reads_keep s h.0 h.1.count h.1.reads) h.2
ends_keep s (Faulted e a t) h = tt

outcome_keeps : (ring : Option Look) (s : MachineBoard) (pc c : ℕ) (m : Access MachineBus (Registers × Option Written))
    → KeepsBy (machine_opened_seeing ring s) m → KeepsTheHandler s (machine_outcome pc c m)
outcome_keeps ring s pc c (Completed x t) h = h
outcome_keeps ring s pc c (Faulted e a t) h = tt

executed_keeps : (ring : Option Look) (s : MachineBoard) (i : Instr) → KeepsTheHandler s (machine_executed_seeing ring s i)
executed_keeps ring s i =
    let t = machine_opened_seeing ring s in
    outcome_keeps ring s (s.registers 0) (cycles_of i) (effect machine_bus i s.registers t)
    (ends_keep t (effect machine_bus i s.registers t) (effect_ends machine_bus i s.registers t))

keeps_behind_look : (es : List Effect) (more : List Look) (s : MachineBoard) (o : MachineOutcome)
    → KeepsTheHandler (record s { inputs = record s.inputs { looks = more } }) o → KeepsTheHandler s (step_behind es o)
keeps_behind_look es more s (Goes fs c t) h = h
keeps_behind_look es more s (Stops fs price x) h = tt

looking_keeps : (looks : List Look) (s : MachineBoard) (i : Instr) → KeepsTheHandler s (executed_looking looks s i)
looking_keeps looks s i =
    let behind : MachineBoard = record s { inputs = record s.inputs { looks = other_looks looks } } in
    let look : Option Look = Some (first_look looks) in
    keeps_behind_look (look_effects looks) (other_looks looks) s (machine_executed_seeing look behind i) (executed_keeps look behind i)

either_keeps : (b : Bool) (s : MachineBoard) (o p : MachineOutcome) → KeepsTheHandler s o → KeepsTheHandler s p → KeepsTheHandler s (if b then o else p)
either_keeps true s o p h k = h
either_keeps false s o p h k = k

-- an instruction of any code leaves it
pub code_keeps : (s : MachineBoard) (i : Instr) → KeepsTheHandler s (code_executed s i)
code_keeps s i = either_keeps (looks_there i) s (executed_looking s.inputs.looks s i) (machine_executed s i) (looking_keeps s.inputs.looks s i)
    (executed_keeps None s i)

uncovering_keeps : (i : Instr) (s : MachineBoard) (o : MachineOutcome) → KeepsTheHandler s o → KeepsTheHandler s (uncovering i s o)
uncovering_keeps i s (Goes es c t) h = h
uncovering_keeps i s (Stops es price e) h = tt

standing_keeps : (o : Option Instr) (s : MachineBoard) → KeepsTheHandler s (standing o s)
standing_keeps None s = tt
standing_keeps (Some i) s = uncovering_keeps i s (code_executed s i) (code_keeps s i)

step_keeps : (i : Option Instr) (s : MachineBoard) → KeepsTheHandler s (step_with i s)
step_keeps i s = either_keeps (off_bit s.registers == 1) s (Stops [] 0 stop.Off) (standing i s) tt (standing_keeps i s)

undisturbed_keeps : (events : Bool) (s : MachineBoard) (o : MachineOutcome) → KeepsTheHandler s o → KeepsTheHandler s (undisturbed events s o)
undisturbed_keeps events s (Goes es c t) h = either_keeps (is_exposed events s t) s (Stops [] 0 (astray s)) (Goes es c t) tt h
undisturbed_keeps events s (Stops es price e) h = tt

-- code that stays leaves it
pub code_keeps_the_handler : CodeKeepsTheHandler
code_keeps_the_handler code s =
    let i = code.at (s.registers 0) in
    undisturbed_keeps code.events s (step_with i s) (step_keeps i s)
