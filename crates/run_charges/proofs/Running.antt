-- A board on which a program runs that stands in FRAM, and its handler beside it: its instructions are the program's steps, and the handler's
-- are none of them.
use Rattle.std.proofs.Common.{◌≡◌, ◌==◌, ◌+◌, ◌*◌, ◌-◌, ◌≤◌, ◌<◌, ⊎_elim, ℕ, suc, refl, sym, ap, ◌∙◌, subst, arith, Bool, true, false, if◌then◌else◌}
use Rattle.std.proofs.Common.{nat_le, List, []}
use Rattle.std.proofs.Common.{◌∷◌, ◌++◌, length, Option, Some, None, Ok, Err, leb-true}
use Rattle.std.proofs.lemmas.Bool.{and_parts}
use Rattle.std.proofs.lemmas.Bool.Decides.{nat_tests}
use Rattle.address_space.specs.Limits.{event_vector, stack_floor, stack_top}
use Rattle.event_places.specs.Places.{handler_place, is_ring}
use Rattle.msp_isa.specs.declared.instructions.Instr.{Instr}
use Rattle.msp_isa.specs.declared.instructions.Instr.TheVariants as instr
use Rattle.msp_cycles.specs.Cycles.{cycles_of}
use Rattle.msp_step.specs.declared.machine.Stop.{Stop}
use Rattle.msp_step.specs.declared.machine.Stop.TheVariants as stop
use Rattle.msp_step.specs.Registers.{registers_of}
use Rattle.msp_step.specs.Step.{is_interruptible, off_bit, IsCurrentInstruction, IsStopped}
use Rattle.machine_effects.proofs.msp_step.Interface.{same_current, not_stopped}
use Rattle.fram_board.specs.declared.board.NextStep.{NextStep}
use Rattle.fram_board.specs.declared.board.NextStep.TheVariants as next_step
use Rattle.fram_board.specs.declared.board.Stepped.{Stepped}
use Rattle.fram_board.specs.Bus.{board_bus}
use Rattle.fram_board.specs.declared.events.Heard.TheVariants as heard
use Rattle.fram_board.specs.Events.{is_full, words_in, words_heard}
use Rattle.fram_board.specs.Board.{BoardValue, opened, executed, performed, at_boundary, is_accepting, IsNextInstruction, IsStoppedBy, IsNextStep, HasNoStep}
use Rattle.fram_board.specs.Effects.{Effect, effects_of}
use Rattle.fram_board.specs.Run.{Measure, price, kind_of, Moment, moment_of, RunOutcome, ChargeRun, Spent, TooDear, Refused, Executed}
use Rattle.fram_board.specs.Run as run
use Rattle.machine_effects.specs.World.{fram_after, EachStore}
use Rattle.machine_effects.specs.Going.{Goes, Stops, At, stretch, after_effects, continued, going}
use Rattle.machine_effects.specs.Inputs.{Look, SeeWords, look_effects}
use Rattle.machine_effects.specs.Machine.{Code, MachineBoard, MachineOutcome, MachineStretch, IsStepBy, NoInstruction, Executes, program_executed, standing}
use Rattle.machine_effects.specs.Machine.{step_with, undisturbed, exec, fram_of, astray}
use Rattle.machine_effects.specs.Machine.{machine_bus, machine_opened, word_in, is_prepared, in_stack}
use Rattle.machine_effects.specs.View.{machine_with, IsWhole, IsOfWords, looks_at, seen_at_pc, IsBusFault}
use Rattle.machine_effects.specs.Laws.{KeepsTheHandler}
use Rattle.machine_effects.specs.Changes.{ChangesByEffects}
use Rattle.machine_effects.specs.Runs.{action_cycles}
use Rattle.machine_effects.proofs.Interface.{each_store-front, each_store-back, machine_is_of_words, seen_by_words, current_on, stopped_to_machine}
use Rattle.machine_effects.proofs.Interface.{code_keeps_the_handler}
use Rattle.fram_board.proofs.Interface.{told_heard}
use Rattle.machine_effects.proofs.Interface.{code_changes_by_effects}
use Rattle.event_handler.specs.Handler.{Stage, SaveR4, HasHandler, handler_length, instruction_at}
use Rattle.event_handler.specs.Boundaries.{IsInterrupted, IsInHandler, IsBehind, next_stage, heard_at, cycles_left, instructions_left}
use Rattle.program_view.specs.View.{steady, is_handlers_step}
use Rattle.program_view.specs.Stands.{Shows, StandsAs, AtCode, InHandler, cycles_due, steps_due, stage_of, stage_behind, waiting_at, waiting}
use Rattle.program_view.specs.Laws.{KeepsItsStack, KeepsRules, DoesAlike, Begins, GoesOn}
use Rattle.program_view.proofs.Interface.{steady_low, steady_off, instructions_are_the_programs, acceptances_begin, handlers_go_on, step_arises}
use Rattle.code_forms.specs.Placed.{placed, words_of, Holds, LeavesCode, IsOutside}
use Rattle.code_forms.specs.Laws.{IsNoHole}
use Rattle.code_forms.proofs.Interface.{placed_next, placed_within, holds_stores, code_in_fram_steps, code_goes_undisturbed, code_stays_prepared}
use Rattle.crash_rules.specs.Model.{Marks}
use Rattle.crash_rules.specs.Runs.{Program}
use Rattle.run_charges.specs.View.{is_handlers, outside_looks, outside_effects}
use Rattle.run_charges.specs.Moments.{IsServed, IsMomentFrom, Instructs, Serves, AreMoments}
use Rattle.run_charges.specs.Fronts.{IsPlacedProgram, accepts_in}
use Rattle.run_charges.proofs.View.{no_gap}
use Rattle.run_charges.proofs.Moments.{told_alike, step_is_programs, front_sees, nothing_seen, whole_behind, served_looks}
use Rattle.run_charges.proofs.Rules.{stack_kept}

-- a program in FRAM, with the marks of its runs: whether it takes events, where it stands, and the entry in the reset vector
pub record PlacedProgram : Type 1 where
  pub program : Program
  pub marks : Marks
  pub events : Bool
  pub place : ℕ
  pub instructions : List Instr
  pub entry : ℕ
  pub is : IsPlacedProgram program events place instructions entry

-- words in front of the handler stand steadily where they stand
holds_steady : (f : ℕ → ℕ) (p : ℕ) (ws : List ℕ) → p + 2 * length ws ≤ handler_place → Holds (steady f) p ws → Holds f p ws
holds_steady f p [] l h = tt
holds_steady f p (w ∷ ws) l h = (sym (steady_low f p (omega (arith, l))) ∙ h.0, holds_steady f (p + 2) ws (omega (arith, l)) h.1)

-- the handler is no ring
handler_off : (k : ℕ) → k < handler_length → is_ring (handler_place + 2 * k) ≡ false
handler_off k l = grind (arith, nat_tests)

handler_stands : (f : ℕ → ℕ) → HasHandler (steady f) → HasHandler f
handler_stands f h = record {
  words = λ k l. sym (steady_off f (handler_place + 2 * k) (handler_off k l)) ∙ h.words k l;
  vector = sym (steady_off f event_vector refl) ∙ h.vector;
}

-- what sees nothing of the ring but what stands at PC
abbrev pub looks_of : BoardValue → NextStep → List Look
looks_of b n = if is_handlers_step (kind_of n) b then [] else seen_at_pc b

sees_if : (c : Bool) (looks more : List Look) → SeeWords (looks ++ more) → SeeWords more → SeeWords ((if c then [] else looks) ++ more)
sees_if true looks more h k = k
sees_if false looks more h k = h

module _ (on : PlacedProgram) where
  abbrev step : MachineBoard → MachineOutcome
  step = on.program.step

  abbrev code : Code
  code = placed on.events on.place on.instructions

  abbrev code_words : List ℕ
  code_words = words_of on.instructions

  abbrev Leaves : MachineStretch → Type 0
  Leaves r = LeavesCode on.place (length code_words) r

  -- the program's machine on a board, which is to see these of the ring next
  pub record Machine (b : BoardValue) (more : List Look) : Type 0 where
    pub u : MachineBoard
    pub looks : u.inputs.looks ≡ more
    pub stands : StandsAs b u
    pub quiet : on.events ≡ false → is_interruptible u.registers ≡ false
    pub handler : on.events ≡ true → HasHandler u.fram
    pub prepared : on.events ≡ true → is_interruptible u.registers ≡ true → is_prepared u ≡ true
    pub holds : Holds u.fram on.place code_words
    pub leaves : (n : ℕ) → Leaves (going step n u)

  -- one that is to see the same
  abbrev pub relooked : (b : BoardValue) (looks more : List Look) → looks ≡ more → Machine b looks → Machine b more
  relooked b looks more e x = record {
    u = x.u;
    looks = x.looks ∙ e;
    stands = x.stands;
    quiet = x.quiet;
    handler = x.handler;
    prepared = x.prepared;
    holds = x.holds;
    leaves = x.leaves;
  }

  -- what holds of a board while the program runs on it
  pub record Running (b : BoardValue) : Type 0 where
    pub whole : IsWhole b
    pub words : IsOfWords b
    pub machine : (more : List Look) → SeeWords more → Machine b more

  -- a step by whether it is under watch
  abbrev step_by : MachineBoard → Bool → MachineOutcome
  step_by s b = if b then exec code s else Stops [] 0 (astray s)

  stepped : (s : MachineBoard) (b : Bool) → on.is.may s.registers ≡ b → step s ≡ step_by s b
  stepped s b e = ap (λ f. f s) on.is.steps ∙ ap (step_by s) e

  -- where it leaves the code its registers are as they may be
  pub may_stand : (s : MachineBoard) → Leaves (going step 1 s) → on.is.may s.registers ≡ true
  may_stand s l = by (on.is.may s.registers) refl
    where
      by : (b : Bool) → on.is.may s.registers ≡ b → b ≡ true
      by true e = refl
      by false e = absurd (l.stands 0 _ _ (ap (λ o. (continued o (going step 0)).status) (stepped s false e)))

  -- and it is one of the code
  leaves_as : (s : MachineBoard) → Leaves (going step 1 s) → step s ≡ exec code s
  leaves_as s l = stepped s true (may_stand s l)

  -- so is one that is made
  pub goes_as : (s t : MachineBoard) (es : List Effect) (c : ℕ) → step s ≡ Goes es c t → exec code s ≡ Goes es c t
  goes_as s t es c e = by (on.is.may s.registers) refl
    where
      by : (b : Bool) → on.is.may s.registers ≡ b → exec code s ≡ Goes es c t
      by true q = sym (stepped s true q) ∙ e
      by false q = absurd (let no : Stops [] 0 (astray s) ≡ Goes es c t = sym (stepped s false q) ∙ e in cc)

  -- a step that leaves the code isn't astray, and each access is served
  no_hole : (s : MachineBoard) → Leaves (going step 1 s) → IsNoHole (exec code s)
  no_hole s l es price pc word e = l.stands price pc word (ap (λ o. (continued o (going step 0)).status) (leaves_as s l ∙ e))

  no_fault : (s : MachineBoard) (o : MachineOutcome) → Leaves (going step 1 s) → step s ≡ o → IsBusFault o → ⊥
  no_fault s (Goes es c t) l e h = h
  no_fault s (Stops es price (stop.Bus pc a)) l e h = l.served price pc a (ap (λ o. (continued o (going step 0)).status) e)
  no_fault s (Stops es price (stop.Illegal pc w)) l e h = h
  no_fault s (Stops es price stop.Off) l e h = h
  no_fault s (Stops es price stop.NoReading) l e h = h

  -- the steps behind one
  leaves_behind : (s t : MachineBoard) (es : List Effect) (c n : ℕ) → step s ≡ Goes es c t → Leaves (going step (suc n) s) → Leaves (going step n t)
  leaves_behind s t es c n e l =
      let all : going step (suc n) s ≡ after_effects es c (going step n t) = ap (λ o. continued o (going step n)) e in
      let k = subst Leaves all l in
      record {
        stores = each_store-back (IsOutside on.place (length code_words)) es (going step n t).effects k.stores;
        stands = k.stands;
        served = k.served;
      }

  first_stores : (s t : MachineBoard) (es : List Effect) (c : ℕ) → step s ≡ Goes es c t → Leaves (going step 1 s)
      → EachStore (IsOutside on.place (length code_words)) es
  first_stores s t es c e l =
      let all : going step 1 s ≡ after_effects es c (stretch [] 0 (At t)) = ap (λ o. continued o (going step 0)) e in
      let k = subst Leaves all l in
      each_store-front (IsOutside on.place (length code_words)) es [] k.stores

  -- the instruction at PC is the program's
  pub record IsCode (b : BoardValue) (u : MachineBoard) (i : Instr) : Type 0 where
    pub at : code.at (u.registers 0) ≡ Some i
    pub below : registers_of b.cpu 0 < handler_place
    pub step_is : program_executed u i ≡ step u

  -- on a board that shows a machine of the program
  module _ (b : BoardValue) (u : MachineBoard) (shows : Shows b u) (holds : Holds u.fram on.place code_words) (leaves : Leaves (going step 1 u)) where
    abbrev s : MachineBoard
    s = machine_with [] b

    abbrev pc : ℕ
    pc = u.registers 0

    hole : IsNoHole (exec code u)
    hole = no_hole u leaves

    in_fram : on.place + 2 * length code_words < 0x10000
    in_fram = let l = on.is.high in omega (arith, l)

    same_pc : registers_of b.cpu 0 ≡ pc
    same_pc = ap (λ r. r 0) (sym shows.registers)

    holds_there : Holds s.fram on.place code_words
    holds_there = holds_steady (fram_of b.fram) on.place code_words on.is.high (subst (λ (f : ℕ → ℕ). Holds f on.place code_words) shows.fram holds)

    -- while the CPU is on an instruction of the program stands at PC
    module _ (on_bit : off_bit u.registers ≡ 0) where
      none_there : code.at pc ≡ None → ⊥
      none_there e =
          hole [] 0 _ _
          (ap (λ (q : Option Instr). undisturbed code.events u (step_with q u)) e
          ∙ ap (λ n. undisturbed code.events u (if n == 1 then Stops [] 0 stop.Off else Stops [] 0 (stop.Illegal pc (word_in u.fram u.ram pc)))) on_bit)

      on_board : (j : Instr) → code.at pc ≡ Some j → IsCurrentInstruction machine_bus (registers_of b.cpu) (machine_opened s) j
      on_board j e =
          let next = placed_next s on.instructions on.place (registers_of b.cpu 0) j on.is.instructions on.is.even on.is.low in_fram holds_there
          (ap code.at same_pc ∙ e) in
          record { on = ap off_bit (sym shows.registers) ∙ on_bit; is = next.0; fetched = next.1 }

    -- where the board has a next instruction, it is that
    module _ (whole : IsWhole b) (i : Instr) (current : IsNextInstruction b i) where
      there : IsCurrentInstruction machine_bus (registers_of b.cpu) (machine_opened s) i
      there = current_on [] b whole i current

      on_bit : off_bit u.registers ≡ 0
      on_bit = ap off_bit shows.registers ∙ there.on

      one_there : (j : Instr) → code.at pc ≡ Some j → IsCode b u i
      one_there j e =
          let next = placed_next u on.instructions on.place pc j on.is.instructions on.is.even on.is.low in_fram holds e in
          let same : i ≡ j = same_current machine_bus (registers_of b.cpu) (machine_opened s) i j there (on_board on_bit j e) in
          let mine : IsCurrentInstruction machine_bus u.registers (machine_opened u) j = record { on = on_bit; is = next.0; fetched = next.1 } in
          let within = placed_within on.instructions on.place on.is.even pc j e in
          let below = within.2 in
          let high = on.is.high in
          let made : program_executed u j ≡ exec code u =
          code_in_fram_steps on.events on.place on.instructions u (program_executed u j) on.is.instructions on.is.even on.is.low in_fram (Executes j mine)
          holds hole in
          record {
            at = e ∙ ap (λ x. Some x) (sym same);
            below = omega (arith, same_pc, below, high);
            step_is = ap (λ x. program_executed u x) same ∙ made ∙ sym (leaves_as u leaves);
          }

      pub is_code : IsCode b u i
      is_code = by (code.at pc) refl
        where
          by : (q : Option Instr) → code.at pc ≡ q → IsCode b u i
          by None e = absurd (none_there on_bit e)
          by (Some j) e = one_there j e

    -- where it has none, the program has none
    module _ (whole : IsWhole b) (e : Stop) (none : IsStoppedBy b e) where
      no_step : IsStopped machine_bus (registers_of b.cpu) (machine_opened s) e
      no_step = by _ (stopped_to_machine (λ t i. Goes [] 0 t) [] b whole e none) refl
        where
          by : (o : MachineOutcome) → IsStepBy (λ t i. Goes [] 0 t) s o → o ≡ Stops [] 0 e → IsStopped machine_bus (registers_of b.cpu) (machine_opened s) e
          by o (NoInstruction f k) same = let at : f ≡ e = cc in subst (λ (y : Stop). IsStopped machine_bus (registers_of b.cpu) (machine_opened s) y) at k
          by o (Executes i c) same = absurd cc

      absent : off_bit u.registers ≡ 0 → ⊥
      absent on_bit = by (code.at pc) refl
        where
          by : (q : Option Instr) → code.at pc ≡ q → ⊥
          by None q = none_there on_bit q
          by (Some j) q = not_stopped machine_bus (registers_of b.cpu) (machine_opened s) e j no_step (on_board on_bit j q)

      pub is_off : (f : Stop) → f ≡ e → IsStopped machine_bus (registers_of b.cpu) (machine_opened s) f → step u ≡ Stops [] 0 f
      is_off stop.Off same k =
          let bit : off_bit u.registers ≡ 1 = ap off_bit shows.registers ∙ k in
          leaves_as u leaves
          ∙ ap (λ n. undisturbed code.events u (if n == 1 then Stops [] 0 stop.Off else standing (code.at pc) u)) bit
      is_off (stop.Illegal at w) same k = absurd (absent (ap off_bit shows.registers ∙ k.0))
      is_off (stop.Bus at a) same k = absurd (absent (ap off_bit shows.registers ∙ k.0))
      is_off stop.NoReading same k = absurd k

      pub stops_too : step u ≡ Stops [] 0 e
      stops_too = is_off e refl no_step

  -- whose the next step is, of a machine of which so many cycles and steps are the handler's yet
  pub data Turn (b : BoardValue) (more : List Look) (u : MachineBoard) (due left waits : ℕ) (stage : Option (BoardValue × Stage)) : NextStep → Type 0 where
    IsAcceptance : waits ≡ 0 → stage ≡ None → Begins b u → Turn b more u due left waits stage next_step.Acceptance
    IsHandlers : (from : BoardValue) (at : Stage) → stage ≡ Some (from, at) → due ≡ cycles_left at → left ≡ instructions_left at → waits ≡ waiting_at at
        → GoesOn b u from at
        → Turn b more u due left waits stage (next_step.Instruction (instruction_at at))
    IsProgram : waits ≡ 0 → stage ≡ None → (i : Instr) → IsNextInstruction b i → Shows b u → IsCode b u i → DoesAlike b u i more
        → Turn b more u due left waits stage (next_step.Instruction i)

  pub sees_of : (b : BoardValue) → IsOfWords b → (n : NextStep) (more : List Look) → SeeWords more → SeeWords (looks_of b n ++ more)
  sees_of b words n more see =
      sees_if (is_handlers_step (kind_of n) b) (seen_at_pc b) more (front_sees _ (fram_of b.fram) more (machine_is_of_words b words).fram see) see

  -- on a board with its machine
  module _ (b : BoardValue) (whole : IsWhole b) (words : IsOfWords b) (more : List Look) where
    -- where the program stands
    pub program_turn : (i : Instr) → (x : Machine b (looks_of b (next_step.Instruction i) ++ more)) → (shows : Shows b x.u) → IsNextInstruction b i
        → Turn b more x.u 0 0 0 None (next_step.Instruction i)
    program_turn i x shows current =
        let c = is_code b x.u shows x.holds (x.leaves 1) whole i current in
        let handlers = step_is_programs i b c.below in
        let seen : looks_of b (next_step.Instruction i) ≡ looks_at b i =
        ap (λ (d : Bool). if d then [] else seen_at_pc b) handlers ∙ seen_by_words b i whole current in
        let alike = instructions_are_the_programs b x.u i more whole shows current (x.looks ∙ ap (λ l. l ++ more) seen) in
        IsProgram refl refl i current shows c
        (⊎_elim {C = DoesAlike b x.u i more} (λ f. absurd (no_fault x.u (program_executed x.u i) (x.leaves 1) (sym c.step_is) f)) (λ d. d) alike)

    -- where the CPU accepts an interrupt: a program without events never lets it
    interrupted : (x : Machine b more) → Shows b x.u → is_accepting b ≡ true → IsInterrupted b
    interrupted x shows accepting = by on.events refl
      where
        accepts : is_interruptible x.u.registers ≡ true
        accepts = ap is_interruptible shows.registers ∙ (and_parts (is_full b.line.port) (is_interruptible (registers_of b.cpu)) accepting).1

        by : (c : Bool) → on.events ≡ c → IsInterrupted b
        by true e =
            let inside = and_parts (nat_le stack_floor (x.u.registers 1)) (nat_le (x.u.registers 1) stack_top)
            (and_parts _ (in_stack (x.u.registers 1)) (x.prepared e accepts)).1 in
            let sp : x.u.registers 1 ≡ registers_of b.cpu 1 = ap (λ r. r 1) shows.registers in
            let low = leb-true stack_floor (x.u.registers 1) inside.0 in
            let high = leb-true (x.u.registers 1) stack_top inside.1 in
            record {
              whole = whole;
              words = words;
              accepting = accepting;
              handler = handler_stands (fram_of b.fram) (subst HasHandler shows.fram (x.handler e));
              low = omega (arith, sp, low);
              high = omega (arith, sp, high);
            }
        by false e = let no : true ≡ false = sym accepts ∙ x.quiet e in absurd cc

    accepting_turn : (x : Machine b more) → Shows b x.u → is_accepting b ≡ true → (due left : ℕ) → Turn b more x.u due left 0 None next_step.Acceptance
    accepting_turn x shows accepting due left = IsAcceptance refl refl (acceptances_begin b x.u shows (interrupted x shows accepting))

    -- in the handler
    handlers_turn : (u : MachineBoard) (from : BoardValue) (at : Stage) → Shows from u → IsInterrupted from → IsInHandler from at b → (i : Instr)
        → IsNextInstruction b i → Turn b more u (cycles_left at) (instructions_left at) (waiting_at at) (Some (from, at)) (next_step.Instruction i)
    handlers_turn u from at shows interrupted inside i current =
        let step = handlers_go_on b u from at shows interrupted inside in
        let same : i ≡ instruction_at at = same_current board_bus (registers_of b.cpu) (opened b) i (instruction_at at) current step.next in
        subst (λ (j : Instr). Turn b more u (cycles_left at) (instructions_left at) (waiting_at at) (Some (from, at)) (next_step.Instruction j)) (sym same)
        (IsHandlers from at refl refl refl refl step)

    never_accepts : (u : MachineBoard) (from : BoardValue) (at : Stage) → Shows from u → IsInterrupted from → IsInHandler from at b → is_accepting b ≡ true → ⊥
    never_accepts u from at shows interrupted inside e =
        let no : true ≡ false = sym e ∙ (handlers_go_on b u from at shows interrupted inside).none in absurd cc

    -- whose the next step is
    pub turn : (n : NextStep) → IsNextStep b n → (x : Machine b (looks_of b n ++ more))
        → Turn b more x.u (cycles_due x.stands) (steps_due x.stands) (waiting x.stands) (stage_of x.stands) n
    turn n next x = by n next x x.stands
      where
        by : (n : NextStep) → IsNextStep b n → (x : Machine b (looks_of b n ++ more)) → (st : StandsAs b x.u)
            → Turn b more x.u (cycles_due st) (steps_due st) (waiting st) (stage_of st) n
        by next_step.Acceptance next x (AtCode shows) = accepting_turn x shows next 0 0
        by (next_step.Instruction i) next x (AtCode shows) = program_turn i x shows next.1
        by next_step.Acceptance next x (InHandler from at shows interrupted inside) = absurd (never_accepts x.u from at shows interrupted inside next)
        by (next_step.Instruction i) next x (InHandler from at shows interrupted inside) =
            handlers_turn x.u from at shows interrupted inside i next.1

  -- a step of the program's that is made leaves its machine
  module _ (u next : MachineBoard) (es : List Effect) (c : ℕ) (goes : step u ≡ Goes es c next) where
    exec_goes : exec code u ≡ Goes es c next
    exec_goes = goes_as u next es c goes

    stores_so : next.fram ≡ fram_after es u.fram
    stores_so = (subst (λ (o : MachineOutcome). ChangesByEffects u o) exec_goes (code_changes_by_effects code u)).0

    handler_stays : HasHandler u.fram → HasHandler next.fram
    handler_stays h =
        let keeps : KeepsTheHandler u (Goes es c next) = subst (λ (o : MachineOutcome). KeepsTheHandler u o) exec_goes (code_keeps_the_handler code u) in
        record {
          words = λ k l. keeps (handler_place + 2 * k) (omega arith) ∙ h.words k l;
          vector = keeps event_vector (omega arith) ∙ h.vector;
        }

    program_rules : (on.events ≡ false → is_interruptible u.registers ≡ false)
        → (on.events ≡ true → is_interruptible u.registers ≡ true → is_prepared u ≡ true) → KeepsRules u next
    program_rules quiet prepared accepts = by on.events refl
      where
        by : (d : Bool) → on.events ≡ d → KeepsItsStack u next
        by true e = stack_kept code u next es c e exec_goes (prepared e accepts) accepts
        by false e = let no : true ≡ false = sym accepts ∙ quiet e in absurd cc

    abbrev machine_behind : (b after : BoardValue) (more rest : List Look) (x : Machine b more) → x.u ≡ u → next.inputs.looks ≡ rest → StandsAs after next
        → Machine after rest
    machine_behind b after more rest x is looks stands =
        let leaves : (n : ℕ) → Leaves (going step n u) = λ n. subst (λ v. Leaves (going step n v)) is (x.leaves n) in
        record {
          u = next;
          looks = looks;
          stands = stands;
          quiet = λ e. code_goes_undisturbed code u next es c e exec_goes (subst (λ v. is_interruptible v.registers ≡ false) is (x.quiet e));
          handler = λ e. handler_stays (subst (λ (v : MachineBoard). HasHandler v.fram) is (x.handler e));
          prepared = λ e. code_stays_prepared code u next es c e exec_goes
              (subst (λ v. is_interruptible v.registers ≡ true → is_prepared v ≡ true) is (x.prepared e));
          holds = subst (λ (g : ℕ → ℕ). Holds g on.place code_words) (sym stores_so)
              (holds_stores es u.fram on.place code_words (first_stores u next es c goes (leaves 1))
              (subst (λ (v : MachineBoard). Holds v.fram on.place code_words) is x.holds));
          leaves = λ n. leaves_behind u next es c n goes (leaves (suc n));
        }

  -- an instruction is no acceptance
  accepts_none : (i : Instr) (b : BoardValue) (done : Stepped) → accepts_in (moment_of b (next_step.Instruction i) done).action ≡ 0
  accepts_none (instr.Two op w x d) b done = refl
  accepts_none (instr.One o) b done = refl
  accepts_none (instr.Jump c o) b done = refl
  accepts_none instr.Reti b done = refl

  -- how the handler goes on over a moment
  pub data Moves (b : BoardValue) (m : Moment) : Option (BoardValue × Stage) → Option (BoardValue × Stage) → Type 0 where
    -- an instruction of the program's
    MovesOwn : is_handlers m ≡ false → Moves b m None None
    -- it begins
    MovesIn : (done : Stepped) → IsInterrupted b → IsInHandler b SaveR4 (at_boundary (performed b next_step.Acceptance).board)
        → (b.line.heard ≡ heard.Nothing → done.heard ≡ heard.Nothing) → m ≡ moment_of b next_step.Acceptance done → Moves b m None (Some (b, SaveR4))
    -- it goes on, or has returned
    MovesOn : (from : BoardValue) (at : Stage) (done : Stepped) → IsInterrupted from → IsInHandler from at b → done.heard ≡ heard_at from at
        → IsBehind from (next_stage from at) (at_boundary (executed b (instruction_at at)).board)
        → m ≡ moment_of b (next_step.Instruction (instruction_at at)) done → Moves b m (Some (from, at)) (stage_behind from (next_stage from at))

  -- what a step that is made, as this moment, leaves of the machine: behind its look it does what the moment tells, and the handler takes of
  -- the cycles and steps that it has
  pub record Leads (b : BoardValue) (m : Moment) (more : List Look) (x : Machine b (outside_looks m ++ more)) : Type 0 where
    pub next : Machine m.after more
    pub runs : (n : ℕ) → going step (if is_handlers m then n else suc n) x.u
        ≡ (if is_handlers m then going step n next.u else after_effects (outside_effects m) (action_cycles m.action) (going step n next.u))
    pub cycles : (if is_handlers m then action_cycles m.action else 0) + cycles_due next.stands ≤ 48 * accepts_in m.action + cycles_due x.stands
    pub steps : (if is_handlers m then 1 else 0) + steps_due next.stands ≤ 16 * accepts_in m.action + steps_due x.stands
    pub arise : b.line.heard ≡ heard.Nothing → b.line.arisen + (waiting x.stands + words_in m.after.line.port + accepts_in m.action)
        ≤ m.after.line.arisen + (waiting next.stands + words_in b.line.port)
    pub moves : Moves b m (stage_of x.stands) (stage_of next.stands)

  -- a step of the handler's leaves it as it is
  module _ (b : BoardValue) (m : Moment) (more : List Look) (x : Machine b (outside_looks m ++ more)) (handlers : is_handlers m ≡ true)
      (stands : StandsAs m.after x.u) where
    abbrev same_machine : Machine m.after more
    same_machine = record {
      u = x.u;
      looks = x.looks ∙ ap (λ l. l ++ more) (served_looks m handlers);
      stands = stands;
      quiet = x.quiet;
      handler = x.handler;
      prepared = x.prepared;
      holds = x.holds;
      leaves = x.leaves;
    }

    handler_leads : action_cycles m.action + cycles_due stands ≤ 48 * accepts_in m.action + cycles_due x.stands
        → 1 + steps_due stands ≤ 16 * accepts_in m.action + steps_due x.stands
        → (b.line.heard ≡ heard.Nothing → b.line.arisen + (waiting x.stands + words_in m.after.line.port + accepts_in m.action)
        ≤ m.after.line.arisen + (waiting stands + words_in b.line.port)) → Moves b m (stage_of x.stands) (stage_of stands) → Leads b m more x
    handler_leads cycles steps arise moves = record {
      next = same_machine;
      runs = λ n.
          ap (λ (c : Bool). going step (if c then n else suc n) x.u) handlers
          ∙ ap (λ (c : Bool). if c then going step n x.u else after_effects (outside_effects m) (action_cycles m.action) (going step n x.u)) (sym handlers);
      cycles = subst (λ (c : Bool). (if c then action_cycles m.action else 0) + cycles_due stands ≤ 48 * accepts_in m.action + cycles_due x.stands)
          (sym handlers) cycles;
      steps = subst (λ (c : Bool). (if c then 1 else 0) + steps_due stands ≤ 16 * accepts_in m.action + steps_due x.stands) (sym handlers) steps;
      arise = arise;
      moves = moves;
    }

  -- a step of the program's is the machine's
  module _ (b : BoardValue) (whole : IsWhole b) (i : Instr) (done : Stepped) (more : List Look) (current : IsNextInstruction b i)
      (answer : (executed b i).answer ≡ Ok done) where
    abbrev m : Moment
    m = moment_of b (next_step.Instruction i) done

    program_leads : (x : Machine b (outside_looks m ++ more)) → waiting x.stands ≡ 0 → stage_of x.stands ≡ None → IsCode b x.u i → DoesAlike b x.u i more
        → Leads b m more x
    program_leads x free none c alike =
        let made = alike.made done answer in
        let fs : List Effect = look_effects (looks_at b i) ++ effects_of b (executed b i) in
        let handlers : is_handlers m ≡ false = step_is_programs i b c.below in
        let goes : step x.u ≡ Goes fs done.cycles made.next = sym c.step_is ∙ made.goes in
        let rules = program_rules x.u made.next fs done.cycles goes x.quiet x.prepared in
        let told : outside_effects m ≡ fs = told_alike b whole i done current answer handlers in
        let r : ℕ → MachineStretch = λ n. going step n made.next in
        record {
          next = machine_behind x.u made.next fs done.cycles goes b m.after (outside_looks m ++ more) more x refl made.looks (AtCode (made.shows rules));
          runs = λ n.
              ap (λ (d : Bool). going step (if d then n else suc n) x.u) handlers
              ∙ ap (λ o. continued o (going step n)) goes
              ∙ ap (λ es. after_effects es done.cycles (r n)) (sym told)
              ∙ ap (λ (d : Bool). if d then r n else after_effects (outside_effects m) done.cycles (r n)) (sym handlers);
          cycles = subst (λ (d : Bool). (if d then done.cycles else 0) + 0 ≤ 48 * accepts_in m.action + cycles_due x.stands) (sym handlers) (omega arith);
          steps = subst (λ (d : Bool). (if d then 1 else 0) + 0 ≤ 16 * accepts_in m.action + steps_due x.stands) (sym handlers) (omega arith);
          arise = λ silent.
              let grown = step_arises b (next_step.Instruction i) silent in
              let here = free in
              let other = accepts_none i b done in
              omega (arith, grown, here, other);
          moves = subst (λ (o : Option (BoardValue × Stage)). Moves b m o None) (sym none)
              (MovesOwn handlers);
        }

  -- any step that is made
  module _ (b : BoardValue) (whole : IsWhole b) (words : IsOfWords b) (more : List Look) where
    pub turn_leads : (n : NextStep) (done : Stepped) → (performed b n).answer ≡ Ok done → (x : Machine b (looks_of b n ++ more))
        → Turn b more x.u (cycles_due x.stands) (steps_due x.stands) (waiting x.stands) (stage_of x.stands) n → Leads b (moment_of b n done) more x
    turn_leads _ done answer x (IsAcceptance free none begins) =
        let same : begins.done ≡ done = cc (sym begins.made ∙ answer) in
        let cycles : done.cycles ≡ 6 = ap (λ (d : Stepped). d.cycles) (sym same) ∙ begins.cycles in
        let due = begins.due in
        let left = begins.steps in
        let waits = begins.waits in
        handler_leads b (moment_of b next_step.Acceptance done) more x refl begins.stands (omega (arith, cycles, due)) (omega (arith, left))
        (λ silent. let grown = step_arises b next_step.Acceptance silent in omega (arith, grown, free, waits))
        (subst (λ (o : Option (BoardValue × Stage)). Moves b (moment_of b next_step.Acceptance done) o (stage_of begins.stands)) (sym none)
        (subst (λ (o : Option (BoardValue × Stage)). Moves b (moment_of b next_step.Acceptance done) None o) (sym begins.stage)
        (MovesIn done begins.interrupted begins.inside (λ silent. ap (λ (d : Stepped). d.heard) (sym same) ∙ begins.silent silent) refl)))
    turn_leads _ done answer x (IsHandlers from at stage due left waits goes_on) =
        let i : Instr = instruction_at at in
        let same : goes_on.done ≡ done = cc (sym goes_on.made ∙ answer) in
        let cycles : done.cycles ≡ goes_on.done.cycles = ap (λ (d : Stepped). d.cycles) (sym same) in
        let cost = goes_on.cycles in
        let count = goes_on.steps in
        let taken = goes_on.waits in
        let told : words_heard goes_on.done.heard ≡ words_heard (executed b i).board.line.heard =
        ap words_heard (told_heard b (next_step.Instruction i) goes_on.done goes_on.made) in
        let none = accepts_none i b done in
        handler_leads b (moment_of b (next_step.Instruction i) done) more x goes_on.served.handlers goes_on.stands
        (omega (arith, cycles, cost, due)) (omega (arith, count, left))
        (λ silent. let grown = step_arises b (next_step.Instruction i) silent in omega (arith, grown, waits, taken, told, none))
        (subst (λ (o : Option (BoardValue × Stage)). Moves b (moment_of b (next_step.Instruction i) done) o (stage_of goes_on.stands)) (sym stage)
        (subst (λ (o : Option (BoardValue × Stage)). Moves b (moment_of b (next_step.Instruction i) done) (Some (from, at)) o) (sym goes_on.stage)
        (MovesOn from at done goes_on.interrupted goes_on.inside (ap (λ (d : Stepped). d.heard) (sym same) ∙ goes_on.heard) goes_on.behind refl)))
    turn_leads _ done answer x (IsProgram free none i current shows c alike) = program_leads b whole i done more current answer x free none c alike

    pub leads_on : (n : NextStep) (done : Stepped) → IsNextStep b n → (performed b n).answer ≡ Ok done → (x : Machine b (looks_of b n ++ more))
        → Leads b (moment_of b n done) more x
    leads_on n done next answer x = turn_leads n done answer x (turn b whole words more n next x)

    -- no instruction can be had
    pub none_to_make : (e : Stop) → HasNoStep b e → (x : Machine b more) → step x.u ≡ Stops [] 0 e
    none_to_make e none x = by x.stands
      where
        by : StandsAs b x.u → step x.u ≡ Stops [] 0 e
        by (AtCode shows) = stops_too b x.u shows x.holds (x.leaves 1) whole e none.stopped
        by (InHandler from at shows interrupted inside) =
            let goes_on = handlers_go_on b x.u from at shows interrupted inside in
            absurd (not_stopped board_bus (registers_of b.cpu) (opened b) e (instruction_at at) none.stopped goes_on.next)

    -- a step that is refused is the program's
    pub record IsRefused (n : NextStep) (x : Machine b (looks_of b n ++ more)) (e : Stop) : Type 0 where
      pub i : Instr
      pub is : n ≡ next_step.Instruction i
      pub answer : (executed b i).answer ≡ Err e
      pub looks : looks_of b n ≡ looks_at b i
      pub line : (executed b i).board.line ≡ b.line
      pub stops : step x.u ≡ Stops (look_effects (looks_at b i) ++ effects_of b (executed b i)) (cycles_of i) e

    turn_refused : (n : NextStep) (e : Stop) → (performed b n).answer ≡ Err e → (x : Machine b (looks_of b n ++ more))
        → Turn b more x.u (cycles_due x.stands) (steps_due x.stands) (waiting x.stands) (stage_of x.stands) n → IsRefused n x e
    turn_refused _ e answer x (IsAcceptance free none begins) = absurd (cc (begins.made, answer))
    turn_refused _ e answer x (IsHandlers from at stage due left waits goes_on) = absurd (cc (goes_on.made, answer))
    turn_refused _ e answer x (IsProgram free none i current shows c alike) = record {
      i = i;
      is = refl;
      answer = answer;
      looks = ap (λ (d : Bool). if d then [] else seen_at_pc b) (step_is_programs i b c.below) ∙ seen_by_words b i whole current;
      line = alike.line;
      stops = sym c.step_is ∙ alike.stopped e answer;
    }

    pub refused_on : (n : NextStep) (e : Stop) → IsNextStep b n → (performed b n).answer ≡ Err e → (x : Machine b (looks_of b n ++ more)) → IsRefused n x e
    refused_on n e next answer x = turn_refused n e answer x (turn b whole words more n next x)

  -- the moment of a step that is made
  module _ (b : BoardValue) (whole : IsWhole b) (words : IsOfWords b) where
    same_served : (n : NextStep) (done other : Stepped) → (performed b n).answer ≡ Ok other → (performed b n).answer ≡ Ok done
        → IsServed b (moment_of b n other) → IsServed b (moment_of b n done)
    same_served n done other made answer served =
        let same : other ≡ done = cc (sym made ∙ answer) in subst (λ (d : Stepped). IsServed b (moment_of b n d)) same served

    turn_moment : (n : NextStep) (done : Stepped) → IsNextStep b n → (performed b n).answer ≡ Ok done → (x : Machine b (looks_of b n ++ []))
        → Turn b [] x.u (cycles_due x.stands) (steps_due x.stands) (waiting x.stands) (stage_of x.stands) n → IsMomentFrom b (moment_of b n done)
    turn_moment _ done next answer x (IsAcceptance free none begins) =
        Serves next_step.Acceptance done next answer (same_served next_step.Acceptance done begins.done begins.made answer begins.served) refl
    turn_moment _ done next answer x (IsHandlers from at stage due left waits goes_on) =
        let n = next_step.Instruction (instruction_at at) in
        Serves n done next answer (same_served n done goes_on.done goes_on.made answer goes_on.served) refl
    turn_moment _ done next answer x (IsProgram free none i current shows c alike) =
        let made = alike.made done answer in
        let goes : step x.u ≡ Goes (look_effects (looks_at b i) ++ effects_of b (executed b i)) done.cycles made.next = sym c.step_is ∙ made.goes in
        let rules = program_rules x.u made.next _ done.cycles goes x.quiet x.prepared in
        Instructs i done current answer (made.programs rules refl c.below) refl

  -- a board on which the program runs
  module _ (b : BoardValue) (r : Running b) (n : NextStep) (done : Stepped) (next : IsNextStep b n) (answer : (performed b n).answer ≡ Ok done) where
    abbrev after : BoardValue
    after = at_boundary (performed b n).board

    pub moment_from : IsMomentFrom b (moment_of b n done)
    moment_from =
        let x = r.machine (looks_of b n ++ []) (sees_of b r.words n [] nothing_seen) in
        turn_moment b r.whole r.words n done next answer x (turn b r.whole r.words [] n next x)

    -- it runs on behind it
    pub runs_on : Running after
    runs_on =
        let both = whole_behind b (moment_of b n done) r.whole r.words moment_from in
        record {
          whole = both.0;
          words = both.1;
          machine = λ more see.
              (leads_on b r.whole r.words more n done next answer (r.machine (looks_of b n ++ more) (sees_of b r.words n more see))).next;
        }

  -- the moments of a charge of such a board
  pub charge_moments : (m : Measure) (left : ℕ) (b : BoardValue) (r : RunOutcome) → Running b → ChargeRun m left b r → AreMoments b r.moments
  charge_moments m left b r running (Spent _ _ none) = tt
  charge_moments m left b r running (run.NoInstruction _ _ e pos h) = tt
  charge_moments m left b r running (TooDear _ _ n pos c dear) = tt
  charge_moments m left b r running (Refused _ _ n e pos c paid a) = tt
  charge_moments m left b r running (Executed _ _ n done rest pos c paid a h) = (
    no_gap b,
    moment_from b running n done c a,
    charge_moments m (left - price m n) (at_boundary (performed b n).board) rest (runs_on b running n done c a) h,
  )
