-- An instruction does the same on a board and on the machine that the board shows, and the board goes on showing it.
use Rattle.std.proofs.Common.{◌≡◌, ◌==◌, ◌&&◌, ◌||◌, ◌≤◌, ◌<◌, ◌+◌, ◌%◌, if◌then◌else◌, nat_le, nat_lt, leb-true, le-leb, lt-ltb, arith, ℕ, refl, sym, ◌∙◌, ap, ap₂, subst, Bool}
use Rattle.std.proofs.Common.{true, false}
use Rattle.std.proofs.Common.{List, [], ◌++◌, append-nil, ◌⊎◌, inl, inr, ⊎_elim, Option, Some, None, Result, Ok, Err, eqb-true}
use Rattle.std.proofs.Math.Path.{fun_ext}
use Rattle.std.proofs.lemmas.Bool.{and_parts, cases_lt}
use Rattle.std.proofs.lemmas.Option.{same_Some}
use Rattle.std.proofs.lemmas.Bool.Decides.{nat_tests}
use Rattle.address_space.specs.Limits.{stack_floor, stack_top}
use Rattle.event_places.specs.Places.{handler_place, is_ring}
use Rattle.msp_isa.specs.declared.instructions.Instr.{Instr}
use Rattle.msp_cycles.specs.Cycles.{cycles_of}
use Rattle.msp_step.specs.declared.machine.Stop.{Stop}
use Rattle.msp_step.specs.Registers.{registers_of}
use Rattle.msp_step.specs.Step.{is_interruptible}
use Rattle.fram_board.specs.declared.board.Stepped.{Stepped}
use Rattle.fram_board.specs.Board.{BoardValue, BoardOutcome, executed, at_boundary, IsNextInstruction}
use Rattle.fram_board.specs.Effects.{Effect, effects_of}
use Rattle.machine_effects.specs.World.{fram_after}
use Rattle.machine_effects.specs.Inputs.{Look, look_effects}
use Rattle.machine_effects.specs.Going.{Goes, Stops}
use Rattle.machine_effects.specs.Machine.{MachineBoard, MachineOutcome, code_executed, fram_of, ram_of, in_stack, keeps_stack, IsRam}
use Rattle.machine_effects.specs.Machine.{pushes, forgotten, uncovered_from, uncovered, uncovering, program_executed}
use Rattle.machine_effects.specs.View.{machine_with, looks_at, outcome_of_answer, machine_outcome_with, IsWhole, IsFault, IsBusFault}
use Rattle.machine_effects.specs.Laws.{IsSameFrom, AreSameFrom, HaveSameTop, KeepsTheHandler}
use Rattle.machine_effects.specs.Changes.{ChangesByEffects}
use Rattle.machine_effects.proofs.Interface.{looks_as_the_board, code_changes, code_keeps, machine_is_blind, pushes_alike}
use Rattle.machine_effects.proofs.Interface.{executed_is_step, step_leaves_it_whole, boundary_whole}
use Rattle.program_view.specs.View.{steady}
use Rattle.program_view.specs.Stands.{shown_from, Shows, IsPrograms}
use Rattle.program_view.specs.Laws.{KeepsItsStack, KeepsRules, IsMade, DoesAlike, InstructionsAreThePrograms}
use Rattle.program_view.proofs.Steady.{steady_low, steady_off, left_alike}

-- what an outcome is that is the same as one that goes on, or as a stop
record IsGoing (floor : ℕ) (es : List Effect) (c : ℕ) (s : MachineBoard) (p : MachineOutcome) : Type 0 where
  next : MachineBoard
  is : p ≡ Goes es c next
  same : IsSameFrom floor s next

going_alike : (floor : ℕ) (es : List Effect) (c : ℕ) (s : MachineBoard) (p : MachineOutcome) → AreSameFrom floor (Goes es c s) p → IsGoing floor es c s p
going_alike floor es c s (Goes fs d t) h = record { next = t; is = ap₂ (λ l n. Goes l n t) h.0 h.1; same = h.2 }
going_alike floor es c s (Stops fs paid f) h = absurd h

stop_alike : (floor : ℕ) (es : List Effect) (price : ℕ) (e : Stop) (p : MachineOutcome) → AreSameFrom floor (Stops es price e) p → p ≡ Stops es price e
stop_alike floor es price e (Goes fs d t) h = absurd h
stop_alike floor es price e (Stops fs paid f) h = ap₂ (λ l n. Stops l n f) h.0 h.1 ∙ ap (λ x. Stops es price x) h.2

fault_alike : (floor : ℕ) (o p : MachineOutcome) → AreSameFrom floor o p → IsBusFault o → IsBusFault p
fault_alike floor (Goes es c s) p h f = absurd f
fault_alike floor (Stops es price e) (Goes fs d t) h f = absurd h
fault_alike floor (Stops es price e) (Stops fs paid x) h f = subst IsFault (sym h.2) f

-- an outcome that goes on, the same as one that does, leaves such a machine
same_next : (floor : ℕ) (o p : MachineOutcome) (es fs : List Effect) (c d : ℕ) (s t : MachineBoard) → o ≡ Goes es c s → p ≡ Goes fs d t → AreSameFrom floor o p
    → IsSameFrom floor s t
same_next floor o p es fs c d s t e f h =
    let all : AreSameFrom floor (Goes es c s) (Goes fs d t) =
    subst (λ (y : MachineOutcome). AreSameFrom floor (Goes es c s) y) f (subst (λ (y : MachineOutcome). AreSameFrom floor y p) e h) in all.2

same_top : (o p : MachineOutcome) (es fs : List Effect) (c d : ℕ) (s t : MachineBoard) → o ≡ Goes es c s → p ≡ Goes fs d t → HaveSameTop o p
    → HaveSameTop (Goes es c s) (Goes fs d t)
same_top o p es fs c d s t e f h =
    subst (λ (y : MachineOutcome). HaveSameTop (Goes es c s) y) f (subst (λ (y : MachineOutcome). HaveSameTop y p) e h)

either_word : (c : Bool) (x y : ℕ) → (c ≡ true → x ≡ 0) → (c ≡ false → x ≡ y) → x ≡ (if c then 0 else y)
either_word true x y h k = h refl
either_word false x y h k = k refl

or_either : (a b : Bool) {C : Type 0} → (a || b) ≡ true → (a ≡ true → C) → (b ≡ true → C) → C
or_either true b e f g = f refl
or_either false b e f g = g e

-- SP that goes down in a step in which interrupts are accepted stays in the stack
stays_inside : (p q : ℕ) → q < p → keeps_stack p q ≡ true → (stack_floor ≤ q) × (q ≤ stack_top)
stays_inside p q down e =
    or_either (q == p) _ e (λ s. let at = eqb-true q p s in absurd (omega (arith, at, down)))
    (λ f. let both = and_parts (nat_le q stack_top) (nat_le p q || nat_le stack_floor q) f in
    or_either (nat_le p q) _ both.1 (λ s. let up = leb-true p q s in absurd (omega (arith, up, down)))
    (λ s. (leb-true stack_floor q s, leb-true q stack_top both.0)))

-- a word of RAM that isn't forgotten
known_by : (b : Bool) (o : Option ℕ) (w : ℕ) → (if b then None else o) ≡ Some w → (b ≡ false) × (o ≡ Some w)
known_by true o w e = absurd cc
known_by false o w e = (refl, e)

-- what isn't between two addresses is below the first or behind the second
not_within : (from upto a : ℕ) → (nat_le from a && nat_lt a upto) ≡ false → (a < from) ⊎ (upto ≤ a)
not_within from upto a e =
    ⊎_elim {C = (a < from) ⊎ (upto ≤ a)} (λ h. inl h)
    (λ l. ⊎_elim {C = (a < from) ⊎ (upto ≤ a)}
    (λ h. absurd (let both = ap₂ (λ x y. x && y) (le-leb from a l) (lt-ltb a upto h) in let no : true ≡ false = sym both ∙ e in cc)) (λ h. inr h) (cases_lt a upto))
    (cases_lt a from)

-- of the words that a step uncovered the one is known that it pushed
pushed_there : (i : Instr) (q a : ℕ) → q ≤ a → a < uncovered_from i q → (pushes i ≡ true) × (a < q + 2)
pushed_there i q a l h = by (pushes i) refl
  where
    by : (b : Bool) → pushes i ≡ b → (pushes i ≡ true) × (a < q + 2)
    by true e = (e, subst (λ n. a < n) (ap (λ c. if c then q + 2 else q) e) h)
    by false e = let below : a < q = subst (λ n. a < n) (ap (λ c. if c then q + 2 else q) e) h in absurd (omega (arith, below, l))

-- an outcome that uncovers words of RAM is a fault where it was one
fault_uncovered : (i : Instr) (u : MachineBoard) (o : MachineOutcome) → IsBusFault o → IsBusFault (uncovering i u o)
fault_uncovered i u (Goes es c t) f = f
fault_uncovered i u (Stops es price e) f = f

from_by : (c : Bool) (sp : ℕ) → (if c then sp else 0) ≤ sp
from_by true sp = omega arith
from_by false sp = omega arith

module _ (b : BoardValue) (u : MachineBoard) (i : Instr) (more : List Look) (whole : IsWhole b) (shows : Shows b u) (current : IsNextInstruction b i)
    (looks : u.inputs.looks ≡ looks_at b i ++ more) where
  abbrev x : BoardOutcome
  x = executed b i

  abbrev after : BoardValue
  after = at_boundary x.board

  -- the board as the machine that sees the ring
  abbrev s : MachineBoard
  s = machine_with (looks_at b i ++ more) b

  abbrev es : List Effect
  es = look_effects (looks_at b i) ++ effects_of b x

  same_inputs : u.inputs ≡ s.inputs
  same_inputs = λ k. record { readings = shows.readings k; looks = looks k }

  sp : u.registers 1 ≡ s.registers 1
  sp = ap (λ r. r 1) shows.registers

  fram_low : (a : ℕ) → a < handler_place → u.fram a ≡ s.fram a
  fram_low a l = ap (λ f. f a) shows.fram ∙ steady_low (fram_of b.fram) a l

  abbrev floor : ℕ
  floor = shown_from u

  same : IsSameFrom floor s u
  same = record { registers = shows.registers; fram = fram_low; ram = λ a w l even e. ap (λ v. Some v) (shows.ram a w l even e); inputs = same_inputs; outnum = shows.outnum }

  low : floor ≤ s.registers 1
  low = subst (λ (n : ℕ). floor ≤ n) sp (from_by (is_interruptible u.registers) (u.registers 1))

  -- where neither the board's machine nor the program's ends by a bus fault
  module _ (blind : AreSameFrom floor (code_executed s i) (code_executed u i)) (as_board : code_executed s i ≡ machine_outcome_with (look_effects (looks_at b i)) more b x (cycles_of i)) (line : x.board.line ≡ b.line) where
    outcome_is : (a : Result Stepped Stop) → x.answer ≡ a → code_executed s i ≡ outcome_of_answer es (cycles_of i) a (machine_with more x.board)
    outcome_is a e = as_board ∙ ap (λ y. outcome_of_answer es (cycles_of i) y (machine_with more x.board)) e

    stopped : (e : Stop) → x.answer ≡ Err e → program_executed u i ≡ Stops es (cycles_of i) e
    stopped e a =
        ap (uncovering i u) (stop_alike floor es (cycles_of i) e (code_executed u i)
        (subst (λ (o : MachineOutcome). AreSameFrom floor o (code_executed u i)) (outcome_is (Err e) a) blind))

    -- one that is made
    module _ (done : Stepped) (answer : x.answer ≡ Ok done) where
      abbrev t : MachineBoard
      t = machine_with more after

      on_board : code_executed s i ≡ Goes es done.cycles t
      on_board = outcome_is (Ok done) answer

      going : IsGoing floor es done.cycles t (code_executed u i)
      going = going_alike floor es done.cycles t (code_executed u i)
          (subst (λ (o : MachineOutcome). AreSameFrom floor o (code_executed u i)) on_board blind)

      -- the program's machine as the instruction leaves it, and as a handler may
      abbrev next : MachineBoard
      next = going.next

      abbrev behind : MachineBoard
      behind = uncovered i u next

      -- FRAM changes by the same stores, none of them from the handler on
      on_u : next.fram ≡ fram_after es u.fram
      on_u = (subst (λ (o : MachineOutcome). ChangesByEffects u o) going.is (code_changes u i)).0

      on_s : t.fram ≡ fram_after es s.fram
      on_s = (subst (λ (o : MachineOutcome). ChangesByEffects s o) on_board (code_changes s i)).0

      keeps : (a : ℕ) → handler_place ≤ a → next.fram a ≡ u.fram a
      keeps = subst (λ (o : MachineOutcome). KeepsTheHandler u o) going.is (code_keeps u i)

      off_ring : (a : ℕ) → is_ring a ≡ false → handler_place ≤ a → next.fram a ≡ t.fram a
      off_ring a off high =
          let here : u.fram a ≡ s.fram a = ap (λ f. f a) shows.fram ∙ steady_off (fram_of b.fram) a off in
          let left : fram_after es u.fram a ≡ u.fram a = ap (λ f. f a) (sym on_u) ∙ keeps a high in
          keeps a high ∙ here ∙ sym (left_alike es u.fram s.fram a here left) ∙ ap (λ f. f a) (sym on_s)

      fram_at : (a : ℕ) → next.fram a ≡ steady (fram_of after.fram) a
      fram_at a =
          either_word (is_ring a) (next.fram a) (fram_of after.fram a)
          (λ r. keeps a (ring_high a r) ∙ ap (λ f. f a) shows.fram ∙ ap (λ (c : Bool). if c then 0 else fram_of b.fram a) r)
          (λ off. ⊎_elim (λ l. going.same.fram a l) (λ h. off_ring a off h) (low_or_high a))
        where
          ring_high : (a : ℕ) → is_ring a ≡ true → handler_place ≤ a
          ring_high a r = grind (arith, nat_tests)

          low_or_high : (a : ℕ) → (a < handler_place) ⊎ (handler_place ≤ a)
          low_or_high a = cases_lt a handler_place

      moved : next.registers 1 ≡ t.registers 1
      moved = ap (λ r. r 1) going.same.registers

      -- SP is even
      sp_even : next.registers 1 % 2 ≡ 0
      sp_even =
          let left = boundary_whole x.board (step_leaves_it_whole b x whole (executed_is_step b i current)) in
          subst (λ (n : ℕ). n % 2 ≡ 0) (sym moved) left.registers.even_sp

      -- the word that a push leaves at SP
      same_there : pushes i ≡ true → stack_floor ≤ next.registers 1 → next.registers 1 < stack_top
          → next.ram (next.registers 1) ≡ Some (ram_of after.ram (next.registers 1))
      same_there p l h =
          let is_ram : IsRam (t.registers 1) = record {
            even = subst (λ (n : ℕ). n % 2 ≡ 0) moved sp_even;
            low = omega (arith, moved, l);
            high = omega (arith, moved, h);
          } in
          let top : HaveSameTop (Goes es done.cycles t) (Goes es done.cycles next) =
          same_top (code_executed s i) (code_executed u i) es es done.cycles done.cycles t next on_board going.is (pushes_alike floor i s u p low same) in
          ap next.ram moved ∙ top is_ram ∙ ap (λ b. Some (ram_of after.ram b)) (sym moved)

      -- the word that a push wrote, at SP, which it moved down
      ram_pushed : KeepsItsStack u next → (a w : ℕ) → next.registers 1 ≤ a → a < uncovered_from i (next.registers 1) → a < u.registers 1 → a % 2 ≡ 0
          → next.ram a ≡ Some w → ram_of after.ram a ≡ w
      ram_pushed stack a w above below down even e =
          let push = pushed_there i (next.registers 1) a above below in
          let sp = sp_even in let near = push.1 in
          let at : a ≡ next.registers 1 = omega (arith, sp, even, above, near) in
          let inside = leb-true (u.registers 1) stack_top
          (and_parts (nat_le stack_floor (u.registers 1)) (nat_le (u.registers 1) stack_top) stack.in_stack).1 in
          let lower : next.registers 1 < u.registers 1 = omega (arith, at, down) in
          let stays = stays_inside (u.registers 1) (next.registers 1) lower stack.stack in
          same_Some (ram_of after.ram a) w (ap (λ b. Some (ram_of after.ram b)) at
          ∙ sym (same_there push.0 stays.0 (omega (arith, lower, inside))) ∙ ap next.ram (sym at) ∙ e)

      -- RAM from SP up, wherever that moves
      ram_same : (a w : ℕ) → floor ≤ a → a % 2 ≡ 0 → next.ram a ≡ Some w → ram_of after.ram a ≡ w
      ram_same a w l even e = same_Some (ram_of after.ram a) w (going.same.ram a w l even e)

      ram_moved : floor ≡ u.registers 1 → KeepsItsStack u next → (a w : ℕ) → next.registers 1 ≤ a → a % 2 ≡ 0
          → (a < uncovered_from i (next.registers 1)) ⊎ (u.registers 1 ≤ a) → next.ram a ≡ Some w → ram_of after.ram a ≡ w
      ram_moved is stack a w above even (inr up) e = ram_same a w (omega (arith, is, up)) even e
      ram_moved is stack a w above even (inl below) e =
          ⊎_elim (λ down. ram_pushed stack a w above below down even e) (λ up. ram_same a w (omega (arith, is, up)) even e) (cases_lt a (u.registers 1))

      ram_behind : KeepsRules u behind → (c : Bool) → is_interruptible u.registers ≡ c → (a w : ℕ) → shown_from behind ≤ a → a % 2 ≡ 0
          → (if c then forgotten (uncovered_from i (next.registers 1)) (u.registers 1) next.ram else next.ram) a ≡ Some w → ram_of after.ram a ≡ w
      ram_behind rules false closed a w above even e =
          let is : floor ≡ 0 = ap (λ (d : Bool). if d then u.registers 1 else 0) closed in
          ram_same a w (omega (arith, is)) even e
      ram_behind rules true accepts a w above even e =
          let is : floor ≡ u.registers 1 = ap (λ (d : Bool). if d then u.registers 1 else 0) accepts in
          let stack = rules accepts in
          let end : shown_from behind ≡ next.registers 1 = ap (λ (d : Bool). if d then next.registers 1 else 0) stack.accepts in
          let from = uncovered_from i (next.registers 1) in
          let upto = u.registers 1 in
          let is_known = known_by (nat_le from a && nat_lt a upto) (next.ram a) w e in
          let kept : KeepsItsStack u next = record { accepts = stack.accepts; in_stack = stack.in_stack; stack = stack.stack } in
          ram_moved is kept a w (omega (arith, end, above)) even (not_within from upto a is_known.0) is_known.1

      shows_next : KeepsRules u behind → Shows after behind
      shows_next rules = record {
        registers = going.same.registers;
        fram = fun_ext fram_at;
        ram = λ a w above even e. ram_behind rules (is_interruptible u.registers) refl a w above even e;
        readings = ap (λ j. j.readings) going.same.inputs;
        outnum = going.same.outnum;
      }

      programs : KeepsRules u behind → more ≡ [] → registers_of b.cpu 0 < handler_place → IsPrograms b i
      programs rules none below =
          let joined : looks_at b i ++ more ≡ looks_at b i = ap (λ l. looks_at b i ++ l) none ∙ append-nil (looks_at b i) in
          record {
            below = below;
            step = ap (λ l. code_executed (machine_with l b) i) (sym joined) ∙ as_board
                ∙ ap (λ l. machine_outcome_with (look_effects (looks_at b i)) l b x (cycles_of i)) none;
            fram = sym (fun_ext fram_at) ∙ on_u ∙ ap (fram_after es) shows.fram;
            line = line;
          }

      made : IsMade b u i more done
      made = record { next = behind; goes = ap (uncovering i u) going.is; looks = ap (λ j. j.looks) going.same.inputs; shows = shows_next; programs = programs }

    does_alike : DoesAlike b u i more
    does_alike = record { line = line; made = made; stopped = stopped }

  fault : IsBusFault (code_executed u i) → IsBusFault (program_executed u i)
  fault f = fault_uncovered i u (code_executed u i) f

  does : IsBusFault (program_executed u i) ⊎ DoesAlike b u i more
  does =
      ⊎_elim {C = IsBusFault (program_executed u i) ⊎ DoesAlike b u i more} (λ f. inl (fault f))
      (λ blind. ⊎_elim {C = IsBusFault (program_executed u i) ⊎ DoesAlike b u i more}
      (λ f. inl (fault (fault_alike floor (code_executed s i) (code_executed u i) blind f))) (λ o. inr (does_alike blind o.0 o.1))
      (looks_as_the_board b i more whole)) (machine_is_blind floor i s u low same)

pub instructions_are_the_programs : InstructionsAreThePrograms
instructions_are_the_programs b u i more whole shows current looks = does b u i more whole shows current looks
