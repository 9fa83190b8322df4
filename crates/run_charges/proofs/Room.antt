-- Where the CPU accepts interrupts SP stands where the handler has room below it; and once it does it goes on to.
use Rattle.std.proofs.Common.{◌≡◌, ◌<◌, ◌/◌, ◌%◌, ◌==◌, nat_le, arith, ℕ, zero, suc, refl, sym, ap, ◌∙◌, subst, Bool, true, false, leb-true, List, [], ◌∷◌}
use Rattle.std.proofs.Common.{◌++◌}
use Rattle.std.proofs.lemmas.Bool.{and_parts}
use Rattle.std.proofs.lemmas.Bool.Decides.{nat_tests}
use Rattle.address_space.specs.Limits.{stack_floor, stack_top}
use Rattle.event_places.specs.Places.{handler_place}
use Rattle.msp_step.specs.Registers.{Registers, registers_of}
use Rattle.msp_step.specs.Step.{is_interruptible, off_bit}
use Rattle.fram_board.specs.Board.{BoardValue, powered}
use Rattle.fram_board.specs.Effects.{Effect}
use Rattle.fram_board.specs.Run.{Action, PowerUp, Moment}
use Rattle.machine_effects.specs.Going.{Goes, Stops, At, continued, going}
use Rattle.machine_effects.specs.Inputs.{Look, SeeWords}
use Rattle.machine_effects.specs.Machine.{MachineBoard, MachineOutcome, in_stack}
use Rattle.machine_effects.specs.View.{IsWhole, IsOfWords}
use Rattle.machine_effects.specs.Runs.{last_board}
use Rattle.program_view.specs.Stands.{StandsAs, AtCode, InHandler}
use Rattle.program_view.proofs.Interface.{handler_is_high}
use Rattle.code_forms.specs.Placed.{placed}
use Rattle.code_forms.proofs.Interface.{code_stays_open}
use Rattle.crash_rules.specs.History.{History, behind_boot}
use Rattle.crash_rules.specs.Runs.{Program}
use Rattle.run_charges.specs.View.{looks_in}
use Rattle.run_charges.specs.Moments.{IsMomentFrom, PowersUp, Instructs, Serves, AreMoments}
use Rattle.run_charges.specs.Charges.{AreInstructionMoments, IsInstruction, observed, program_steps}
use Rattle.run_charges.specs.Fronts.{ChargeFront, board_behind, board_behind_all, AreChargesFrom}
use Rattle.run_charges.specs.Laws.{Accepts, HasRoom, StackHasRoom, InterruptsStayOn, BoardsAreWatched}
use Rattle.run_charges.proofs.Charges.{front_charges, run_front}
use Rattle.run_charges.proofs.Moments.{nothing_seen, are_behind, are_front, whole_behind}
use Rattle.run_charges.proofs.Running.{PlacedProgram, Machine, may_stand, goes_as}
use Rattle.run_charges.proofs.Reaching.{instructions_reach, looks_see}
use Rattle.run_charges.proofs.Programs.{last_behind, Ready, ready_on, running, reach, ready_behind, front_reached}
use Rattle.run_charges.proofs.Fronts.{placed_program, ready_there, programs_run}

-- in the handler GIE is clear
closed_inside : (r : Registers) → r 2 / 8 % 0x20 ≡ 0 → is_interruptible r ≡ true → ⊥
closed_inside r clear e =
    let set = (and_parts (off_bit r == 0) (r 2 / 8 % 2 == 1) e).1 in grind (arith, nat_tests)

module _ (on : PlacedProgram) where
  abbrev step : MachineBoard → MachineOutcome
  step = on.program.step

  -- where interrupts are accepted on a board with its machine
  has_room : (b : BoardValue) (more : List Look) → Machine on b more → Accepts b → HasRoom b
  has_room b more x accepts = by x.stands on.events refl
    where
      by : StandsAs b x.u → (c : Bool) → on.events ≡ c → HasRoom b
      by (AtCode shows) true e =
          let prepared = x.prepared e (ap is_interruptible shows.registers ∙ accepts) in
          let inside = and_parts (nat_le stack_floor (x.u.registers 1)) (nat_le (x.u.registers 1) stack_top)
          (and_parts _ (in_stack (x.u.registers 1)) prepared).1 in
          let sp : x.u.registers 1 ≡ registers_of b.cpu 1 = ap (λ r. r 1) shows.registers in
          let low = leb-true stack_floor (x.u.registers 1) inside.0 in
          let high = leb-true (x.u.registers 1) stack_top inside.1 in
          record { low = omega (arith, sp, low); high = omega (arith, sp, high) }
      by (AtCode shows) false e =
          let no : true ≡ false = sym (ap is_interruptible shows.registers ∙ accepts) ∙ x.quiet e in absurd cc
      by (InHandler from at shows interrupted inside) c e = absurd (closed_inside (registers_of b.cpu) inside.control accepts)

  abbrev IsRoomy : BoardValue → Type 0
  IsRoomy b = Accepts b → HasRoom b

  charges_have_room : (b : BoardValue) (h : History) (fs : List ChargeFront) → Ready on b h → IsRoomy b → AreChargesFrom b fs → IsRoomy (board_behind_all b fs)
  charges_have_room b h [] ready room all = room
  charges_have_room b h (f ∷ fs) ready room all =
      let c = all.0 in
      let ms = f.instructions in
      let here = ready_on on b f.before h c.follows ready in
      let k = observed on.marks ms (behind_boot h) in
      charges_have_room (board_behind f) k fs (ready_behind on f.before h here f.start c.start ms c.instructions c.moments)
      (has_room (board_behind f) [] (reach on f.before h here f.start c.start ms c.instructions c.moments).end) all.1

  -- in front of the handler the board's registers are as they may be
  abbrev IsWatched : BoardValue → Type 0
  IsWatched b = registers_of b.cpu 0 < handler_place → on.is.may (registers_of b.cpu) ≡ true

  is_watched : (b : BoardValue) (more : List Look) → Machine on b more → IsWatched b
  is_watched b more x low = by x.stands
    where
      by : StandsAs b x.u → on.is.may (registers_of b.cpu) ≡ true
      by (AtCode shows) = ap on.is.may (sym shows.registers) ∙ may_stand on x.u (x.leaves 1)
      by (InHandler from at shows interrupted inside) = absurd (let high = handler_is_high from at b inside in omega (arith, low, high))

  charges_are_watched : (b : BoardValue) (h : History) (fs : List ChargeFront) → Ready on b h → IsWatched b → AreChargesFrom b fs
      → IsWatched (board_behind_all b fs)
  charges_are_watched b h [] ready watched all = watched
  charges_are_watched b h (f ∷ fs) ready watched all =
      let c = all.0 in
      let ms = f.instructions in
      let here = ready_on on b f.before h c.follows ready in
      let k = observed on.marks ms (behind_boot h) in
      charges_are_watched (board_behind f) k fs (ready_behind on f.before h here f.start c.start ms c.instructions c.moments)
      (is_watched (board_behind f) [] (reach on f.before h here f.start c.start ms c.instructions c.moments).end) all.1

  -- the program's machine goes on accepting them
  module _ (events : on.events ≡ true) where
    step_stays : (u t : MachineBoard) (es : List Effect) (c : ℕ) → step u ≡ Goes es c t → is_interruptible u.registers ≡ true
        → is_interruptible t.registers ≡ true
    step_stays u t es c e accepts =
        code_stays_open (placed on.events on.place on.instructions) u t es c events (goes_as on u t es c e) accepts

    stays_by : (n : ℕ) (u t : MachineBoard) (o : MachineOutcome) → step u ≡ o → (continued o (going step n)).status ≡ At t
        → is_interruptible u.registers ≡ true
        → ((v : MachineBoard) → (going step n v).status ≡ At t → is_interruptible v.registers ≡ true → is_interruptible t.registers ≡ true)
        → is_interruptible t.registers ≡ true
    stays_by n u t (Goes es c v) s f accepts further = further v f (step_stays u v es c s accepts)
    stays_by n u t (Stops es price x) s f accepts further = absurd cc

    going_stays : (n : ℕ) (u t : MachineBoard) → (going step n u).status ≡ At t → is_interruptible u.registers ≡ true → is_interruptible t.registers ≡ true
    going_stays zero u t e accepts = let same : u ≡ t = cc in subst (λ (v : MachineBoard). is_interruptible v.registers ≡ true) same accepts
    going_stays (suc n) u t e accepts = stays_by n u t (step u) refl e accepts (λ v f now. going_stays n v t f now)

    -- a board with its machine, which accepts them, or in the handler
    machine_accepts : (b : BoardValue) (more : List Look) (x : Machine on b more) → Accepts b → is_interruptible x.u.registers ≡ true
    machine_accepts b more x accepts = by x.stands
      where
        by : StandsAs b x.u → is_interruptible x.u.registers ≡ true
        by (AtCode shows) = ap is_interruptible shows.registers ∙ accepts
        by (InHandler from at shows interrupted inside) = absurd (closed_inside (registers_of b.cpu) inside.control accepts)

    board_accepts : (b : BoardValue) (more : List Look) (x : Machine on b more) → is_interruptible x.u.registers ≡ true → registers_of b.cpu 0 < handler_place
        → Accepts b
    board_accepts b more x accepts low = by x.stands
      where
        by : StandsAs b x.u → Accepts b
        by (AtCode shows) = sym (ap is_interruptible shows.registers) ∙ accepts
        by (InHandler from at shows interrupted inside) = let high = handler_is_high from at b inside in absurd (omega (arith, low, high))

    -- over steps of a charge
    steps_stay : (b : BoardValue) → IsWhole b → IsOfWords b → (ms : List Moment) → AreMoments b ms → AreInstructionMoments ms
        → Machine on b (looks_in ms ++ []) → Accepts b → registers_of (last_board b ms).cpu 0 < handler_place → Accepts (last_board b ms)
    steps_stay b whole words ms are is x accepts low =
        let there = instructions_reach on b ms whole words are is [] x in
        let status = ap (λ r. r.status) there.run in
        board_accepts (last_board b ms) [] there.end
        (going_stays (program_steps ms) x.u there.end.u status (machine_accepts b (looks_in ms ++ []) x accepts)) low

pub stack_has_room : (c : Program) → StackHasRoom c
stack_has_room c cs b r ms rest run e marks h stands closed accepts =
    let on = placed_program c marks b h stands in
    let ready = ready_there c marks b h stands cs r run in
    let all = front_charges b ms (run_front cs b r ms rest (programs_run c cs b r run marks h stands) e) in
    let there : last_board b ms ≡ board_behind_all b all.charges = ap (last_board b) all.moments ∙ last_behind b all.charges in
    let first : IsRoomy on b = λ now. let no : true ≡ false = sym now ∙ closed in absurd cc in
    subst (λ (y : BoardValue). Accepts y → HasRoom y) (sym there) (charges_have_room on b h all.charges ready first all.follow) accepts

pub boards_are_watched : (c : Program) → BoardsAreWatched c
boards_are_watched c cs b r ms rest run e marks h stands first =
    let on = placed_program c marks b h stands in
    let ready = ready_there c marks b h stands cs r run in
    let all = front_charges b ms (run_front cs b r ms rest (programs_run c cs b r run marks h stands) e) in
    let there : last_board b ms ≡ board_behind_all b all.charges = ap (last_board b) all.moments ∙ last_behind b all.charges in
    subst (IsWatched on) (sym there) (charges_are_watched on b h all.charges ready first all.follow)

-- moments leave a whole board of words
all_whole : (b : BoardValue) (ms : List Moment) → IsWhole b → IsOfWords b → AreMoments b ms → IsWhole (last_board b ms) × IsOfWords (last_board b ms)
all_whole b [] whole words are = (whole, words)
all_whole b (m ∷ ms) whole words are =
    let one = whole_behind m.before m (subst IsWhole (sym are.0.same) whole) (subst IsOfWords (sym are.0.same) words) are.1 in
    all_whole m.after ms one.0 one.1 are.2

pub no_power_up : (m : Moment) → m.action ≡ PowerUp → IsInstruction m.action → ⊥
no_power_up m up is = subst (λ (a : Action). IsInstruction a) up is

-- a charge from a board that is ready: once interrupts are accepted they stay so
charge_stays : (on : PlacedProgram) → on.events ≡ true → (t : BoardValue) (h : History) → Ready on t h → (boot : Moment) → IsMomentFrom t boot
    → boot.action ≡ PowerUp → (first more : List Moment) → AreMoments boot.after first → AreMoments (last_board boot.after first) more
    → AreInstructionMoments first → AreInstructionMoments more → Accepts (last_board boot.after first)
    → let end = last_board (last_board boot.after first) more in registers_of end.cpu 0 < handler_place → Accepts end
charge_stays on events t h ready boot (PowersUp p ok e) up first more are others is rest =
    let P : Moment → Type 0 = λ y. AreMoments y.after first → AreMoments (last_board y.after first) more → Accepts (last_board y.after first)
    → registers_of (last_board (last_board y.after first) more).cpu 0 < handler_place → Accepts (last_board (last_board y.after first) more) in
    subst P (sym e)
    (λ here there accepts low.
    let runs = running on t h ready p ok in
    let start = powered t p in
    let left = looks_in more ++ [] in
    let both = all_whole start first runs.whole runs.words here in
    let after : SeeWords left = looks_see (last_board start first) more both.0 both.1 there [] nothing_seen in
    let see : SeeWords (looks_in first ++ left) = looks_see start first runs.whole runs.words here left after in
    let x = runs.machine (looks_in first ++ left) see in
    let reached = instructions_reach on start first runs.whole runs.words here is left x in
    steps_stay on events (last_board start first) reached.whole reached.words more there rest reached.end accepts low) are others
charge_stays on events t h ready boot (Instructs i done c a own e) up first more are others is rest =
    absurd (no_power_up boot up (subst (λ (y : Moment). IsInstruction y.action) (sym e) tt))
charge_stays on events t h ready boot (Serves n done next a served e) up first more are others is rest =
    absurd (no_power_up boot up (subst (λ (y : Moment). IsInstruction y.action) (sym e) tt))

pub interrupts_stay_on : (c : Program) → InterruptsStayOn c
interrupts_stay_on c cs b r before boot first more rest run e up is also marks h stands events =
    let on = placed_program c marks b h stands in
    let ready = ready_there c marks b h stands cs r run in
    let program = programs_run c cs b r run marks h stands in
    let all : AreMoments b (before ++ boot ∷ (first ++ (more ++ rest))) = subst (λ (l : List Moment). AreMoments b l) e program.moments in
    let behind = are_behind b before (boot ∷ (first ++ (more ++ rest))) all in
    let reached = front_reached on b h ready before (run_front cs b r before (boot ∷ (first ++ (more ++ rest))) program e) in
    let k = observed marks before h in
    let there = ready_on on (last_board b before) boot.before k behind.0 reached.ready in
    charge_stays on events boot.before k there boot behind.1 up first more (are_front boot.after first (more ++ rest) behind.2)
    (are_front (last_board boot.after first) more rest (are_behind boot.after first (more ++ rest) behind.2)) is also
