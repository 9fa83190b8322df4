-- Steps of a charge are as many steps of the program as are its own, and the handler takes its cycles.
use Rattle.std.proofs.Common.{◌≡◌, ◌+◌, ◌*◌, ◌≤◌, ◌<◌, ℕ, suc, refl, sym, ap, ◌∙◌, subst, arith, Bool, true, false, if◌then◌else◌, List, [], ◌∷◌, ◌++◌}
use Rattle.std.proofs.Common.{append_assoc, Option, Ok}
use Rattle.event_places.specs.Places.{handler_place}
use Rattle.msp_isa.specs.declared.instructions.Instr.{Instr}
use Rattle.msp_step.specs.Registers.{registers_of}
use Rattle.fram_board.specs.declared.board.NextStep.TheVariants as next_step
use Rattle.fram_board.specs.declared.board.Stepped.{Stepped}
use Rattle.fram_board.specs.Board.{BoardValue, executed, performed, IsNextInstruction}
use Rattle.fram_board.specs.declared.events.Heard.TheVariants as heard
use Rattle.fram_board.specs.Events.{words_in}
use Rattle.fram_board.specs.Effects.{Effect}
use Rattle.fram_board.specs.Run.{Action, PowerUp, Execute, Moment, moment_of}
use Rattle.machine_effects.specs.Going.{At, stretch, after_effects, going}
use Rattle.machine_effects.specs.Inputs.{Look, SeeWords}
use Rattle.machine_effects.specs.Machine.{MachineBoard, MachineOutcome, MachineStretch, fram_of}
use Rattle.machine_effects.specs.View.{IsWhole, IsOfWords}
use Rattle.machine_effects.specs.World.{fram_after}
use Rattle.machine_effects.specs.Runs.{action_cycles, last_board}
use Rattle.machine_effects.proofs.Interface.{machine_is_of_words, fram_after-append, boundary_heard, powered_heard}
use Rattle.event_handler.specs.Handler.{Stage}
use Rattle.program_view.specs.Stands.{StandsAs, AtCode, InHandler, cycles_due, steps_due, stage_of, waiting}
use Rattle.program_view.proofs.Interface.{handler_is_high}
use Rattle.run_charges.specs.View.{outside_of, is_handlers, looks_by, outside_looks, looks_in, outside_effects, all_outside_effects}
use Rattle.run_charges.specs.Moments.{IsMomentFrom, PowersUp, Instructs, Serves, AreMoments}
use Rattle.run_charges.specs.Charges.{IsInstruction, AreInstructionMoments, program_steps, program_cycles}
use Rattle.run_charges.specs.Fronts.{handler_steps, handler_cycles, acceptances}
use Rattle.run_charges.proofs.Moments.{whole_behind, served_effects, front_sees, IsPowerOrStep, IsPower, IsStepped, moment_is}
use Rattle.run_charges.proofs.Running.{PlacedProgram, Machine, relooked, Leads, Moves, Turn, looks_of, program_turn, turn_leads, leads_on}

if_add : (c : Bool) (n k : ℕ) → (if c then n + k else k) ≡ (if c then n else 0) + k
if_add true n k = refl
if_add false n k = omega arith

if_one : (c : Bool) (k : ℕ) → (if c then suc k else k) ≡ (if c then 1 else 0) + k
if_one true k = omega arith
if_one false k = omega arith

-- what is told in front, or nothing where it is the handler's
joined : (h : Bool) (es fs : List Effect) (c d : ℕ) (t : MachineBoard) → (h ≡ true → es ≡ [])
    → ◌≡◌ {A = MachineStretch} (if h then stretch fs d (At t) else after_effects es c (stretch fs d (At t)))
    (stretch (es ++ fs) (if h then d else c + d) (At t))
joined true es fs c d t none = ap (λ l. stretch (l ++ fs) d (At t)) (sym (none refl))
joined false es fs c d t none = refl

-- a moment on a board of words sees words
moment_sees : (b : BoardValue) (m : Moment) (more : List Look) → IsOfWords b → m.before ≡ b → SeeWords more → SeeWords (outside_looks m ++ more)
moment_sees b m more words at see = by (is_handlers m) m.action
  where
    small : (a : ℕ) → fram_of m.before.fram a < 0x10000
    small = (machine_is_of_words m.before (subst IsOfWords (sym at) words)).fram

    by : (h : Bool) (a : Action) → SeeWords ((if h then [] else looks_by a m.before) ++ more)
    by true a = see
    by false PowerUp = see
    by false (Execute kind done offered) = front_sees _ (fram_of m.before.fram) more small see

before_is : (b : BoardValue) (m : Moment) → IsMomentFrom b m → m.before ≡ b
before_is b m (PowersUp p ok e) = ap (λ (y : Moment). y.before) e
before_is b m (Instructs i done c a own e) = ap (λ (y : Moment). y.before) e
before_is b m (Serves n done next a served e) = ap (λ (y : Moment). y.before) e

-- nothing was read of EVENT behind a moment
pub silent_behind : (b : BoardValue) (m : Moment) → IsMomentFrom b m → m.after.line.heard ≡ heard.Nothing
silent_behind b m (PowersUp p ok e) = subst (λ (y : Moment). y.after.line.heard ≡ heard.Nothing) (sym e) (powered_heard b p)
silent_behind b m (Instructs i done c a own e) =
    subst (λ (y : Moment). y.after.line.heard ≡ heard.Nothing) (sym e) (boundary_heard (executed b i).board)
silent_behind b m (Serves n done next a served e) =
    subst (λ (y : Moment). y.after.line.heard ≡ heard.Nothing) (sym e) (boundary_heard (performed b n).board)

-- so do moments
pub looks_see : (b : BoardValue) (ms : List Moment) → IsWhole b → IsOfWords b → AreMoments b ms → (more : List Look) → SeeWords more
    → SeeWords (looks_in ms ++ more)
looks_see b [] whole words are more see = see
looks_see b (m ∷ ms) whole words are more see =
    let words_there = subst IsOfWords (sym are.0.same) words in
    let behind = whole_behind m.before m (subst IsWhole (sym are.0.same) whole) words_there are.1 in
    subst SeeWords (sym (append_assoc (outside_looks m) (looks_in ms) more))
    (moment_sees m.before m (looks_in ms ++ more) words_there refl (looks_see m.after ms behind.0 behind.1 are.2 more see))

one_fram : (b : BoardValue) (m : Moment) → IsPowerOrStep b m → (outside_of m.after).fram ≡ fram_after (outside_effects m) (outside_of b).fram
one_fram b m (IsPower p ok e) =
    let P : Moment → Type 0 = λ y. (outside_of y.after).fram ≡ fram_after (outside_effects y) (outside_of b).fram in subst P (sym e) refl
one_fram b m (IsStepped s) = s.fram

-- FRAM changes as moments tell
pub fram_all : (b : BoardValue) (ms : List Moment) → IsWhole b → IsOfWords b → AreMoments b ms
    → (outside_of (last_board b ms)).fram ≡ fram_after (all_outside_effects ms) (outside_of b).fram
fram_all b [] whole words are = refl
fram_all b (m ∷ ms) whole words are =
    let whole_there = subst IsWhole (sym are.0.same) whole in
    let words_there = subst IsOfWords (sym are.0.same) words in
    let behind = whole_behind m.before m whole_there words_there are.1 in
    let one = one_fram m.before m (moment_is m.before m whole_there words_there are.1) in
    fram_all m.after ms behind.0 behind.1 are.2
    ∙ ap (fram_after (all_outside_effects ms)) (one ∙ ap (λ (y : BoardValue). fram_after (outside_effects m) (outside_of y).fram) are.0.same)
    ∙ sym (fram_after-append (outside_effects m) (all_outside_effects ms) (outside_of b).fram)

module _ (on : PlacedProgram) where
  abbrev step : MachineBoard → MachineOutcome
  step = on.program.step

  -- an instruction that stands in front of the handler is the program's
  module _ (b : BoardValue) (whole : IsWhole b) (words : IsOfWords b) (more : List Look) (i : Instr) (done : Stepped) (current : IsNextInstruction b i)
      (answer : (executed b i).answer ≡ Ok done) (below : registers_of b.cpu 0 < handler_place) where
    instruction_turn : (x : Machine on b (looks_of b (next_step.Instruction i) ++ more))
        → Turn on b more x.u (cycles_due x.stands) (steps_due x.stands) (waiting x.stands) (stage_of x.stands) (next_step.Instruction i)
    instruction_turn x = by x.stands
      where
        by : (st : StandsAs b x.u) → Turn on b more x.u (cycles_due st) (steps_due st) (waiting st) (stage_of st) (next_step.Instruction i)
        by (AtCode shows) = program_turn on b whole words more i x shows current
        by (InHandler from at shows interrupted inside) =
            let high = handler_is_high from at b inside in absurd (omega (arith, below, high))

    instruction_leads : (x : Machine on b (outside_looks (moment_of b (next_step.Instruction i) done) ++ more))
        → Leads on b (moment_of b (next_step.Instruction i) done) more x
    instruction_leads x = turn_leads on b whole words more (next_step.Instruction i) done answer x (instruction_turn x)

  one_leads : (b : BoardValue) → IsWhole b → IsOfWords b → (m : Moment) → IsMomentFrom b m → IsInstruction m.action → (more : List Look)
      → (x : Machine on b (outside_looks m ++ more)) → Leads on b m more x
  one_leads b whole words m (PowersUp p ok e) is more = absurd (subst (λ (y : Moment). IsInstruction y.action) e is)
  one_leads b whole words m (Instructs i done c a own e) is more =
      let P : Moment → Type 0 = λ y. (x : Machine on b (outside_looks y ++ more)) → Leads on b y more x in
      subst P (sym e) (instruction_leads b whole words more i done c a own.below)
  one_leads b whole words m (Serves n done next a served e) is more =
      let P : Moment → Type 0 = λ y. (x : Machine on b (outside_looks y ++ more)) → Leads on b y more x in
      subst P (sym e) (leads_on on b whole words more n done next a)

  -- how the handler goes on over steps of a charge
  abbrev pub MoveOn : BoardValue → List Moment → Option (BoardValue × Stage) → Option (BoardValue × Stage) → Type 0
  MoveOn b [] s t = s ≡ t
  MoveOn b (m ∷ ms) s t = (u : Option (BoardValue × Stage)) × Moves on m.before m s u × MoveOn m.after ms u t

  -- what steps of a charge lead to, from a machine of the program's on
  pub record Reach (b : BoardValue) (ms : List Moment) (more : List Look) (x : Machine on b (looks_in ms ++ more)) : Type 0 where
    pub end : Machine on (last_board b ms) more
    pub run : going step (program_steps ms) x.u ≡ stretch (all_outside_effects ms) (program_cycles ms) (At end.u)
    pub cycles : handler_cycles ms + cycles_due end.stands ≤ 48 * acceptances ms + cycles_due x.stands
    pub steps : handler_steps ms + steps_due end.stands ≤ 16 * acceptances ms + steps_due x.stands
    pub arise : b.line.heard ≡ heard.Nothing → b.line.arisen + (waiting x.stands + words_in (last_board b ms).line.port + acceptances ms)
        ≤ (last_board b ms).line.arisen + (waiting end.stands + words_in b.line.port)
    pub moves : MoveOn b ms (stage_of x.stands) (stage_of end.stands)
    pub whole : IsWhole (last_board b ms)
    pub words : IsOfWords (last_board b ms)

  abbrev joined_looks : (b : BoardValue) (m : Moment) (ms : List Moment) (more : List Look) → Machine on b ((outside_looks m ++ looks_in ms) ++ more)
      → Machine on b (outside_looks m ++ (looks_in ms ++ more))
  joined_looks b m ms more x =
      relooked on b ((outside_looks m ++ looks_in ms) ++ more) (outside_looks m ++ (looks_in ms ++ more)) (append_assoc (outside_looks m) (looks_in ms) more) x

  more_reach : (b : BoardValue) (m : Moment) (ms : List Moment) (more : List Look) (x : Machine on b ((outside_looks m ++ looks_in ms) ++ more))
      → m.after.line.heard ≡ heard.Nothing → (one : Leads on b m (looks_in ms ++ more) (joined_looks b m ms more x))
      → Moves on m.before m (stage_of x.stands) (stage_of one.next.stands) → Reach m.after ms more one.next → Reach b (m ∷ ms) more x
  more_reach b m ms more x silent one moved rest =
      let h = is_handlers m in
      let c = action_cycles m.action in
      let k = program_steps ms in
      let es = outside_effects m in
      let cycles_all = if_add h c (handler_cycles ms) in
      let steps_all = if_one h (handler_steps ms) in
      let c1 = one.cycles in
      let c2 = rest.cycles in
      let s1 = one.steps in
      let s2 = rest.steps in
      record {
        end = rest.end;
        run = one.runs k
            ∙ ap (λ (r : MachineStretch). if h then r else after_effects es c r) rest.run
            ∙ joined h es (all_outside_effects ms) c (program_cycles ms) rest.end.u (served_effects m);
        cycles = omega (arith, cycles_all, c1, c2);
        steps = omega (arith, steps_all, s1, s2);
        moves = (stage_of one.next.stands, moved, rest.moves);
        arise = λ quiet. let a1 = one.arise quiet in let a2 = rest.arise silent in omega (arith, a1, a2);
        whole = rest.whole;
        words = rest.words;
      }

  pub instructions_reach : (b : BoardValue) (ms : List Moment) → IsWhole b → IsOfWords b → AreMoments b ms → AreInstructionMoments ms → (more : List Look)
      → (x : Machine on b (looks_in ms ++ more)) → Reach b ms more x
  instructions_reach b [] whole words are is more x =
      record { end = x; run = refl; cycles = omega arith; steps = omega arith; arise = λ quiet. omega arith; moves = refl; whole = whole; words = words }
  instructions_reach b (m ∷ ms) whole words are is more x =
      let c = m.before in
      let whole_there = subst IsWhole (sym are.0.same) whole in
      let words_there = subst IsOfWords (sym are.0.same) words in
      let behind = whole_behind c m whole_there words_there are.1 in
      let P : BoardValue → Type 0 = λ y. (x : Machine on y ((outside_looks m ++ looks_in ms) ++ more)) → Reach y (m ∷ ms) more x in
      let here : P c = λ x.
      let one = one_leads c whole_there words_there m are.1 is.0 (looks_in ms ++ more)
      (joined_looks c m ms more x) in
      more_reach c m ms more x (silent_behind c m are.1) one one.moves (instructions_reach m.after ms behind.0 behind.1 are.2 is.1 more one.next) in
      subst P are.0.same here x
