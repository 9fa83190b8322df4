-- The moments of a run, one behind the other, and what each of its instructions does to the machine.
use Rattle.std.proofs.Common.{◌≡◌, ◌==◌, ◌≤◌, ◌+◌, ◌-◌, ◌%◌, ℕ, suc, refl, sym, ap, ◌∙◌, subst, arith, Bool, true, false, if◌then◌else◌, List, [], ◌∷◌, ◌++◌}
use Rattle.std.proofs.Common.{ap₂, nat_le, length, length-append, append-nil, ◌<◌, Option, Some, None, Ok}
use Rattle.std.proofs.lemmas.List.Elements.{All-cons}
use Rattle.std.proofs.lemmas.Bool.Decides.{nat_tests}
use Rattle.event_places.specs.Places.{handler_place}
use Rattle.msp_isa.specs.declared.instructions.Instr.{Instr}
use Rattle.msp_cycles.specs.Cycles.{cycles_of}
use Rattle.msp_step.specs.Registers.{Registers, registers_of}
use Rattle.msp_step.specs.Access.{Access, Completed, Faulted}
use Rattle.msp_step.specs.Effect.{Written}
use Rattle.msp_step.specs.Step.{effect, execution, Executed}
use Rattle.fram_board.specs.declared.board.NextStep.{NextStep}
use Rattle.fram_board.specs.declared.board.NextStep.TheVariants as next_step
use Rattle.fram_board.specs.declared.board.Stepped.{Stepped}
use Rattle.fram_board.specs.declared.receiver.Receiver.{Receiver}
use Rattle.fram_board.specs.Bus.{board_bus, is_fram, data_port}
use Rattle.fram_board.specs.Board.{BoardValue, PowerState, opened, executed, performed, at_boundary, IsNextInstruction, IsStep, is_accepted}
use Rattle.fram_board.specs.Board.{next_number}
use Rattle.fram_board.specs.Board.{offered_to}
use Rattle.fram_board.specs.Saved.{TakesNextBehind}
use Rattle.fram_board.specs.Steps.{IsPowerState}
use Rattle.fram_board.specs.Effects.{Effect, Store, Take, Outside, OutsideEffect, Offered, Looked, sends_of, effects_of, heard}
use Rattle.fram_board.specs.Run.{Measure, price, StepKind, kind_of, Execute, Moment, moment_of, power_up_of, accepted_by, Charges, RunOutcome}
use Rattle.fram_board.specs.Run.{ChargeRun}
use Rattle.fram_board.specs.Run.{Spent, NoInstruction, TooDear, Refused, BoardCharge, word_list}
use Rattle.fram_board.specs.Run as run
use Rattle.fram_board.proofs.Interface.{step_makes_its_effects, data_not_fram}
use Rattle.machine_effects.specs.World.{fram_after, received, accepted_after, readings_taken}
use Rattle.machine_effects.specs.Inputs.{Look, SeeWords, look_effects}
use Rattle.machine_effects.specs.Going.{Goes, Stops, step_behind}
use Rattle.machine_effects.specs.Machine.{MachineBus, MachineBoard, MachineOutcome, word_address, machine_bus, machine_opened_seeing, machine_outcome}
use Rattle.machine_effects.specs.Machine.{machine_executed_seeing, machine_executed, looks_there, executed_looking, code_executed}
use Rattle.machine_effects.specs.View.{machine_of, machine_with, looks_at, seen_at_pc, IsWhole, IsOfWords, outcome_of_answer}
use Rattle.machine_effects.specs.Runs.{action_effects, last_board}
use Rattle.machine_effects.proofs.Interface.{takes, written_effects, LoggedBy, effect_logged, seen_by_words}
use Rattle.machine_effects.proofs.Interface.{step_leaves_it_whole, words_stay_words, boundary_whole, boundary_words, told_effects, step_accepts_by_sends}
use Rattle.machine_effects.proofs.Interface.{power_up_keeps_words}
use Rattle.crash_rules.specs.Model.{Marks}
use Rattle.crash_rules.specs.History.{History, observe}
use Rattle.crash_rules.proofs.Interface.{observed_taken, events_of_instructions}
use Rattle.program_view.specs.View.{is_handlers_step}
use Rattle.program_view.proofs.Interface.{kind_is}
use Rattle.run_charges.specs.View.{outside_of, is_handlers, looks_by, outside_looks, outside_effects}
use Rattle.run_charges.specs.Moments.{IsPrograms, IsServed, IsMomentFrom, PowersUp, Instructs, Serves, AreMoments}
use Rattle.run_charges.specs.Charges.{ArePowerStates, AreInstructionMoments, behind_action, behind_moment}

-- the board behind the moments of a charge that is spent
pub charge_last : (m : Measure) (left : ℕ) (b : BoardValue) (r : RunOutcome) → ChargeRun m left b r → r.ending ≡ Charges → last_board b r.moments ≡ r.board
charge_last m left b r (Spent _ _ none) e = refl
charge_last m left b r (NoInstruction _ _ x pos h) e = absurd cc
charge_last m left b r (TooDear _ _ n pos c dear) e = refl
charge_last m left b r (Refused _ _ n x pos c paid a) e = absurd cc
charge_last m left b r (run.Executed _ _ n done rest pos c paid a h) e =
    charge_last m (left - price m n) (at_boundary (performed b n).board) rest h e

-- the moments of a charge are instructions
pub charge_instructs : (m : Measure) (left : ℕ) (b : BoardValue) (r : RunOutcome) → ChargeRun m left b r → AreInstructionMoments r.moments
charge_instructs m left b r (Spent _ _ none) = tt
charge_instructs m left b r (NoInstruction _ _ e pos h) = tt
charge_instructs m left b r (TooDear _ _ n pos c dear) = tt
charge_instructs m left b r (Refused _ _ n e pos c paid a) = tt
charge_instructs m left b r (run.Executed _ _ n done rest pos c paid a h) =
    (tt, charge_instructs m (left - price m n) (at_boundary (performed b n).board) rest h)

pub are-append : (b : BoardValue) (ms ns : List Moment) → AreMoments b ms → AreMoments (last_board b ms) ns → AreMoments b (ms ++ ns)
are-append b [] ns h k = k
are-append b (m ∷ ms) ns h k = (h.0, h.1, are-append m.after ms ns h.2 k)

-- the moments behind others
pub are_behind : (b : BoardValue) (ms rest : List Moment) → AreMoments b (ms ++ rest) → AreMoments (last_board b ms) rest
are_behind b [] rest h = h
are_behind b (m ∷ ms) rest h = are_behind m.after ms rest h.2

pub are_front : (b : BoardValue) (ms rest : List Moment) → AreMoments b (ms ++ rest) → AreMoments b ms
are_front b [] rest h = tt
are_front b (m ∷ ms) rest h = (h.0, h.1, are_front m.after ms rest h.2)

-- the power-ups of charges
pub first_start : (c : BoardCharge) (cs : List BoardCharge) → ArePowerStates (c ∷ cs) → IsPowerState c.start
first_start c cs ok = ok 0 c (omega arith)

-- the later charges start from states that a power-up leaves
pub other_starts : (c : BoardCharge) (cs : List BoardCharge) → ArePowerStates (c ∷ cs) → ArePowerStates cs
other_starts c cs ok = λ i d l. ok (suc i) d (omega arith)

-- the moments of each front follow one another where all do
pub front_moments : (b : BoardValue) (r : RunOutcome) (ms rest : List Moment) → AreMoments b r.moments → r.moments ≡ ms ++ rest → AreMoments b ms
front_moments b r ms rest all e = let P : List Moment → Type 0 = λ l. AreMoments b l in are_front b ms rest (subst P e all)

-- one store, one effect outside the board, or none
pub data AtMostOne (es : List Effect) : Type 0 where
  -- nothing
  NoWrite : es ≡ [] → AtMostOne es
  -- one store
  AStore : (a w : ℕ) → es ≡ Store a w ∷ [] → AtMostOne es
  -- one effect outside the board
  AnOutside : (o : OutsideEffect) → es ≡ Outside o ∷ [] → AtMostOne es

-- takes, and then one store or one effect outside at most
record TakesAndWrites (es : List Effect) : Type 0 where
  words : List ℕ
  write : List Effect
  split : es ≡ takes words ++ write
  one : AtMostOne write

-- the same behind a look
pub record OneWrite (es : List Effect) : Type 0 where
  pub looks : List Look
  pub words : List ℕ
  pub write : List Effect
  pub split : es ≡ look_effects looks ++ (takes words ++ write)
  pub one : AtMostOne write

one_by_tests : (x y : Bool) (a v w n : ℕ) → (y ≡ true → x ≡ false)
    → AtMostOne ((if x then Store a w ∷ [] else []) ++ sends_of n (if y then Some v else None))
one_by_tests true true a v w n h = let e : true ≡ false = h refl in absurd cc
one_by_tests true false a v w n h = AStore a w refl
one_by_tests false true a v w n h = AnOutside (Offered n v) refl
one_by_tests false false a v w n h = NoWrite refl

one_written : (w : Option Written) (f : ℕ → ℕ) (n : ℕ) → AtMostOne (written_effects w f n)
one_written None f n = NoWrite refl
one_written (Some w) f n = one_by_tests (is_fram w.0) (w.0 == data_port) (word_address w.0) w.1 (f (word_address w.0)) n (data_not_fram w.0)

one_logged : (s : MachineBus) (pc c d : ℕ) (m : Access MachineBus (Registers × Option Written)) (es : List Effect) (next : MachineBoard) → s.log ≡ []
    → LoggedBy s m → machine_outcome pc c m ≡ Goes es d next → TakesAndWrites es
one_logged s pc c d (Completed x t) es next e h g =
    let same : t.log ≡ es = cc in
    let P : List Effect → Type 0 = λ l. t.log ≡ (l ++ takes h.words) ++ written_effects x.1 t.fram s.outnum in
    record {
      words = h.words;
      write = written_effects x.1 t.fram s.outnum;
      split = sym same ∙ subst P e h.log;
      one = one_written x.1 t.fram s.outnum;
    }
one_logged s pc c d (Faulted f a t) es next e h g = absurd cc

-- so does an instruction that sees this of the ring
one_seeing : (ring : Option Look) (s : MachineBoard) (i : Instr) (es : List Effect) (d : ℕ) (next : MachineBoard)
    → machine_executed_seeing ring s i ≡ Goes es d next → TakesAndWrites es
one_seeing ring s i es d next e =
    let t = machine_opened_seeing ring s in
    one_logged t (s.registers 0) (cycles_of i) d (effect machine_bus i s.registers t) es next refl (effect_logged i s.registers t) e

-- and one of code, behind its look
one_behind : (looks : List Look) (o : MachineOutcome) (es : List Effect) (d : ℕ) (next : MachineBoard)
    → ((fs : List Effect) (c : ℕ) (t : MachineBoard) → o ≡ Goes fs c t → TakesAndWrites fs) → step_behind (look_effects looks) o ≡ Goes es d next → OneWrite es
one_behind looks (Goes fs c t) es d next one e =
    let k = one fs c t refl in
    let same : look_effects looks ++ fs ≡ es = cc e in
    record { looks = looks; words = k.words; write = k.write; split = sym same ∙ ap (λ l. look_effects looks ++ l) k.split; one = k.one }
one_behind looks (Stops fs price x) es d next one e = absurd (cc e)

one_by_look : (c : Bool) (s : MachineBoard) (i : Instr) (es : List Effect) (d : ℕ) (next : MachineBoard)
    → (if c then executed_looking s.inputs.looks s i else machine_executed s i) ≡ Goes es d next → OneWrite es
one_by_look true s i es d next e = one_behind s.inputs.looks _ es d next (one_seeing _ _ i) e
one_by_look false s i es d next e =
    let k = one_seeing None s i es d next e in record { looks = []; words = k.words; write = k.write; split = k.split; one = k.one }

heard_one : (c : Bool) (w : ℕ) (r : Receiver) (ws : List ℕ) → TakesNextBehind ws r
    → TakesNextBehind (if c then ws ++ w ∷ [] else ws) (if c then record r { accepted = r.accepted + 1 } else record r { repeats = r.repeats + 1 })
heard_one true w r ws e = omega (arith, length-append ws (w ∷ []))
heard_one false w r ws e = e

-- the receiver takes next what is behind the words that effects make it accept
heard_count : (es : List Effect) (r : Receiver) (ws : List ℕ) → TakesNextBehind ws r → TakesNextBehind (accepted_after es ws) (heard es r)
heard_count [] r ws e = e
heard_count (Store a w ∷ es) r ws e = heard_count es r ws e
heard_count (Take w ∷ es) r ws e = heard_count es r ws e
heard_count (Outside (Offered n w) ∷ es) r ws e =
    let test : (n == (length ws % 0x10000)) ≡ is_accepted n r = ap (λ c. n == c) e in
    heard_count es (offered_to n r) (received n w ws)
    (ap (λ c. length (if c then ws ++ w ∷ [] else ws) % 0x10000) test ∙ heard_one (is_accepted n r) w r ws e)
heard_count (Outside (Looked seen) ∷ es) r ws e = heard_count es r ws e

-- behind a look as many are accepted, and readings taken
look_accepts : (looks : List Look) (es : List Effect) (ws : List ℕ) → accepted_after (look_effects looks ++ es) ws ≡ accepted_after es ws
look_accepts [] es ws = refl
look_accepts (look ∷ more) es ws = refl

look_takes_none : (looks : List Look) (es : List Effect) → readings_taken (look_effects looks ++ es) ≡ readings_taken es
look_takes_none [] es = refl
look_takes_none (look ∷ more) es = refl

-- no look is one at words
pub nothing_seen : SeeWords []
nothing_seen = λ k d low. absurd (omega arith)

-- a list of one look and others, of words
pub front_sees : (c : Bool) (look : Look) (more : List Look) → ((a : ℕ) → look a < 0x10000) → SeeWords more → SeeWords ((if c then look ∷ [] else []) ++ more)
front_sees true look more w see = All-cons (λ l. (a : ℕ) → l a < 0x10000) look more w see
front_sees false look more w see = see

at_most : (t n k : ℕ) → t ≤ n → n ≡ k → t ≤ k
at_most t n k h e = omega arith

-- whose step an instruction is, where it stands in front of the handler
pub step_is_programs : (i : Instr) (b : BoardValue) → registers_of b.cpu 0 < handler_place → is_handlers_step (kind_of (next_step.Instruction i)) b ≡ false
step_is_programs i b l = kind_is i b ∙ below (registers_of b.cpu 0) l
  where
    below : (n : ℕ) → n < handler_place → nat_le handler_place n ≡ false
    below n l = grind (arith, nat_tests)

-- what an instruction tells that is made, and is the program's
pub told_alike : (b : BoardValue) → IsWhole b → (i : Instr) (done : Stepped) → IsNextInstruction b i → (executed b i).answer ≡ Ok done
    → is_handlers (moment_of b (next_step.Instruction i) done) ≡ false
    → outside_effects (moment_of b (next_step.Instruction i) done) ≡ look_effects (looks_at b i) ++ effects_of b (executed b i)
told_alike b whole i done current answer programs =
    let m = moment_of b (next_step.Instruction i) done in
    ap (λ (c : Bool). if c then [] else look_effects (seen_at_pc b) ++ action_effects m.action b m.after) programs
    ∙ ap₂ (λ l es. look_effects l ++ es) (seen_by_words b i whole current) (told_effects b i done answer)

-- what an instruction of the program does that is made, as the machine does
module _ (b : BoardValue) (whole : IsWhole b) (i : Instr) (done : Stepped) (current : IsNextInstruction b i) (answer : (executed b i).answer ≡ Ok done)
    (own : IsPrograms b i) where
  -- the board at the boundary behind it
  abbrev pub after : BoardValue
  after = at_boundary (executed b i).board

  abbrev pub moment : Moment
  moment = moment_of b (next_step.Instruction i) done

  -- the moment is the program's
  pub programs : is_handlers moment ≡ false
  programs = step_is_programs i b own.below

  -- the effects that it tells
  abbrev pub told : List Effect
  told = outside_effects moment

  pub looks_told : outside_looks moment ≡ seen_at_pc b
  looks_told = ap (λ (c : Bool). if c then [] else seen_at_pc b) programs

  pub told_same : told ≡ look_effects (looks_at b i) ++ effects_of b (executed b i)
  told_same = told_alike b whole i done current answer programs

  -- it is a step of the machine that sees what the board holds
  step : code_executed (machine_with (looks_at b i) b) i ≡ Goes told done.cycles (machine_of after)
  step =
      own.step
      ∙ ap (λ y. outcome_of_answer (look_effects (looks_at b i) ++ effects_of b (executed b i)) (cycles_of i) y (machine_of after)) answer
      ∙ ap (λ es. Goes es done.cycles (machine_of after)) (sym told_same)

  is_step : IsStep b (executed b i)
  is_step = (execution board_bus i (registers_of b.cpu) (opened b), Executed i current, refl)

  -- the board is whole behind it
  pub whole_after : IsWhole after
  whole_after = boundary_whole (executed b i).board (step_leaves_it_whole b (executed b i) whole is_step)

  -- the board holds words behind it
  pub words_after : IsOfWords b → IsOfWords after
  words_after w = boundary_words (executed b i).board (words_stay_words b (executed b i) whole w is_step)

  -- FRAM changes as what is told says
  pub fram_changed : (outside_of after).fram ≡ fram_after told (outside_of b).fram
  fram_changed = own.fram ∙ ap (λ es. fram_after es (outside_of b).fram) (sym told_same)

  -- an instruction writes once
  pub one_write : OneWrite told
  one_write = one_by_look (looks_there i) (machine_with (looks_at b i) b) i told done.cycles (machine_of after) step

  -- the word that is accepted
  pub words_accepted : (ws : List ℕ) → TakesNextBehind ws b.receiver → accepted_after told ws ≡ ws ++ word_list done.accepted
  words_accepted ws len =
      ap (λ es. accepted_after es ws) (ap (λ (c : Bool). if c then [] else look_effects (seen_at_pc b) ++ action_effects moment.action b after) programs)
      ∙ look_accepts (seen_at_pc b) _ ws ∙ step_accepts_by_sends b (next_step.Instruction i) done ws len answer

  -- the accepted words are counted
  pub words_counted : (ws : List ℕ) → TakesNextBehind ws b.receiver → TakesNextBehind (accepted_after told ws) after.receiver
  words_counted ws len =
      let made = step_makes_its_effects b (executed b i) whole.board is_step in
      ap (λ es. length (accepted_after es ws) % 0x10000) told_same
      ∙ ap (λ l. length l % 0x10000) (look_accepts (looks_at b i) (effects_of b (executed b i)) ws)
      ∙ heard_count (effects_of b (executed b i)) b.receiver ws len
      ∙ ap next_number (sym made.receiver)

  -- the readings are those of the board
  pub readings_stay : after.readings ≡ b.readings
  readings_stay = (step_makes_its_effects b (executed b i) whole.board is_step).readings

  -- the readings taken are counted
  pub readings_counted : (k : History) → k.taken ≡ b.taken → k.taken + length (readings_taken told) ≡ after.taken
  readings_counted k e =
      let made = step_makes_its_effects b (executed b i) whole.board is_step in
      let room = at_most after.taken (length after.readings) (length b.readings) whole_after.board.taken (ap length made.readings) in
      let any : Marks = record { gate = 0; answer = None } in
      let event = events_of_instructions any b (executed b i) k e made.from room in
      let count = observed_taken any (effects_of b (executed b i)) k in
      ap (λ es. k.taken + length (readings_taken es)) told_same
      ∙ ap (λ l. k.taken + length l) (look_takes_none (looks_at b i) (effects_of b (executed b i))) ∙ sym count ∙ event.taken

-- ---- a step of the program or of the handler, as it is to the program

-- a step that is made
abbrev pub stepped : BoardValue → StepKind → Stepped → Option ℕ → BoardValue → Moment
stepped b kind done offered after = record { action = Execute kind done offered; before = b; after = after }

-- a moment that is a step, with what it tells
pub record Steps (b : BoardValue) (m : Moment) : Type 0 where
  pub kind : StepKind
  pub done : Stepped
  pub offered : Option ℕ
  pub after : BoardValue
  pub is : m ≡ stepped b kind done offered after
  pub whole : IsWhole m.after
  pub words : IsOfWords m.after
  pub fram : (outside_of m.after).fram ≡ fram_after (outside_effects m) (outside_of b).fram
  pub one : OneWrite (outside_effects m)
  pub accepted : (ws : List ℕ) → TakesNextBehind ws b.receiver → accepted_after (outside_effects m) ws ≡ ws ++ accepted_by m.action
  pub counted : (ws : List ℕ) → TakesNextBehind ws b.receiver → TakesNextBehind (accepted_after (outside_effects m) ws) m.after.receiver
  pub readings : m.after.readings ≡ b.readings
  pub taken : (k : History) → k.taken ≡ b.taken → k.taken + length (readings_taken (outside_effects m)) ≡ m.after.taken

-- a moment that is a power-up, or a step
pub data IsPowerOrStep (b : BoardValue) (m : Moment) : Type 0 where
  IsPower : (p : PowerState) → IsPowerState p → m ≡ power_up_of b p → IsPowerOrStep b m
  IsStepped : Steps b m → IsPowerOrStep b m

instruction_steps : (b : BoardValue) → IsWhole b → IsOfWords b → (i : Instr) (done : Stepped) → IsNextInstruction b i → (executed b i).answer ≡ Ok done
    → IsPrograms b i → Steps b (moment_of b (next_step.Instruction i) done)
instruction_steps b whole words i done c a own = record {
  kind = kind_of (next_step.Instruction i);
  done = done;
  offered = (executed b i).offered;
  after = at_boundary (executed b i).board;
  is = refl;
  whole = whole_after b whole i done c a own;
  words = words_after b whole i done c a own words;
  fram = fram_changed b whole i done c a own;
  one = one_write b whole i done c a own;
  accepted = words_accepted b whole i done c a own;
  counted = words_counted b whole i done c a own;
  readings = readings_stay b whole i done c a own;
  taken = readings_counted b whole i done c a own;
}

-- a handler's moment is nothing to the program
pub served_effects : (m : Moment) → is_handlers m ≡ true → outside_effects m ≡ []
served_effects m e = ap (λ (c : Bool). if c then [] else look_effects (looks_by m.action m.before) ++ action_effects m.action m.before m.after) e

pub served_looks : (m : Moment) → is_handlers m ≡ true → outside_looks m ≡ []
served_looks m e = ap (λ (c : Bool). if c then [] else looks_by m.action m.before) e

-- so it tells nothing
served_steps : (b : BoardValue) (n : NextStep) (done : Stepped) → IsServed b (moment_of b n done) → Steps b (moment_of b n done)
served_steps b n done served =
    let m = moment_of b n done in
    let none = served_effects m served.handlers in
    record {
      kind = kind_of n;
      done = done;
      offered = (performed b n).offered;
      after = m.after;
      is = refl;
      whole = served.whole;
      words = served.words;
      fram = served.fram ∙ ap (λ es. fram_after es (outside_of b).fram) (sym none);
      one = subst OneWrite (sym none) (record { looks = []; words = []; write = []; split = refl; one = NoWrite refl });
      accepted = λ ws len. ap (λ es. accepted_after es ws) none ∙ sym (append-nil ws) ∙ ap (λ l. ws ++ l) (sym served.accepts_none);
      counted = λ ws len. ap (λ es. length (accepted_after es ws) % 0x10000) none ∙ len ∙ ap next_number (sym served.rest.receiver);
      readings = served.rest.readings;
      taken = λ k e. ap (λ es. k.taken + length (readings_taken es)) none ∙ e_taken k ∙ e ∙ sym served.rest.taken;
    }
  where
    e_taken : (k : History) → k.taken + 0 ≡ k.taken
    e_taken k = omega arith

pub moment_is : (b : BoardValue) (m : Moment) → IsWhole b → IsOfWords b → IsMomentFrom b m → IsPowerOrStep b m
moment_is b m whole words (PowersUp p ok e) = IsPower p ok e
moment_is b m whole words (Instructs i done c a own e) =
    IsStepped (subst (λ (y : Moment). Steps b y) (sym e) (instruction_steps b whole words i done c a own))
moment_is b m whole words (Serves n done next a served e) = IsStepped (subst (λ (y : Moment). Steps b y) (sym e) (served_steps b n done served))

-- what is observed of a step is by its effects
pub step_is_observed : (marks : Marks) (b : BoardValue) (m : Moment) (h : History) → Steps b m
    → behind_moment marks m h ≡ observe marks (outside_effects m) h
step_is_observed marks b m h s = ap (λ a. behind_action marks a (outside_effects m) h) (ap (λ (y : Moment). y.action) s.is)

-- a moment leaves a whole board of words
pub whole_behind : (b : BoardValue) (m : Moment) → IsWhole b → IsOfWords b → IsMomentFrom b m → IsWhole m.after × IsOfWords m.after
whole_behind b m whole words from = by_kind (moment_is b m whole words from)
  where
    by_kind : IsPowerOrStep b m → IsWhole m.after × IsOfWords m.after
    by_kind (IsPower p ok e) =
        subst (λ (y : Moment). IsWhole y.after × IsOfWords y.after) (sym e) (power_up_keeps_words b p whole words ok)
    by_kind (IsStepped s) = (s.whole, s.words)
