-- A run that is made step by step: a step is made, and there always is one.
use Rattle.std.proofs.Common.{◌≡◌, ◌<◌, ◌-◌, ℕ, arith, refl, sym, ◌∙◌, ap, subst, Bool, true, false, List, [], ◌∷◌, ◌++◌, append_assoc, append-nil}
use Rattle.std.proofs.Common.{Option, Some, None, ◌≤◌, ◌+◌, replicate, drop, get_or, length, if◌then◌else◌, ◌^◌}
use Rattle.std.proofs.Common.{Result, Ok, Err, IsErr}
use Rattle.std.specs.Io.KnownBytes.{Appends}
use Rattle.std.proofs.KnownBytes.{Appends-nil}
use Rattle.alp_io.specs.Sink.{AppendsProperPrefix}
use Rattle.alp_io.specs.declared.sink.Failed.{Failed}
use Rattle.msp_step.specs.declared.machine.Stop.{Stop}
use Rattle.fram_board.specs.declared.board.NextStep.{NextStep}
use Rattle.fram_board.specs.declared.board.Stepped.{Stepped}
use Rattle.fram_board.specs.Board.{BoardValue, PowerState, powered, performed, at_boundary}
use Rattle.fram_board.specs.Run.{Measure, price, Action, PowerUp, Execute, Moment, End, Charges, Stopped, RunOutcome, run_outcome, BoardCharge, ChargeRun}
use Rattle.fram_board.specs.Run.{Spent, NoInstruction, TooDear, Refused, Executed, power_up_of, moment_of}
use Rattle.fram_board.proofs.Interface.{charge_run}
use Rattle.board_run.specs.History.{History, moment_lines, noted, behind_power_up}
use Rattle.board_run.specs.Events.{PowersUp}
use Rattle.board_run.specs.Tally.{tallied, tally_behind, counted, words_of}
use Rattle.board_run.specs.Report.{lines_from, after_all}
use Rattle.board_run.specs.declared.spend.Turn.{Turn}
use Rattle.board_run.specs.declared.spend.Turn.TheVariants as turns
use Rattle.board_run.specs.declared.stepwise.Advance.{Advance}
use Rattle.board_run.specs.Parts.{Known, known_head, FewMore, IsMade, IsStepMade, IsTurn, Turned, TurnedPartly, Wrote}
use Rattle.board_run.specs.declared.stepwise.StepwiseRun.{StepwiseRun}
use Rattle.board_run.specs.Stepwise.{HasRoom, RunState, IsSpentCharge, behind_step, behind_power, StepsOn, Idle, Makes, Halts, Ends, Powers}
use Rattle.board_run.specs.Stepwise.{known_of, done_by, last_done, is_power_up, powers_up, Advances, AdvancesPartly, IsAdvance}
use Rattle.energy_trace.specs.declared.charge.Charge.{Charge}
use Rattle.board_run.specs.Charges.{charge_of, charges_of}
use Rattle.board_run.proofs.Charges.{repeated_split, repeated_end, all_split, all_end, no_charge, front_of_both}
use Rattle.board_run.proofs.Spends.{wrote_more, wrote_none, lines_append, in_lines}

-- ---- charges that are spent

-- a charge that is spent, or pays for nothing, leaves the board
spent_board : (m : Measure) (left : ℕ) (b : BoardValue) (r : RunOutcome) → ChargeRun m left b r → r.moments ≡ [] → r.ending ≡ Charges → r.board ≡ b
spent_board m left b r (Spent _ _ none) e f = refl
spent_board m left b r (NoInstruction _ _ stop pos none) e f = cc
spent_board m left b r (TooDear _ _ n pos next dear) e f = refl
spent_board m left b r (Refused _ _ n stop pos next paid a) e f = cc
spent_board m left b r (Executed _ _ n done rest pos next paid a more) e f = cc

pub spent_same : (m : Measure) (left : ℕ) (b after : BoardValue) → ChargeRun m left b (run_outcome [] Charges after) → after ≡ b
spent_same m left b after h = spent_board m left b (run_outcome [] Charges after) h refl refl

-- ---- the next charge

-- it is the last one again
pub comes_again : (again : ℕ) (c : BoardCharge) (cs : List BoardCharge) → 0 < again → replicate again c ++ cs ≡ c ∷ (replicate (again - 1) c ++ cs)
comes_again again c cs some = ap (λ ds. ds ++ cs) (repeated_split again c some)

-- or the first of those that haven't begun
pub comes_next : (again : ℕ) (c : BoardCharge) (cs : List Charge) (i : ℕ) → again ≤ 0 → i < length cs → 0 < (get_or cs i no_charge).times
    → replicate again c ++ charges_of (drop i cs)
    ≡ charge_of (get_or cs i no_charge) ∷ (replicate ((get_or cs i no_charge).times - 1) (charge_of (get_or cs i no_charge)) ++ charges_of (drop (i + 1) cs))
comes_next again c cs i none inside some =
    let next = get_or cs i no_charge in
    ap (λ ds. ds ++ charges_of (drop i cs)) (repeated_end again c none)
    ∙ all_split cs no_charge i inside
    ∙ comes_again next.times (charge_of next) (charges_of (drop (i + 1) cs)) some

-- or there is none
pub none_comes : (again : ℕ) (c : BoardCharge) (cs : List Charge) (i : ℕ) → again ≤ 0 → length cs ≤ i → replicate again c ++ charges_of (drop i cs) ≡ []
none_comes again c cs i none behind = ap (λ ds. ds ++ charges_of (drop i cs)) (repeated_end again c none) ∙ all_end cs i behind

-- a power-up leaves room for as many steps
pub room_powered : (r now : StepwiseRun) (p : PowerState) (n : ℕ) → now.board.now ≡ powered r.board.now p
    → counted now.watch.now.tally ≡ tallied PowersUp (counted r.watch.now.tally) → HasRoom r n → HasRoom now n
room_powered r now p n board tally h =
    let words = ap words_of tally in
    record {
      accepted = subst (λ (b : BoardValue). b.receiver.accepted + n < 2 ^ 64) (sym board) h.accepted;
      repeats = subst (λ (b : BoardValue). b.receiver.repeats + n < 2 ^ 64) (sym board) h.repeats;
      words = omega (arith, h.words, words);
    }

-- a state with another board, which has ended so
abbrev so : BoardValue → List BoardCharge → Measure → ℕ → Bool → RunState
so b cs m left ended = record { board = b; charges = cs; measure = m; left = left; has_ended = ended }

pub state_so : {b c : BoardValue} {d e : Bool} (cs : List BoardCharge) (m : Measure) (left : ℕ) → b ≡ c → d ≡ e → so b cs m left d ≡ so c cs m left e
state_so {b} {c} {d} {e} cs m left p q = ap (λ x. so x cs m left d) p ∙ ap (λ x. so c cs m left x) q

-- how many turns may be taken in vain
abbrev pub tries_left : RunState → ℕ
tries_left s = length s.charges + (if s.has_ended then 0 else 1)

-- ---- moments that are power-ups

abbrev pub AreUps : List Moment → Type 0
AreUps [] = Unit {0}
AreUps (m ∷ ms) = (is_power_up m.action ≡ true) × AreUps ms

ups_append : (ms ns : List Moment) → AreUps ms → AreUps ns → AreUps (ms ++ ns)
ups_append [] ns h k = k
ups_append (m ∷ ms) ns h k = (h.0, ups_append ms ns h.1 k)

nothing_done : (a : Action) → is_power_up a ≡ true → done_by a ≡ None
nothing_done PowerUp e = refl
nothing_done (Execute kind done offered) e = cc

pub none_last : (ms : List Moment) → AreUps ms → last_done ms ≡ None
none_last [] h = refl
none_last (m ∷ []) h = nothing_done m.action h.0
none_last (m ∷ n ∷ ms) h = none_last (n ∷ ms) h.1

last_behind : (ms : List Moment) (m : Moment) → last_done (ms ++ m ∷ []) ≡ done_by m.action
last_behind [] m = refl
last_behind (x ∷ []) m = refl
last_behind (x ∷ y ∷ ms) m = last_behind (y ∷ ms) m

first_up : (ms : List Moment) (m : Moment) → is_power_up m.action ≡ false → powers_up (ms ++ m ∷ []) ≡ powers_up ms
first_up [] m e = e
first_up (x ∷ ms) m e = refl

ups_first : (ms : List Moment) (m : Moment) (flag : Bool) → is_power_up m.action ≡ true → flag ≡ powers_up ms → AreUps ms → powers_up (ms ++ m ∷ []) ≡ true
ups_first [] m flag e f h = e
ups_first (x ∷ ms) m flag e f h = h.0

-- ---- the power-ups of a step

-- from a state some power-ups led to another, with their flag
pub record PoweredUp (s : RunState) (h : Known) (old : Option (List ℕ)) (t : RunState) (now : Known) (new : Option (List ℕ)) (flag : Bool) : Type 0 where
  pub moments : List Moment
  pub on : (ms : List Moment) (u : RunState) → StepsOn t ms u → StepsOn s (moments ++ ms) u
  pub wrote : Wrote h moments old new now
  pub ups : AreUps moments
  pub flag_is : flag ≡ powers_up moments

pub powered_first : (s : RunState) (h : Known) (old : Option (List ℕ)) → PoweredUp s h old s h old false
powered_first s h old = record {
  moments = [];
  on = λ ms u k. k;
  wrote = record { written = Appends-nil old; history = refl; tally = refl };
  ups = tt;
  flag_is = refl;
}

-- what is known behind a power-up
pub record IsNotedUp (h now : Known) (b : BoardValue) : Type 0 where
  pub history : now.history ≡ behind_power_up h.history.map h.history b
  pub tally : now.tally ≡ tallied PowersUp h.tally

wrote_up : (h now : Known) (b : BoardValue) (c : BoardCharge) (old : Option (List ℕ)) → IsNotedUp h now (power_up_of b c.start).after
    → Wrote h (power_up_of b c.start ∷ []) old old now
unfolding moment_lines noted tally_behind
wrote_up h now b c old noted = record { written = Appends-nil old; history = noted.history; tally = noted.tally }

-- one power-up more
pub powered_more : (s : RunState) (h : Known) (old new : Option (List ℕ)) (t : RunState) (mid now : Known) (flag : Bool) (c : BoardCharge)
    (cs : List BoardCharge) → PoweredUp s h old t mid new flag → t.has_ended ≡ false → IsSpentCharge t → t.charges ≡ c ∷ cs
    → IsNotedUp mid now (behind_power t c cs).board → PoweredUp s h old (behind_power t c cs) now new true
powered_more s h old new t mid now flag c cs p on spent more noted =
    let up = power_up_of t.board c.start in
    record {
      moments = p.moments ++ up ∷ [];
      on = λ ms u k. subst (λ ns. StepsOn s ns u) (sym (append_assoc p.moments (up ∷ []) ms)) (p.on (up ∷ ms) u (Powers t c cs ms u on spent more k));
      wrote = wrote_more h mid now p.moments (up ∷ []) old new new p.wrote (wrote_up mid now t.board c new noted);
      ups = ups_append p.moments (up ∷ []) p.ups (refl, tt);
      flag_is = sym (ups_first p.moments up flag refl p.flag_is p.ups);
    }

-- the same, where nothing more is written and known
pub powered_same : (s : RunState) (h : Known) (old mid new : Option (List ℕ)) (t : RunState) (between now : Known) (flag : Bool)
    → PoweredUp s h old t between mid flag → Appends mid new [] → now ≡ between → PoweredUp s h old t now new flag
powered_same s h old mid new t between now flag p none same = record {
  moments = p.moments;
  on = p.on;
  wrote = subst (λ ms. Wrote h ms old new now) (append-nil p.moments)
      (wrote_more h between now p.moments [] old mid new p.wrote (wrote_none between now mid new none same));
  ups = p.ups;
  flag_is = p.flag_is;
}

-- where the run has ended, a step is none
idle_only : (s : RunState) (ms : List Moment) (t : RunState) → s.has_ended ≡ true → StepsOn s ms t → (ms ≡ []) × (t ≡ s)
idle_only s ms t e (Idle _ f) = (refl, refl)
idle_only s ms t e (Makes _ n done f made) = let k = sym e ∙ f in cc
idle_only s ms t e (Halts _ stop after f run) = let k = sym e ∙ f in cc
idle_only s ms t e (Ends _ f spent none) = let k = sym e ∙ f in cc
idle_only s ms t e (Powers _ c cs ns u f spent more on) = let k = sym e ∙ f in cc

-- and then the run ended
pub powered_end : (s : RunState) (h : Known) (old new : Option (List ℕ)) (t u : RunState) (now : Known) (flag : Bool) → PoweredUp s h old t now new flag
    → StepsOn t [] u → u.has_ended ≡ true → PoweredUp s h old u now new flag
powered_end s h old new t u now flag p ends e = record {
  moments = p.moments;
  on = λ ms v k.
      let idle = idle_only u ms v e k in
      subst (λ ns. StepsOn s (p.moments ++ ns) v) (sym idle.0) (subst (λ w. StepsOn s (p.moments ++ []) w) (sym idle.1) (p.on [] u ends));
  wrote = p.wrote;
  ups = p.ups;
  flag_is = p.flag_is;
}

-- a step that ends there without one
pub record StepsNowhere (s : RunState) (h : Known) (old new : Option (List ℕ)) (t : RunState) (now : Known) (flag : Bool) : Type 0 where
  pub moments : List Moment
  pub steps : StepsOn s moments t
  pub wrote : Wrote h moments old new now
  pub done : None ≡ last_done moments
  pub powers : flag ≡ powers_up moments

pub ends_there : (s : RunState) (h : Known) (old new : Option (List ℕ)) (t u : RunState) (now : Known) (flag : Bool) → PoweredUp s h old t now new flag
    → StepsOn t [] u → StepsNowhere s h old new u now flag
ends_there s h old new t u now flag p k = record {
  moments = p.moments;
  steps = subst (λ ms. StepsOn s ms u) (append-nil p.moments) (p.on [] u k);
  wrote = p.wrote;
  done = sym (none_last p.moments p.ups);
  powers = p.flag_is;
}

-- ---- the step itself

made_moment : (m : Measure) (left : ℕ) (b : BoardValue) (moment : Moment) (rest : ℕ) (done : Stepped) (after : BoardValue)
    → IsStepMade m left b moment rest done after → (done_by moment.action ≡ Some done) × (is_power_up moment.action ≡ false)
made_moment m left b moment rest done after h =
    (ap (λ x. done_by x.action) h.is, ap (λ x. is_power_up x.action) h.is)

makes_it : (t : RunState) (moment : Moment) (rest : ℕ) (done : Stepped) (after : BoardValue) → t.has_ended ≡ false
    → IsStepMade t.measure t.left t.board moment rest done after → StepsOn t (moment ∷ []) (record t { board = after; left = rest })
makes_it t moment rest done after on h =
    let n = h.step in
    let made : IsMade t.measure t.left t.board (at_boundary (performed t.board n).board) n done = record {
      some = h.made.some;
      next = h.made.next;
      paid = h.made.paid;
      answer = h.made.answer;
      board = refl;
    } in
    subst (λ x. StepsOn t (x ∷ []) (record t { board = after; left = rest })) (sym h.is)
    (subst (λ k. StepsOn t (moment_of t.board n done ∷ []) (record t { board = after; left = k })) (sym h.rest_is)
    (subst (λ b. StepsOn t (moment_of t.board n done ∷ []) (record t { board = b; left = t.left - price t.measure n })) (sym h.made.board)
    (Makes t n done on made)))

-- a step with its power-ups
pub record StepsWith (s : RunState) (h : Known) (old new : Option (List ℕ)) (done : Stepped) (t : RunState) (now : Known) (flag : Bool) : Type 0 where
  pub moments : List Moment
  pub steps : StepsOn s moments t
  pub wrote : Wrote h moments old new now
  pub done_is : Some done ≡ last_done moments
  pub powers : flag ≡ powers_up moments

wrote_step : (h now : Known) (m : Measure) (left : ℕ) (b : BoardValue) (old new : Option (List ℕ)) (rest : ℕ) (done : Stepped) (after : BoardValue)
    → (t : Turned h m left b old new rest done after now) → Wrote h (t.moment ∷ []) old new now
wrote_step h now m left b old new rest done after t = record {
  written = subst (Appends old new) (sym (append-nil (moment_lines h.history t.moment))) t.written;
  history = t.history;
  tally = t.tally;
}

pub steps_with : (s : RunState) (h : Known) (old mid new : Option (List ℕ)) (t : RunState) (between now : Known) (flag : Bool) (rest : ℕ) (done : Stepped)
    (after : BoardValue) → PoweredUp s h old t between mid flag → t.has_ended ≡ false
    → Turned between t.measure t.left t.board mid new rest done after now
    → StepsWith s h old new done (record t { board = after; left = rest }) now flag
steps_with s h old mid new t between now flag rest done after p on turn =
    let moment = turn.moment in
    let is = made_moment t.measure t.left t.board moment rest done after turn.step in
    record {
      moments = p.moments ++ moment ∷ [];
      steps = p.on (moment ∷ []) _ (makes_it t moment rest done after on turn.step);
      wrote = wrote_more h between now p.moments (moment ∷ []) old mid new p.wrote
          (wrote_step between now t.measure t.left t.board mid new rest done after turn);
      done_is = sym (last_behind p.moments moment ∙ is.0);
      powers = p.flag_is ∙ sym (first_up p.moments moment is.1);
    }

-- ---- what a turn comes to in a step

abbrev pub with_after : RunState → BoardValue → RunState
with_after t b = record t { board = b }

module _ (s : RunState) (h : Known) (old mid new : Option (List ℕ)) (t : RunState) (between now : Known) (flag : Bool) (turn : Turn) (after : BoardValue)
    (p : PoweredUp s h old t between mid flag) (on : t.has_ended ≡ false) where
  abbrev Comes : Turn → Type 0
  Comes x = IsTurn between t.measure t.left t.board mid new (Ok x) after now

  -- the charge is spent, and power comes up with the next one
  pub power_next : turn ≡ turns.Spent → Comes turn → (c : BoardCharge) (cs : List BoardCharge) (u : RunState) (last : Known) → t.charges ≡ c ∷ cs
      → u ≡ behind_power (with_after t after) c cs → IsNotedUp now last u.board → PoweredUp s h old u last new true
  power_next is comes c cs u last next at noted =
      let (spent, few, none, same) = subst Comes is comes in
      let stays = spent_same t.measure t.left t.board after spent in
      let at_t : u ≡ behind_power t c cs = at ∙ ap (λ b. behind_power (with_after t b) c cs) stays in
      let is_spent : IsSpentCharge t =
      subst (λ b. ChargeRun t.measure t.left t.board (run_outcome [] Charges b)) stays spent in
      subst (λ x. PoweredUp s h old x last new true) (sym at_t)
      (powered_more s h old new t now last flag c cs (powered_same s h old mid new t between now flag p none same) on is_spent next
      (subst (λ x. IsNotedUp now last x.board) at_t noted))

  -- or it was the last one
  pub power_ends : turn ≡ turns.Spent → Comes turn → (u : RunState) (last : Known) → t.charges ≡ [] → u ≡ record (with_after t after) { has_ended = true }
      → last ≡ now → PoweredUp s h old u last new flag
  power_ends is comes u last none_left at known =
      let (spent, few, none, same) = subst Comes is comes in
      let stays = spent_same t.measure t.left t.board after spent in
      let at_t : u ≡ record t { has_ended = true } = at ∙ ap (λ b. record (with_after t b) { has_ended = true }) stays in
      let is_spent : IsSpentCharge t =
      subst (λ b. ChargeRun t.measure t.left t.board (run_outcome [] Charges b)) stays spent in
      subst (λ k. PoweredUp s h old u k new flag) (sym known)
      (subst (λ x. PoweredUp s h old x now new flag) (sym at_t)
      (powered_end s h old new t (record t { has_ended = true }) now flag (powered_same s h old mid new t between now flag p none same)
      (Ends t on is_spent none_left) refl))

  -- the board stops
  pub board_halts : (stop : Stop) → turn ≡ turns.Stopped stop → Comes turn
      → PoweredUp s h old (record (with_after t after) { has_ended = true }) now new flag
  board_halts stop is comes =
      let (stopped, few, none, same) = subst Comes is comes in
      powered_end s h old new t (record (with_after t after) { has_ended = true }) now flag (powered_same s h old mid new t between now flag p none same)
      (Halts t stop after on stopped) refl

  -- a step is made
  pub step_made : (rest : ℕ) (done : Stepped) → turn ≡ turns.Left rest done → Comes turn
      → Advances s h old new (record { done = Some done; powers_up = flag }) (record (with_after t after) { left = rest }) now
  step_made rest done is comes =
      let step = steps_with s h old mid new t between now flag rest done after p on (subst Comes is comes) in
      record { moments = step.moments; steps = step.steps; wrote = step.wrote; done = step.done_is; powers = step.powers }

-- a step is made, and its lines aren't written whole
advance_partly : (s : RunState) (h : Known) (old mid new : Option (List ℕ)) (t : RunState) (between : Known) (flag : Bool) (after : BoardValue)
    → PoweredUp s h old t between mid flag → t.has_ended ≡ false → TurnedPartly between t.measure t.left t.board mid new after
    → AdvancesPartly s h old new
advance_partly s h old mid new t between flag after p on turn =
    let moment = turn.moment in
    record {
      moments = p.moments ++ moment ∷ [];
      behind = record (with_after t after) { left = turn.rest };
      steps = p.on (moment ∷ []) _ (makes_it t moment turn.rest turn.done after on turn.step);
      written = subst (AppendsProperPrefix old new) (sym (lines_append h.history p.moments (moment ∷ [])))
          (front_of_both old new (lines_from h.history p.moments) (moment_lines (after_all h.history p.moments) moment) []
          (in_lines h between p.moments moment old mid new p.wrote turn.written));
    }

pub step_partly : (s : RunState) (h : Known) (old mid new : Option (List ℕ)) (t : RunState) (between : Known) (flag : Bool) (after : BoardValue)
    (result : Result Advance Failed) (u : RunState) (now : Known) → IsErr result → PoweredUp s h old t between mid flag → t.has_ended ≡ false
    → TurnedPartly between t.measure t.left t.board mid new after → IsAdvance s h old new result u now
step_partly s h old mid new t between flag after (Ok x) u now e p on turn = cc
step_partly s h old mid new t between flag after (Err f) u now e p on turn = advance_partly s h old mid new t between flag after p on turn

-- nothing more is made
pub step_nowhere : (s : RunState) (h : Known) (old new : Option (List ℕ)) (t : RunState) (now : Known) (flag : Bool) → PoweredUp s h old t now new flag
    → t.has_ended ≡ true → Advances s h old new (record { done = None; powers_up = flag }) t now
step_nowhere s h old new t now flag p ended =
    let step = ends_there s h old new t t now flag p (Idle t ended) in
    record { moments = step.moments; steps = step.steps; wrote = step.wrote; done = step.done; powers = step.powers }

-- ---- fewer turns are left, and there is room

pub less_powered : (s u : RunState) (c : BoardCharge) (cs : List BoardCharge) → s.charges ≡ c ∷ cs → u ≡ behind_power s c cs → tries_left u < tries_left s
less_powered s u c cs next is =
    let one = ap length next in
    let behind : tries_left u ≡ length cs + (if s.has_ended then 0 else 1) = ap tries_left is in
    omega (arith, one, behind)

pub less_ended : (s u : RunState) → s.has_ended ≡ false → u ≡ record s { has_ended = true } → tries_left u < tries_left s
less_ended s u on is =
    let behind : tries_left u ≡ length s.charges + 0 = ap tries_left is in
    let before : tries_left s ≡ length s.charges + 1 = ap (λ b. length s.charges + (if b then 0 else 1)) on in
    omega (arith, behind, before)

pub room_turned : (r now : StepwiseRun) (n : ℕ) → FewMore r.board.now now.board.now 1
    → words_of (counted now.watch.now.tally) ≤ words_of (counted r.watch.now.tally) + 1 → HasRoom r (n + 1) → HasRoom now n
room_turned r now n few words h = record {
  accepted = omega (arith, few.accepted, h.accepted);
  repeats = omega (arith, few.repeats, h.repeats);
  words = omega (arith, words, h.words);
}

pub room_same : (r now : StepwiseRun) (n : ℕ) → FewMore r.board.now now.board.now 0 → known_of now ≡ known_of r → HasRoom r n → HasRoom now n
room_same r now n few known h =
    let words = ap (λ (k : Known). words_of k.tally) known in
    record {
      accepted = omega (arith, few.accepted, h.accepted);
      repeats = omega (arith, few.repeats, h.repeats);
      words = omega (arith, words, h.words);
    }

pub room_less : (r : StepwiseRun) (n : ℕ) → HasRoom r (n + 1) → HasRoom r n
room_less r n h = record {
  accepted = omega (arith, h.accepted);
  repeats = omega (arith, h.repeats);
  words = omega (arith, h.words);
}

-- what a turn leaves of a board
pub nothing_more : (h : Known) (m : Measure) (left : ℕ) (b after : BoardValue) (old new : Option (List ℕ)) (now : Known) (turn : Turn) → turn ≡ turns.Spent
    → IsTurn h m left b old new (Ok turn) after now → FewMore b after 0 × (now ≡ h)
nothing_more h m left b after old new now turn is comes =
    let t = subst (λ x. IsTurn h m left b old new (Ok x) after now) is comes in (t.1, t.3)

pub nothing_stopped : (h : Known) (m : Measure) (left : ℕ) (b after : BoardValue) (old new : Option (List ℕ)) (now : Known) (turn : Turn) (stop : Stop)
    → turn ≡ turns.Stopped stop → IsTurn h m left b old new (Ok turn) after now → FewMore b after 0 × (now ≡ h)
nothing_stopped h m left b after old new now turn stop is comes =
    let t = subst (λ x. IsTurn h m left b old new (Ok x) after now) is comes in (t.1, t.3)

pub one_more : (h : Known) (m : Measure) (left : ℕ) (b after : BoardValue) (old new : Option (List ℕ)) (now : Known) (turn : Turn) (rest : ℕ) (done : Stepped)
    → turn ≡ turns.Left rest done → IsTurn h m left b old new (Ok turn) after now → FewMore b after 1 × (words_of now.tally ≤ words_of h.tally + 1)
one_more h m left b after old new now turn rest done is comes =
    let t = subst (λ x. IsTurn h m left b old new (Ok x) after now) is comes in (t.first.few, t.words)

-- ---- there always is a step

abbrev HasStep : RunState → Type 0
HasStep s = (ms : List Moment) × (t : RunState) × StepsOn s ms t

-- one that begins with this part of its charge
step_in : (s : RunState) (r : RunOutcome) → s.has_ended ≡ false → ChargeRun s.measure s.left s.board r
    → ((c : BoardCharge) (cs : List BoardCharge) → s.charges ≡ c ∷ cs → HasStep (behind_power s c cs)) → (cs : List BoardCharge) → s.charges ≡ cs → HasStep s
step_in s r on (Spent _ _ none) next [] e = ([], _, Ends s on (Spent s.left s.board none) e)
step_in s r on (Spent _ _ none) next (c ∷ cs) e =
    let more = next c cs e in
    (_, _, Powers s c cs more.0 more.1 on (Spent s.left s.board none) e more.2)
step_in s r on (TooDear _ _ n pos there dear) next [] e = ([], _, Ends s on (TooDear s.left s.board n pos there dear) e)
step_in s r on (TooDear _ _ n pos there dear) next (c ∷ cs) e =
    let more = next c cs e in
    (_, _, Powers s c cs more.0 more.1 on (TooDear s.left s.board n pos there dear) e more.2)
step_in s r on (NoInstruction _ _ stop pos none) next cs e = ([], _, Halts s stop s.board on (NoInstruction s.left s.board stop pos none))
step_in s r on (Refused _ _ n stop pos there paid a) next cs e =
    ([], _, Halts s stop (performed s.board n).board on (Refused s.left s.board n stop pos there paid a))
step_in s r on (Executed _ _ n done rest pos there paid a more) next cs e =
    (_, _, Makes s n done on (record { some = pos; next = there; paid = paid; answer = a; board = refl }))

steps_under : (cs : List BoardCharge) (s : RunState) (ended : Bool) → s.has_ended ≡ ended → s.charges ≡ cs → HasStep s
steps_under cs s true is e = ([], s, Idle s is)
steps_under [] s false is e =
    let run = charge_run s.measure s.left s.board in
    step_in s run.0 is run.1 (λ c ds f. cc) [] e
steps_under (d ∷ ds) s false is e =
    let run = charge_run s.measure s.left s.board in
    step_in s run.0 is run.1 (λ c cs f. steps_under ds (behind_power s c cs) false is (tail_same e f)) (d ∷ ds) e
  where
    tail_same : {c : BoardCharge} {cs : List BoardCharge} → s.charges ≡ d ∷ ds → s.charges ≡ c ∷ cs → cs ≡ ds
    tail_same f g = let h = sym g ∙ f in cc

-- each state has a step
pub has_step : (s : RunState) → HasStep s
has_step s = steps_under s.charges s s.has_ended refl refl
