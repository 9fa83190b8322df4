-- The laws of runs that are cut anywhere.
use Rattle.std.proofs.Common.{◌≡◌, ℕ, suc, List, [], ◌∷◌, ◌++◌, refl, sym, ap, ◌==◌, ◌∙◌, subst, arith, true, false, All, append_assoc, append-nil}
use Rattle.machine_effects.specs.msp_step.declared.machine.Stop.{Stop}
use Rattle.machine_effects.specs.fram_board.Effects.{Effect}
use Rattle.machine_effects.specs.World.{World}
use Rattle.machine_effects.specs.Going.{Halted, going}
use Rattle.machine_effects.specs.Inputs.{Look, SeeWords}
use Rattle.machine_effects.specs.Machine.{MachineBoard}
use Rattle.crash_rules.specs.Model.{Model, ModelLaws, Marks, IsWord, IsBetween, bound}
use Rattle.crash_rules.specs.History.{Done, History, observe, behind_boot, first_history, decided_given}
use Rattle.crash_rules.specs.Runs.{Program, ProgramLaws, Charge, IsPoweredFrom, Charged}
use Rattle.crash_rules.specs.Laws.{Origin, Resting, Pending, Reaches, IsPending, IsSettled, Transits, Phase, UndecidedPhase, DecidedPhase, CommittingPhase}
use Rattle.crash_rules.specs.Laws.{StandsFor, IsLawful, Matches, Begins, HasRun, PowersUpBehind, AcceptedDecided, AcceptedWords, AreConsecutive, CrashTheorem}
use Rattle.crash_rules.specs.Laws.{StopsShort, NeverLost, SentOnce, PendingSends, SpansFollow, FollowFirst, PendingSpansFollow, ProgressLaw, StoresOnly}
use Rattle.crash_rules.specs.Laws.{RunsMayBegin, FromUndecided, FromCommitting, TaskCosts, IsFirstWithin, CoversTasks, TasksPay, InstructionsPay}
use Rattle.crash_rules.proofs.Lists.{nothing_first}
use Rattle.crash_rules.proofs.Observed.{accepted_more}
use Rattle.crash_rules.proofs.Cuts.{Setting, none_seen, words_from, booted}
use Rattle.crash_rules.proofs.Plays.{AtPoint, IsThere, IsCharge, plays_from, lawful_from, matches_more, charge_spans, SpansPast, NoDone, PastDone, charge_past}
use Rattle.crash_rules.proofs.Plays.{charge_stores, HaltsShort, halted_from, below_greatest}
use Rattle.crash_rules.proofs.Progress.{bounds_count, steps_cost, all_spent, spent_from}
use Rattle.crash_rules.proofs.Steps.{changed}

module _ {St : Type 0} (given : Setting St) (c : Program) (code : ProgramLaws given.model c) where
  open given use {model as m, readings, origin}

  abbrev IsAt : MachineBoard → History → Type 0
  IsAt p h = IsThere given c code p h

  -- a power-up behind a lawful history
  powered_there : (s p : MachineBoard) (h : History) → IsLawful m readings origin h → Matches readings s h → c.IsPoweredUp p → IsPoweredFrom s p
      → IsAt p (behind_boot h)
  powered_there s p h k mt up from = record {
    entry = up;
    matches = record { fram = from.fram ∙ mt.fram; readings_left = from.readings ∙ mt.readings_left };
    see = from.looks;
    point = booted given h k.stands;
  }

  -- charges keep what holds
  charged_on : (charges : List Charge) (s t : MachineBoard) (h k : History) → Matches readings s h → IsLawful m readings origin h
      → Charged c m.marks s h charges t k → IsLawful m readings origin k × Matches readings t k
  charged_on [] s t h k mt l run = (
    subst (IsLawful m readings origin) (sym run.1) l,
    subst (λ b. Matches readings b k) (sym run.0)
        (subst (Matches readings s) (sym run.1) mt),
  )
  charged_on (e ∷ es) s t h k mt l run =
      let p = e.powered in
      let q = run.2.0 in
      let there = powered_there s p h l mt run.0 run.1 in
      let made = (going c.step e.steps p).effects in
      charged_on es q t (observe m.marks made (behind_boot h)) k
      (matches_more given c code p q (behind_boot h) made there.matches (changed c.step code.changes e.steps p q run.2.1))
      (lawful_from given c code e.steps (behind_boot h) p there) run.2.2

  begun : (x : World) (s : MachineBoard) → Begins m readings origin x s
      → IsLawful m readings origin (first_history m.marks x) × Matches readings s (first_history m.marks x)
  begun x s b = (
    record { world = refl; stands = b.stands; follows = record { left = []; words = words_from given 0 [] (none_seen given); follows = nothing_first _ } },
    record { fram = b.fram; readings_left = b.readings_left },
  )

  ran : (t : MachineBoard) (h : History) → HasRun m c readings origin t h → IsLawful m readings origin h × Matches readings t h
  ran t h run =
      let first = begun run.world run.start run.begins in
      charged_on run.charges run.start t (first_history m.marks run.world) h first.1 first.0 run.leads

  -- a charge behind charges
  ready : (p : MachineBoard) (up : PowersUpBehind m c readings origin p) → IsAt p (behind_boot up.history)
  ready p up = let k = ran up.board up.history up.run in powered_there up.board p up.history k.0 k.1 up.powered up.from

  -- a machine that halts, behind charges
  halts_short : (p : MachineBoard) (up : PowersUpBehind m c readings origin p) (n price : ℕ) (e : Stop) → (going c.step n p).status ≡ Halted price e
      → HaltsShort given c code (observe m.marks (going c.step n p).effects (behind_boot up.history)) e
  halts_short p up n price e halted = halted_from given c code (suc n) n (behind_boot up.history) p price e (omega arith) (ready p up) halted

-- the bound for each transition covers all
bound_first : {St : Type 0} (m : Model St) (origin : Origin St) → IsFirstWithin m origin (bound m)
bound_first m (Resting s) = λ below. below_greatest m.task_cost m.tasks (m.task_number s) below
bound_first m (Pending to) = omega arith

abbrev bounds : {St : Type 0} → Model St → TaskCosts
bounds m = record { first = bound m; behind = λ x. bound m }

bounds_cover : {St : Type 0} (m : Model St) (origin : Origin St) → CoversTasks m origin (bounds m)
bounds_cover m origin = record {
  first = bound_first m origin;
  behind = λ s x rests below. below_greatest m.task_cost m.tasks (m.task_number s) below;
}

-- the setting of a run, where nothing is asked of what transitions cost
abbrev setting : {St : Type 0} (m : Model St) → ModelLaws m → (readings : List ℕ) → All IsWord readings → (origin : Origin St) → Setting St
setting m laws readings words origin = record {
  model = m;
  laws = laws;
  readings = readings;
  words = words;
  origin = origin;
  costs = bounds m;
  covers = bounds_cover m origin;
}

-- the crash theorem
pub crash_theorem : {St : Type 0} (m : Model St) (c : Program) → CrashTheorem m c
crash_theorem m c laws code readings origin t h run = ran (setting m laws readings run.begins.words origin) c code t h run

-- a machine stops for want of a reading alone, where the source is short too
pub stops_short : {St : Type 0} (m : Model St) (c : Program) → StopsShort m c
stops_short m c laws code readings origin p up n price e halted =
    let k = halts_short (setting m laws readings up.run.begins.words origin) c code p up n price e halted in
    (k.reading, (k.short.stands, k.short.undecided, k.short.short))

-- where a decide came and no done since, or the first commit is pending, GATE is 1
pub never_lost : {St : Type 0} (m : Model St) → NeverLost m
never_lost {St} m laws readings origin h l d = by_phase l.stands.state l.stands.phase
  where
    gate_is_set : h.world.fram m.marks.gate ≡ 1 → (h.world.fram m.marks.gate ≡ 1) × ((s : St) → m.Undecided s h.world → ⊥)
    gate_is_set one = (one, λ z u. let none = laws.undecided_gate z h.world u in omega (arith, one, none))

    by_phase : (s : St) → Phase m readings origin s h → (h.world.fram m.marks.gate ≡ 1) × ((s : St) → m.Undecided s h.world → ⊥)
    by_phase s (UndecidedPhase u k w) = absurd (cc (u, d))
    by_phase s (DecidedPhase next e t w) =
        gate_is_set (laws.committing_gate next h.world (laws.decided_committing s next h.world w))
    by_phase s (CommittingPhase e p n w) = gate_is_set (laws.committing_gate s h.world w)

-- the words accepted in a commit, behind a decide and at the start of a run
accepted_decided : {St : Type 0} (m : Model St) (readings : List ℕ) (h : History) (s next : St) (o : Origin St) (ds : List Done)
    → Transits m o ds (decided_given readings h) s next → IsBetween (m.emitted s) (m.emitted next) h.world.accepted → AcceptedDecided m readings o ds h s
accepted_decided m readings h s next (Resting a) ds t b = (next, t, b)
accepted_decided m readings h s next (Pending a) [] t b = absurd t
accepted_decided m readings h s next (Pending a) (d ∷ ds) t b = (next, t, b)

accepted_first : {St : Type 0} (m : Model St) (readings : List ℕ) (h : History) (s : St) (o : Origin St) (ds : List Done) → IsPending o ds
    → IsBetween [] (m.emitted s) h.world.accepted → AcceptedDecided m readings o ds h s
accepted_first m readings h s (Resting a) ds p b = absurd p
accepted_first m readings h s (Pending a) [] p b = b
accepted_first m readings h s (Pending a) (d ∷ ds) p b = absurd p

-- words are accepted only between a decide and its done, each once
pub sent_once : {St : Type 0} (m : Model St) → SentOnce m
sent_once {St} m laws readings origin h stands = by_phase stands.state stands.phase
  where
    by_phase : (s : St) → Phase m readings origin s h → AcceptedWords m readings origin h s h.decided
    by_phase s (UndecidedPhase u k w) = subst (AcceptedWords m readings origin h s) (sym u) (laws.undecided_words s h.world w)
    by_phase s (DecidedPhase next e t w) = subst (AcceptedWords m readings origin h s) (sym e)
        (accepted_decided m readings h s next origin h.completed t (laws.decided_words s next h.world w))
    by_phase s (CommittingPhase e p n w) = subst (AcceptedWords m readings origin h s) (sym e)
        (accepted_first m readings h s origin h.completed p (laws.committing_words s h.world w))

-- words that are accepted stay so
charged_more : (c : Program) (marks : Marks) (charges : List Charge) (s t : MachineBoard) (h k : History) → Charged c marks s h charges t k
    → (more : List ℕ) × (k.world.accepted ≡ h.world.accepted ++ more)
charged_more c marks [] s t h k run = ([], ap (λ z. z.world.accepted) run.1 ∙ sym (append-nil h.world.accepted))
charged_more c marks (e ∷ es) s t h k run =
    let made = (going c.step e.steps e.powered).effects in
    let one = accepted_more marks made (behind_boot h) in
    let rest = charged_more c marks es run.2.0 t (observe marks made (behind_boot h)) k run.2.2 in
    (one.0 ++ rest.0, rest.1 ∙ ap (λ l. l ++ rest.0) one.1 ∙ append_assoc h.world.accepted one.0 rest.0)

-- while the first commit is pending, words are accepted that its state has beyond those of the start
pub pending_sends : {St : Type 0} (m : Model St) (c : Program) → PendingSends m c
pending_sends {St} m c laws code readings to t h run none =
    let l = crash_theorem m c laws code readings (Pending to) t h run in
    by_phase l.0.stands.state (subst (λ ds. Reaches m readings (Pending to) ds l.0.stands.state) none l.0.stands.reached) l.0.stands.phase
  where
    x : World
    x = run.world

    grown : (more : List ℕ) × (h.world.accepted ≡ x.accepted ++ more)
    grown = charged_more c m.marks run.charges run.start t (first_history m.marks x) h run.leads

    between : IsBetween [] (m.emitted to) h.world.accepted → IsBetween x.accepted (m.emitted to) h.world.accepted
    between w =
        record {
          sent = grown.0;
          unsent = w.unsent;
          accepted_is = grown.1;
          to_is = w.to_is ∙ ap (λ l. l ++ w.unsent) (sym w.accepted_is ∙ grown.1) ∙ append_assoc x.accepted grown.0 w.unsent;
        }

    by_phase : (z : St) → z ≡ to → Phase m readings (Pending to) z h → IsBetween x.accepted (m.emitted to) h.world.accepted
    by_phase z e (UndecidedPhase u k w) = absurd (subst (IsSettled (Pending to)) none k)
    by_phase z e (DecidedPhase next u q w) =
        absurd (subst (λ ds. Transits m (Pending to) ds (decided_given readings h) z next) none q)
    by_phase z e (CommittingPhase u p n w) = between (laws.committing_words to h.world (subst (λ y. m.Committing y h.world) e w))

first_undecided : {St : Type 0} (m : Model St) → ModelLaws m → (readings : List ℕ) (s0 : St) (x : World)
    → StandsFor m readings (Resting s0) (first_history m.marks x) → m.Undecided s0 x → (first_history m.marks x).decided ≡ false
first_undecided {St} m laws readings s0 x st u = by_phase st.state st.phase
  where
    by_phase : (s : St) → Phase m readings (Resting s0) s (first_history m.marks x) → (first_history m.marks x).decided ≡ false
    by_phase s (UndecidedPhase d k w) = d
    by_phase s (DecidedPhase next e t w) =
        let one = laws.committing_gate next x (laws.decided_committing s next x w) in
        let none = laws.undecided_gate s0 x u in absurd (omega (arith, one, none))
    by_phase s (CommittingPhase e p n w) = absurd p

-- a run of one charge
module _ {St : Type 0} (given : Setting St) (c : Program) (code : ProgramLaws given.model c) (t : MachineBoard) (h : History)
    (run : HasRun given.model c given.readings given.origin t h) where
  open given use {model as m, readings, origin}

  abbrev first : History
  first = first_history m.marks run.world

  record IsOfCharge : Type 0 where
    effects : List Effect
    is : h ≡ observe m.marks effects (behind_boot first)
    looks : List Look
    see : SeeWords looks
    charge : IsCharge given c code (behind_boot first) looks effects
    point : AtPoint given c code (behind_boot first)

  of_charge : (e : Charge) → run.charges ≡ e ∷ [] → IsOfCharge
  of_charge e one =
      let led : Charged c m.marks run.start first (e ∷ []) t h = subst (λ es. Charged c m.marks run.start first es t h) one run.leads in
      let start = begun given c code run.world run.start run.begins in
      let p = e.powered in
      let there = powered_there given c code run.start p first start.0 start.1 led.0 led.1 in
      record {
        effects = (going c.step e.steps p).effects;
        is = led.2.2.1;
        looks = p.inputs.looks;
        see = there.see;
        charge = plays_from given c code (suc e.steps) e.steps (behind_boot first) p (omega arith) there;
        point = there.point;
      }

-- in one charge the spans follow one another
pub spans_follow : {St : Type 0} (m : Model St) (c : Program) → SpansFollow m c
spans_follow m c laws code readings s t h run u e one =
    let given = setting m laws readings run.begins.words (Resting s) in
    let k = of_charge given c code t h run e one in
    let first = first_history m.marks run.world in
    let d = first_undecided m laws readings s run.world run.begins.stands u in
    let sp = charge_spans given c code (behind_boot first) k.looks k.effects k.charge k.see k.point d in
    subst (λ h. AreConsecutive 0 h.completed h.since) (sym k.is)
    (subst (λ ds. AreConsecutive 0 ds (observe m.marks k.effects (behind_boot first)).since) (sym sp.completed) (sp.follow d))

-- so do those behind a pending commit
pub pending_spans_follow : {St : Type 0} (m : Model St) (c : Program) → PendingSpansFollow m c
pending_spans_follow {St} m c laws code readings to t h run e one =
    let given = setting m laws readings run.begins.words (Pending to) in
    let k = of_charge given c code t h run e one in
    let decided = first_decided run.begins.stands.state run.begins.stands.phase in
    let past = charge_past given c code (behind_boot first) k.looks k.effects k.charge k.see k.point decided in
    subst (λ h. FollowFirst h.completed h.since) (sym k.is) (follow _ past)
  where
    first : History
    first = first_history m.marks run.world

    first_decided : (z : St) → Phase m readings (Pending to) z first → first.decided ≡ true
    first_decided z (UndecidedPhase d k w) = absurd k
    first_decided z (DecidedPhase next d q w) = d
    first_decided z (CommittingPhase d p n w) = d

    follow : (k : History) → SpansPast (setting m laws readings run.begins.words (Pending to)) c code (behind_boot first) k → FollowFirst k.completed k.since
    follow k (NoDone a) = subst (λ ds. FollowFirst ds k.since) (sym a) tt
    follow k (PastDone d ds a f) = subst (λ l. FollowFirst l k.since) (sym a) f

-- a charge that is spent is less than what its transitions cost, and the one that was to come
pub tasks_pay : {St : Type 0} (m : Model St) (c : Program) → TasksPay m c
tasks_pay m c laws code readings origin p up costs covers amount spent =
    let given = record (setting m laws readings up.run.begins.words origin) { costs = costs; covers = covers } in
    spent_from given c code (suc spent.steps) amount (behind_boot up.history) p (ready given c code p up) spent (omega arith)

-- so is one of so many instructions
pub instructions_pay : {St : Type 0} (m : Model St) (c : Program) → InstructionsPay m c
instructions_pay m c laws code readings origin p up costs covers n t at =
    let on = tasks_pay m c laws code readings origin p up costs covers (going c.step n p).cycles
    (record { steps = n; end = t; spends = all_spent c.step code.takes_cycles n p t at }) in
    let cycles = steps_cost c.step code.takes_cycles n p t at in
    let less = on.less in
    record { dones = on.dones; completed = on.completed; less = omega (arith, cycles, less) }

-- a charge of at least n bounds that is spent has at least n dones: each transition costs no more than the bound
pub progress_law : {St : Type 0} (m : Model St) (c : Program) → ProgressLaw m c
progress_law m c laws code readings origin p up n amount most spent =
    bounds_count (bound m) (m.delay p.inputs) amount n up.history.completed _
    (tasks_pay m c laws code readings origin p up (bounds m) (bounds_cover m origin) amount spent) most

-- a fact of each store that a run makes
pub stores_only : {St : Type 0} (m : Model St) (c : Program) (P : ℕ → ℕ → Type 0) → StoresOnly m c P
stores_only m c P laws code scripts readings origin p up n =
    let given = setting m laws readings up.run.begins.words origin in
    let r = ready given c code p up in
    charge_stores given c code P scripts (behind_boot up.history) p.inputs.looks _
    (plays_from given c code (suc n) n (behind_boot up.history) p (omega arith) r) r.see r.point

-- a run may begin with any readings
pub runs_may_begin : {St : Type 0} (m : Model St) → RunsMayBegin m
runs_may_begin m laws readings = record {
  resting = λ s x u. record {
    state = s;
    reached = refl;
    starts = FromUndecided tt u (λ z. absurd (cc z));
    phase = UndecidedPhase (ap (λ n. n == 1) (laws.undecided_gate s x u)) tt u;
  };
  pending = λ to x d. record {
    state = to;
    reached = refl;
    starts = FromCommitting tt d;
    phase = CommittingPhase (ap (λ n. n == 1) (laws.committing_gate to x d)) tt (refl, refl, refl) d;
  };
}
