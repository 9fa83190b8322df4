-- From whole scripts to any number of steps, and to any charges.
use Rattle.std.proofs.Common.{◌≡◌, ℕ, zero, suc, ◌+◌, ◌-◌, ◌<◌, ◌≤◌, List, [], ◌∷◌, ◌++◌, length, drop, refl, sym, ap, ap₂, ◌∙◌, subst, ⊎_elim, arith, Bool}
use Rattle.std.proofs.Common.{true, false, cond, nat_lt, append_assoc, ltb-true, ltb-false}
use Rattle.std.proofs.lemmas.Bool.{cases_lt}
use Rattle.std.proofs.lemmas.List.{drop-drop}
use Rattle.machine_effects.specs.msp_step.declared.machine.Stop.{Stop}
use Rattle.machine_effects.specs.msp_step.declared.machine.Stop.TheVariants as stop
use Rattle.machine_effects.specs.fram_board.Effects.{Effect, Store}
use Rattle.machine_effects.specs.World.{World, world_after_one, world_after, fram_after, readings_taken, IsPrefix, EachStore}
use Rattle.machine_effects.specs.Going.{At, Halted, stretch, after_effects, going, Leads, Stalls}
use Rattle.machine_effects.specs.Inputs.{Look, SeeWords}
use Rattle.machine_effects.specs.Machine.{MachineBoard}
use Rattle.machine_effects.proofs.Interface.{world_after-append, each_store-append, left_by_taking, left_are_words}
use Rattle.crash_rules.specs.Model.{AttemptContract, Comes, Lacks, ProgramEffects, program_effects, bound, greatest}
use Rattle.crash_rules.specs.Model.{Inputs, InputsAreWords, inputs_behind, with_commit, attempt_from}
use Rattle.crash_rules.specs.History.{History, Done, observe, inputs_from}
use Rattle.crash_rules.specs.Runs.{Program, AtEntry, Makes, ProgramLaws}
use Rattle.crash_rules.specs.Laws.{Origin, Resting, Pending, SourceRun, Reaches, IsPending, IsSettled, IsLawful, Matches, AreConsecutive, ScriptsStore}
use Rattle.crash_rules.specs.Laws.{next_cost, IsTaskWithin, IsFirstWithin}
use Rattle.crash_rules.proofs.Lists.{world_fram, each_prefix}
use Rattle.crash_rules.proofs.Observed.{observe-append, observed_taken, observed_world}
use Rattle.crash_rules.proofs.Cuts.{Setting, TakesFirst, ChargeEffects, partial, complete, Point, Next, Grows, Stayed, Finished, Spans, EndsShort}
use Rattle.crash_rules.proofs.Cuts.{done_of, point_part}
use Rattle.crash_rules.proofs.Cuts.{CommitOf, OfTask, OfStart, AtCommit, point_grows, point_whole, point_some, point_short, phase_of}
use Rattle.crash_rules.proofs.Cuts.{script_at, script_u, script_d, words_left, short_effects, owed_from}
use Rattle.crash_rules.proofs.Steps.{halts, fewer, leads_end, stalls_end, no_steps, Changed, changed, taken_by}

-- a task's cost is within the greatest
pub below_greatest : (cost : ℕ → ℕ) (n k : ℕ) → k < n → cost k ≤ greatest cost n
below_greatest cost zero k h = absurd (omega (arith, h))
below_greatest cost (suc n) k h =
    let here : cost n ≤ greatest cost (suc n) = last_one (nat_lt (greatest cost n) (cost n)) refl in
    let there : greatest cost n ≤ greatest cost (suc n) = first_ones (nat_lt (greatest cost n) (cost n)) refl in
    ⊎_elim {C = cost k ≤ greatest cost (suc n)} (λ l. let r = below_greatest cost n k l in omega (arith, r, there))
    (λ l. let e : k ≡ n = omega (arith, l, h) in subst (λ i. cost i ≤ greatest cost (suc n)) (sym e) here) (cases_lt k n)
  where
    last_one : (b : Bool) → nat_lt (greatest cost n) (cost n) ≡ b → cost n ≤ cond b (cost n) (greatest cost n)
    last_one true e = omega arith
    last_one false e = let l = ltb-false (greatest cost n) (cost n) e in omega (arith, l)

    first_ones : (b : Bool) → nat_lt (greatest cost n) (cost n) ≡ b → greatest cost n ≤ cond b (cost n) (greatest cost n)
    first_ones true e = let l = ltb-true (greatest cost n) (cost n) e in omega (arith, l)
    first_ones false e = omega arith

-- what is made within so many cycles is made within more
widen : (c : Program) (delay : Inputs → ℕ) (most more : ℕ) (p : ProgramEffects) (b : MachineBoard) → most ≤ more → Makes c delay most p b
    → Makes c delay more p b
widen c delay most more p b le k =
    record {
      steps = k.steps;
      cycles = k.cycles;
      ends = λ e. let r = k.ends e in let l = r.within in record { end = r.end; within = omega (arith, l, le); leads = r.leads; at_start = r.at_start };
      lacks = λ e. let r = k.lacks e in let l = r.within in record { price = r.price; within = omega (arith, l, le); stalls = r.stalls };
    }

-- by the value of a Bool
pub by_value : {P : Type 0} (b : Bool) → (b ≡ true → P) → (b ≡ false → P) → P
by_value true t f = t refl
by_value false t f = f refl

module _ {St : Type 0} (given : Setting St) (c : Program) (code : ProgramLaws given.model c) where
  open given use {model as m, laws, readings, origin, costs, covers}

  abbrev pub AtPoint : History → Type 0
  AtPoint h = Point given h

  abbrev pub script_there : History → List Look → ProgramEffects
  script_there h looks = script_at given h looks

  abbrev pub IsCharge : History → List Look → List Effect → Type 0
  IsCharge h looks es = ChargeEffects given h looks es

  -- behind the whole script there
  abbrev pub behind_script : History → List Look → History
  behind_script h looks = observe m.marks (script_there h looks).effects h

  -- with the looks that a machine takes
  abbrev pub script_on : History → MachineBoard → ProgramEffects
  script_on h b = script_there h b.inputs.looks

  abbrev pub behind_script_on : History → MachineBoard → History
  behind_script_on h b = behind_script h b.inputs.looks

  -- a machine at an entry that holds what a history says
  pub record IsThere (b : MachineBoard) (h : History) : Type 0 where
    pub entry : AtEntry c h.booted b
    pub matches : Matches readings b h
    pub see : SeeWords b.inputs.looks
    pub point : AtPoint h

  -- what the transition that is due costs at most
  abbrev pub due : History → ℕ
  due h = next_cost costs.behind costs.first h.completed

  -- behind a source's run from a state on
  source_within : (s t : St) (ds : List Done) (first : ℕ) → SourceRun m readings s ds t → IsTaskWithin m s first
      → IsTaskWithin m t (next_cost costs.behind first ds)
  source_within s t [] first run h = subst (λ u. IsTaskWithin m u first) (sym run) h
  source_within s t (d ∷ ds) first run h = source_within run.0 t ds (costs.behind d.world) run.3 (covers.behind run.0 d.world run.2)

  -- where nothing is pending, it is that of the state's task
  task_within : (o : Origin St) (ds : List Done) (s : St) → IsFirstWithin m o costs.first → Reaches m readings o ds s → IsSettled o ds
      → IsTaskWithin m s (next_cost costs.behind costs.first ds)
  task_within (Resting a) ds s first r k = source_within a s ds costs.first r first
  task_within (Pending to) [] s first r k = absurd k
  task_within (Pending to) (d ∷ ds) s first r k = source_within to s ds (costs.behind d.world) r.2 (covers.behind to d.world r.1)

  -- else it is the bound
  pending_within : (o : Origin St) (ds : List Done) → IsFirstWithin m o costs.first → IsPending o ds → bound m ≤ next_cost costs.behind costs.first ds
  pending_within (Resting a) ds first p = absurd p
  pending_within (Pending to) [] first p = first
  pending_within (Pending to) (d ∷ ds) first p = absurd p

  abbrev inputs_there : History → List Look → Inputs
  inputs_there h looks = inputs_from readings h.taken looks

  same_inputs : (i : Inputs) (rs : List ℕ) → i.readings ≡ rs → i ≡ record { readings = rs; looks = i.looks }
  same_inputs i rs e = λ n. record { readings = e n; looks = i.looks }

  -- an attempt from there on, behind a boot or a done, is made within the task's cost
  makes_attempt : (booted : Bool) (s : St) (x : World) (b : MachineBoard) → AtEntry c booted b → b.fram ≡ x.fram → InputsAreWords b.inputs
      → m.Undecided s x → (booted ≡ false → m.Settled s x)
      → Makes c m.delay (m.task_cost (m.task_number s)) (with_commit m b.fram b.inputs (attempt_from m booted b.fram b.inputs)) b
  makes_attempt true s x b en f ws u k = code.makes_boot s x b en f ws u
  makes_attempt false s x b en f ws u k = code.makes_attempt s x b en f ws (k refl)

  -- so is a commit that is due there, or within the bound
  makes_commit : (booted : Bool) (h : History) (d : AtCommit given h) (b : MachineBoard) → AtEntry c booted b → b.fram ≡ h.world.fram
      → (booted ≡ false → ⊥) → Makes c m.delay (due h) (program_effects (m.commit b.fram b.inputs) true) b
  makes_commit false h d b en f k = absurd (k refl)
  makes_commit true h d b en f k = by_whose d.whose
    where
      commit_there : ProgramEffects
      commit_there = program_effects (m.commit b.fram b.inputs) true

      by_whose : CommitOf given h → Makes c m.delay (due h) commit_there b
      by_whose (OfTask s next r settled u) =
          widen c m.delay (m.task_cost (m.task_number s)) (due h) commit_there b
          (task_within origin h.completed s covers.first r settled (laws.decided_task s next h.world u)) (code.makes_decided s next h.world b en f u)
      by_whose (OfStart pending) =
          widen c m.delay (bound m) (due h) commit_there b (pending_within origin h.completed covers.first pending)
          (code.makes_commit d.to h.world b en f d.holds)

  -- at an entry the script is made, within what is due there
  pub makes_script : (h : History) (b : MachineBoard) → IsThere b h → Makes c m.delay (due h) (script_on h b) b
  makes_script h b t =
      let f : b.fram ≡ h.world.fram = t.matches.fram in
      let looks = b.inputs.looks in
      let i : b.inputs ≡ inputs_there h looks = same_inputs b.inputs _ t.matches.readings_left in
      ⊎_elim
      (λ u.
      let ws : InputsAreWords b.inputs = subst InputsAreWords (sym i) (words_left given h looks t.see) in
      let mk = makes_attempt h.booted u.state h.world b t.entry f ws u.holds u.ready in
      let same : with_commit m b.fram b.inputs (attempt_from m h.booted b.fram b.inputs) ≡ script_on h b =
      ap₂ (λ g j. with_commit m g j (attempt_from m h.booted g j)) f i ∙ sym (script_u given h looks u) in
      subst (λ q. Makes c m.delay (due h) q b) same
      (widen c m.delay _ _ _ b
      (task_within origin h.completed u.state covers.first u.reached u.settled (laws.undecided_task u.state h.world u.holds)) mk))
      (λ d.
      let same : program_effects (m.commit b.fram b.inputs) true ≡ script_on h b =
      ap₂ (λ g j. program_effects (m.commit g j) true) f i ∙ sym (script_d given h looks d) in
      subst (λ q. Makes c m.delay (due h) q b) same (makes_commit h.booted h d b t.entry f d.booted))
      (phase_of given h t.point)

  -- a board behind effects holds what the history behind them says
  pub matches_more : (b t : MachineBoard) (h : History) (es : List Effect) → Matches readings b h → Changed b es t
      → Matches readings t (observe m.marks es h)
  matches_more b t h es k ch =
      record {
        fram = ch.fram ∙ ap (fram_after es) k.fram ∙ sym (world_fram es h.world) ∙ ap (λ x. x.fram) (sym (observed_world m.marks es h));
        readings_left =
            ap (λ i. i.readings) (sym (left_by_taking es b.inputs t.inputs ch.inputs))
            ∙ ap (drop (length (readings_taken es))) k.readings_left
            ∙ drop-drop (length (readings_taken es)) h.taken readings
            ∙ ap (λ n. drop n readings) (sym (observed_taken m.marks es h));
      }

  -- the end of a whole script: an entry again, and a point
  pub record Round (h : History) (b : MachineBoard) : Type 0 where
    pub steps : ℕ
    pub cycles : ℕ
    pub board : MachineBoard
    pub within : cycles + m.delay board.inputs ≤ due h + m.delay b.inputs
    pub leads : Leads c.step steps (script_on h b).effects cycles b board
    pub whole : (script_on h b).ends ≡ true
    pub next : Next given h (behind_script_on h b)
    pub there : IsThere board (behind_script_on h b)
    pub some : 0 < steps

  pub round : (h : History) (b : MachineBoard) → IsThere b h → (mk : Makes c m.delay (due h) (script_on h b) b) → (script_on h b).ends ≡ true
      → Round h b
  round h b k mk e =
      let r = mk.ends e in
      let t = r.end in
      let looks = b.inputs.looks in
      let es = (script_on h b).effects in
      let end = leads_end c.step mk.steps es mk.cycles b t r.leads in
      let n = point_whole given h looks k.see k.point e in
      let ch : Changed b es t = subst (λ l. Changed b l t) (ap (λ q. q.effects) end) (changed c.step code.changes mk.steps b t (ap (λ q. q.status) end)) in
      let words : InputsAreWords b.inputs =
      subst InputsAreWords (sym (same_inputs b.inputs _ k.matches.readings_left)) (words_left given h looks k.see) in
      let none : mk.steps ≡ 0 → ⊥ = λ z. point_some given h looks k.see k.point e (no_steps c.step mk.steps es mk.cycles b t z r.leads) in
      record {
        steps = mk.steps;
        cycles = mk.cycles;
        board = t;
        within = r.within;
        leads = r.leads;
        whole = e;
        next = n;
        there = record {
          entry = subst (λ v. AtEntry c v t) (sym n.behind_done) r.at_start;
          matches = matches_more b t h es k.matches ch;
          see = (left_are_words es b.inputs t.inputs ch.inputs words).looks;
          point = n.point;
        };
        some = ⊎_elim {C = 0 < mk.steps} (λ l. l) (λ l. absurd (none (omega (arith, l)))) (cases_lt 0 mk.steps);
      }

  -- the effects of any number of steps from an entry on
  part_of : (k n : ℕ) (b : MachineBoard) (es : List Effect) → (going c.step (k + n) b).effects ≡ es → IsPrefix (going c.step k b).effects es
  part_of k n b es e = subst (λ l. IsPrefix (going c.step k b).effects l) e (fewer c.step k n b).0

  -- they take some of the first looks
  takes_first : (k : ℕ) (b : MachineBoard) → TakesFirst given (going c.step k b).effects b.inputs.looks
  takes_first k b = let t = taken_by c.step code.changes k b in (t.0.looks, t.1.looks)

  stalled : (k n cyc price : ℕ) (e : Stop) (h : History) (b : MachineBoard) → Stalls c.step n (script_on h b).effects cyc b price e
      → IsCharge h b.inputs.looks (going c.step k b).effects
  stalled k n cyc price e h b st =
      let i : k + (n + 1) ≡ n + 1 + k = omega arith in
      partial (part_of k (n + 1) b (script_on h b).effects (ap (λ j. (going c.step j b).effects) i
      ∙ ap (λ r. r.effects) (stalls_end c.step n (script_on h b).effects cyc b price e st k))) (takes_first k b)

  -- past a whole script, what follows it
  round_plays : (k : ℕ) (h : History) (b : MachineBoard) (r : Round h b)
      → ((j : ℕ) → r.steps + j ≡ k → IsCharge (behind_script_on h b) r.board.inputs.looks (going c.step j r.board).effects)
      → IsCharge h b.inputs.looks (going c.step k b).effects
  round_plays k h b r next =
      let es = (script_on h b).effects in
      let end = leads_end c.step r.steps es r.cycles b r.board r.leads in
      ⊎_elim
      (λ lt.
      let i : k + (r.steps - k) ≡ r.steps = omega (arith, lt) in
      partial (part_of k (r.steps - k) b es (ap (λ j. (going c.step j b).effects) i ∙ ap (λ q. q.effects) end)) (takes_first k b))
      (λ ge.
      let j = k - r.steps in
      let i : r.steps + j ≡ k = omega (arith, ge) in
      let is : es ++ (going c.step j r.board).effects ≡ (going c.step k b).effects = sym (ap (λ q. q.effects) (r.leads.by j))
      ∙ ap (λ n. (going c.step n b).effects) i in
      subst (IsCharge h b.inputs.looks) is (complete r.board.inputs.looks r.there.see r.whole (next j i)))
      (cases_lt k r.steps)

  pub plays_from : (fuel k : ℕ) (h : History) (b : MachineBoard) → k < fuel → IsThere b h → IsCharge h b.inputs.looks (going c.step k b).effects
  plays_from zero k h b le t = absurd (omega (arith, le))
  plays_from (suc fuel) k h b le t =
      let mk = makes_script h b t in
      by_value (script_on h b).ends
      (λ e. let r = round h b t mk e in let some = r.some in
      round_plays k h b r (λ j i. plays_from fuel j (behind_script_on h b) r.board (omega (arith, le, some, i)) r.there))
      (λ e. let l = mk.lacks e in stalled k mk.steps mk.cycles l.price stop.NoReading h b l.stalls)

  -- a history behind a whole script and more
  behind_more : (es : List Effect) (h : History) (looks : List Look)
      → observe m.marks ((script_there h looks).effects ++ es) h ≡ observe m.marks es (behind_script h looks)
  behind_more es h looks = observe-append m.marks (script_there h looks).effects es h

  whole_there : (h : History) (looks : List Look) → SeeWords looks → AtPoint h → (script_there h looks).ends ≡ true
      → Next given h (behind_script h looks)
  whole_there h looks see p e = point_whole given h looks see p e

  -- what holds of each cut, over whole charges
  pub charge_cut : (h : History) (looks : List Look) (es : List Effect) → IsCharge h looks es → SeeWords looks → AtPoint h
      → IsLawful m readings origin (observe m.marks es h)
  charge_cut h looks es (partial pre first) see p = (point_part given h looks es see p pre first).lawful
  charge_cut h looks es (complete {es = more} left sees e ce) see p =
      subst (IsLawful m readings origin) (sym (behind_more more h looks))
      (charge_cut (behind_script h looks) left more ce sees (whole_there h looks see p e).point)

  -- any number of steps from an entry on is lawful
  pub lawful_from : (k : ℕ) (h : History) (b : MachineBoard) → IsThere b h → IsLawful m readings origin (observe m.marks (going c.step k b).effects h)
  lawful_from k h b t = charge_cut h b.inputs.looks _ (plays_from (suc k) k h b (omega arith) t) t.see t.point

  -- spans joined
  spans_join : (from : ℕ) (ds es : List Done) (mid to : ℕ) → AreConsecutive from ds mid → AreConsecutive mid es to → AreConsecutive from (ds ++ es) to
  spans_join from [] es mid to a b = subst (λ n. AreConsecutive n es to) (sym a) b
  spans_join from (d ∷ ds) es mid to a b = (a.0, spans_join d.span_to ds es mid to a.1 b)

  pub charge_spans : (h : History) (looks : List Look) (es : List Effect) → IsCharge h looks es → SeeWords looks → AtPoint h → h.decided ≡ false
      → Spans given h (observe m.marks es h)
  charge_spans h looks es (partial pre first) see p u = (point_part given h looks es see p pre first).spans
  charge_spans h looks es (complete {es = more} left sees e ce) see p u =
      let n = whole_there h looks see p e in
      let k = behind_script h looks in
      let r = charge_spans k left more ce sees n.point n.undecided in
      let sp = n.span u in
      let one : AreConsecutive h.since (n.done ∷ []) k.since = (sp.0, sp.1) in
      let s : Spans given h (observe m.marks more k) =
      record {
        dones = (n.done ∷ []) ++ r.dones;
        completed = r.completed ∙ ap (λ l. l ++ r.dones) n.completed ∙ append_assoc h.completed (n.done ∷ []) r.dones;
        follow = λ z. spans_join h.since (n.done ∷ []) r.dones k.since _ one (r.follow n.undecided);
      } in
      subst (Spans given h) (sym (behind_more more h looks)) s

  -- from a pending commit on no done comes, or one, behind which the dones follow one another
  pub data SpansPast (h k : History) : Type 0 where
    NoDone : k.completed ≡ h.completed → SpansPast h k
    PastDone : (d : Done) (ds : List Done) → k.completed ≡ h.completed ++ (d ∷ ds) → AreConsecutive h.taken ds k.since → SpansPast h k

  pub charge_past : (h : History) (looks : List Look) (es : List Effect) → IsCharge h looks es → SeeWords looks → AtPoint h → h.decided ≡ true
      → SpansPast h (observe m.marks es h)
  charge_past h looks es (partial pre first) see p u = past (point_grows given h looks es see p u pre first)
    where
      past : Grows given h (observe m.marks es h) → SpansPast h (observe m.marks es h)
      past (Stayed a b) = NoDone a
      past (Finished a b) = PastDone (done_of given h (observe m.marks es h).world) [] a (sym b)
  charge_past h looks es (complete {es = more} left sees e ce) see p u =
      let n = whole_there h looks see p e in
      let k = behind_script h looks in
      let r = charge_spans k left more ce sees n.point n.undecided in
      let end = observe m.marks more k in
      let s : SpansPast h end = PastDone n.done r.dones
      (r.completed ∙ ap (λ l. l ++ r.dones) n.completed ∙ append_assoc h.completed (n.done ∷ []) r.dones)
      (subst (λ j. AreConsecutive j r.dones end.since) (n.since u) (r.follow n.undecided)) in
      subst (SpansPast h) (sym (behind_more more h looks)) s

  -- a machine that halts does so for want of a reading, where the source is short
  pub record HaltsShort (k : History) (e : Stop) : Type 0 where
    pub reading : e ≡ stop.NoReading
    pub short : EndsShort given k

  -- a halt behind so many steps
  abbrev pub Halts : ℕ → MachineBoard → ℕ → Stop → Type 0
  Halts k b price e = (going c.step k b).status ≡ Halted price e

  abbrev pub ShortBehind : ℕ → MachineBoard → History → Stop → Type 0
  ShortBehind k b h e = HaltsShort (observe m.marks (going c.step k b).effects h) e

  round_halts : (k : ℕ) (h : History) (b : MachineBoard) (price : ℕ) (e : Stop) (r : Round h b) → Halts k b price e
      → ((j : ℕ) → r.steps + j ≡ k → Halts j r.board price e → ShortBehind j r.board (behind_script_on h b) e) → ShortBehind k b h e
  round_halts k h b price e r x next =
      let es = (script_on h b).effects in
      let end = leads_end c.step r.steps es r.cycles b r.board r.leads in
      ⊎_elim
      (λ lt.
      let i : k + (r.steps - k) ≡ r.steps = omega (arith, lt) in
      let stays : Halts r.steps b price e = ap (λ j. (going c.step j b).status) (sym i)
      ∙ ap (λ q. q.status) (halts c.step k (r.steps - k) b price e x) ∙ x in
      let led : (going c.step r.steps b).status ≡ At r.board = ap (λ q. q.status) end in
      absurd (cc (stays, led)))
      (λ ge.
      let j = k - r.steps in
      let i : r.steps + j ≡ k = omega (arith, ge) in
      let there : going c.step k b ≡ after_effects es r.cycles (going c.step j r.board) = ap (λ n. going c.step n b) (sym i) ∙ r.leads.by j in
      let x2 : Halts j r.board price e = sym (ap (λ q. q.status) there) ∙ x in
      subst (λ k. HaltsShort k e) (sym (ap (λ q. observe m.marks q.effects h) there ∙ behind_more (going c.step j r.board).effects h b.inputs.looks))
      (next j i x2))
      (cases_lt k r.steps)

  stall_halts : (k : ℕ) (h : History) (b : MachineBoard) (price : ℕ) (e : Stop) (mk : Makes c m.delay (due h) (script_on h b) b) → IsThere b h
      → (script_on h b).ends ≡ false → Halts k b price e → ShortBehind k b h e
  stall_halts k h b price e mk t lacking x =
      let es = (script_on h b).effects in
      let st = mk.lacks lacking in
      let n = mk.steps in
      let i : n + 1 + k ≡ k + (n + 1) = omega arith in
      let there : going c.step k b ≡ stretch es mk.cycles (Halted st.price stop.NoReading) = sym (halts c.step k (n + 1) b price e x)
      ∙ ap (λ j. going c.step j b) (sym i) ∙ stalls_end c.step n es mk.cycles b st.price stop.NoReading st.stalls k in
      let sh = point_short given h b.inputs.looks t.see t.point lacking in
      let status : Halted price e ≡ Halted st.price stop.NoReading = sym x ∙ ap (λ q. q.status) there in
      let reason : e ≡ stop.NoReading = cc status in
      record {
        reading = reason;
        short = subst (λ q. EndsShort given (observe m.marks q.effects h)) (sym there) sh;
      }

  pub halted_from : (fuel k : ℕ) (h : History) (b : MachineBoard) (price : ℕ) (e : Stop) → k < fuel → IsThere b h → Halts k b price e
      → ShortBehind k b h e
  halted_from zero k h b price e le t x = absurd (omega (arith, le))
  halted_from (suc fuel) k h b price e le t x =
      let mk = makes_script h b t in
      by_value (script_on h b).ends
      (λ q. let r = round h b t mk q in let some = r.some in
      round_halts k h b price e r x (λ j i y. halted_from fuel j (behind_script_on h b) r.board price e (omega (arith, le, some, i)) r.there y))
      (λ q. stall_halts k h b price e mk t q x)

  -- where each recovery, each attempt and each commit stores only so, any number of steps does
  module _ (P : ℕ → ℕ → Type 0) (scripts : ScriptsStore m P) where
    -- an attempt with its commit stores so
    attempt_stores : (s : St) (x : World) (inputs : Inputs) (r : ProgramEffects) → AttemptContract m s inputs x r
        → EachStore P r.effects → EachStore P (with_commit m x.fram inputs r).effects
    attempt_stores s x inputs r (Comes next k) q =
        let es = k.before ++ Store m.marks.gate 1 ∷ [] in
        let y = world_after_one (Store m.marks.gate 1) (world_after k.before x) in
        let fr : fram_after es x.fram ≡ y.fram = sym (world_fram es x) ∙ ap (λ z. z.fram) (world_after-append k.before (Store m.marks.gate 1 ∷ []) x) in
        let rest : Inputs = inputs_behind es inputs in
        let q2 : EachStore P es = subst (λ p. EachStore P p.effects) k.is q in
        let committed : EachStore P (m.commit (fram_after es x.fram) rest) =
        subst (λ f. EachStore P (m.commit f rest)) (sym fr) (scripts.commits next y rest (laws.decided_committing s next y k.decided)) in
        let both : EachStore P (with_commit m x.fram inputs (program_effects es true)).effects =
        each_store-append P es (m.commit (fram_after es x.fram) rest) q2 committed in
        subst (λ p. EachStore P (with_commit m x.fram inputs p).effects) (sym k.is) both
    attempt_stores s x inputs r (Lacks k) q = subst (EachStore P) (sym (short_effects given s x.fram inputs x r k)) q

    -- an attempt behind a boot or a done does
    attempt_from_stores : (booted : Bool) (s : St) (x : World) (inputs : Inputs) → InputsAreWords inputs → m.Undecided s x
        → (booted ≡ false → m.Settled s x) → EachStore P (attempt_from m booted x.fram inputs).effects
    attempt_from_stores false s x inputs ws u k = scripts.attempts s x inputs ws (k refl)
    attempt_from_stores true s x inputs ws u k =
        let rec : List Effect = m.recover x.fram in
        each_store-append P rec (m.attempt (fram_after rec x.fram) inputs).effects (scripts.recoveries s x u)
        (subst (λ f. EachStore P (m.attempt f inputs).effects) (world_fram rec x)
        (scripts.attempts s (world_after rec x) inputs ws (laws.recovers s x u).settled))

    script_stores : (h : History) (looks : List Look) → SeeWords looks → AtPoint h → EachStore P (script_there h looks).effects
    script_stores h looks see p =
        let i : Inputs = inputs_there h looks in
        let ws = words_left given h looks see in
        ⊎_elim
        (λ u. subst (λ q. EachStore P q.effects) (sym (script_u given h looks u))
        (attempt_stores u.state h.world i (attempt_from m h.booted h.world.fram i)
        (owed_from given h.booted u.state h.world i ws u.holds u.ready)
        (attempt_from_stores h.booted u.state h.world i ws u.holds u.ready)))
        (λ d. subst (λ q. EachStore P q.effects) (sym (script_d given h looks d)) (scripts.commits d.to h.world i d.holds))
        (phase_of given h p)

    pub charge_stores : (h : History) (looks : List Look) (es : List Effect) → IsCharge h looks es → SeeWords looks → AtPoint h → EachStore P es
    charge_stores h looks es (partial pre first) see p = each_prefix P es (script_there h looks).effects pre (script_stores h looks see p)
    charge_stores h looks es (complete {es = more} left sees e ce) see p =
        each_store-append P (script_there h looks).effects more (script_stores h looks see p)
        (charge_stores (behind_script h looks) left more ce sees (whole_there h looks see p e).point)
