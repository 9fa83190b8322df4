-- What is made from a boot or a done on, cut anywhere, keeps what a history stands for.
use Rattle.std.proofs.Common.{◌≡◌, ℕ, ◌+◌, List, [], ◌∷◌, ◌++◌, length, drop, refl, sym, ap, ◌∙◌, subst, ⊎_elim, inl, inr, ◌⊎◌, arith, true, false, cond, ◌==◌}
use Rattle.std.proofs.Common.{append_assoc, append-nil, All, Bool}
use Rattle.std.proofs.lemmas.List.Elements.{All-drop}
use Rattle.machine_effects.specs.fram_board.Effects.{Effect, Store}
use Rattle.machine_effects.specs.World.{World, world_after, fram_after, readings_taken, looks_taken, IsPrefix, EachStore}
use Rattle.machine_effects.specs.Inputs.{Look, SeeWords}
use Rattle.machine_effects.proofs.Interface.{world_after-append, readings_taken-append}
use Rattle.crash_rules.specs.Model.{Model, ModelLaws, Given, nothing_given, given_by, answers_in, Ends, ProgramEffects, program_effects, IsWord}
use Rattle.crash_rules.specs.Model.{IsElsewhere, Inputs, InputsAreWords, inputs_behind, with_commit, attempt_from, script, Decides, RunsShort}
use Rattle.crash_rules.specs.Model.{AttemptContract, Comes, Lacks, CommitKeeps}
use Rattle.crash_rules.specs.History.{Done, History, with_effect, behind_decide, behind_done, observe_one, observe, behind_boot, inputs_from}
use Rattle.crash_rules.specs.History.{decided_given, done_given}
use Rattle.crash_rules.specs.Laws.{Origin, Resting, Pending, SourceRun, HasNoSpan, Reaches, IsPending, IsSettled, Transits, Phase, UndecidedPhase, DecidedPhase}
use Rattle.crash_rules.specs.Laws.{StartsFrom, FromUndecided, FromDecided, FromCommitting}
use Rattle.crash_rules.specs.Laws.{CommittingPhase, StandsFor, IsOfScript, IsLawful, IsShort, AreConsecutive, TaskCosts, CoversTasks}
use Rattle.crash_rules.proofs.Lists.{world_fram, each_prefix, holds_prefix, holds_end, prefix_cases, prefix_one, nothing_first, range_of}
use Rattle.crash_rules.proofs.Front.{in_front}
use Rattle.crash_rules.proofs.Observed.{observe-append, with_effects, observe_quiet, observe_done, observe_decide}

-- a model that keeps its laws, the readings of a run, how it begins, and what its transitions cost at most
pub record Setting (St : Type 0) : Type 1 where
  pub model : Model St
  pub laws : ModelLaws model
  pub readings : List ℕ
  pub words : All IsWord readings
  pub origin : Origin St
  pub costs : TaskCosts
  pub covers : CoversTasks model origin costs

module _ {St : Type 0} (given : Setting St) where
  open given use {model as m, laws, readings, words, origin}

  run_more : (s t u : St) (ds : List Done) (d : Done) → SourceRun m readings s ds t → m.task t (done_given readings d) ≡ Ends u nothing_given
      → m.Rests u d.world
      → SourceRun m readings s (ds ++ d ∷ []) u
  run_more s t u [] d h e r = (u, ap (λ x. m.task x (done_given readings d)) (sym h) ∙ e, r, refl)
  run_more s t u (c ∷ ds) d h e r = (h.0, h.1, h.2, run_more h.0 t u ds d h.3 e r)

  -- one transition more
  reaches_more : (o : Origin St) (ds : List Done) (s next : St) (d : Done) → Reaches m readings o ds s → Transits m o ds (done_given readings d) s next
      → m.Rests next d.world → Reaches m readings o (ds ++ d ∷ []) next
  reaches_more (Resting a) ds s next d h t r = run_more a s next ds d h t r
  reaches_more (Pending a) [] s next d h t r = absurd t
  reaches_more (Pending a) (c ∷ ds) s next d h t r = (h.0, h.1, run_more a s next ds d h.2 t r)

  -- the first one, of the commit that was pending at the start
  reaches_first : (o : Origin St) (ds : List Done) (s : St) (d : Done) → Reaches m readings o ds s → IsPending o ds
      → HasNoSpan d.span_from d.span_to d.answers → m.Rests s d.world → Reaches m readings o (ds ++ d ∷ []) s
  reaches_first (Resting a) ds s d h p n r = absurd p
  reaches_first (Pending a) [] s d h p n r = (n, subst (λ u. m.Rests u d.world) h r, h)
  reaches_first (Pending a) (c ∷ ds) s d h p n r = absurd p

  settled_more : (o : Origin St) (ds : List Done) (d : Done) → IsSettled o (ds ++ d ∷ [])
  settled_more (Resting a) ds d = tt
  settled_more (Pending a) [] d = tt
  settled_more (Pending a) (c ∷ ds) d = tt

  -- where nothing is pending, transitions are the task's
  transits_task : (o : Origin St) (ds : List Done) (rs : Given) (s next : St) → IsSettled o ds → m.task s rs ≡ Ends next nothing_given
      → Transits m o ds rs s next
  transits_task (Resting a) ds rs s next k e = e
  transits_task (Pending a) [] rs s next k e = absurd k
  transits_task (Pending a) (c ∷ ds) rs s next k e = e

  -- a history that follows its script would also with these effects more
  abbrev pub MayGoOn : History → List Effect → Type 0
  MayGoOn v es = IsOfScript m readings v.since v.booted v.start.fram (v.effects ++ es)

  -- its world is that of its effects
  abbrev pub IsTold : History → Type 0
  IsTold v = v.world ≡ world_after v.effects v.start

  -- the done at the end of a history that was decided
  abbrev pub done_of : History → World → Done
  done_of v x = record { span_from = v.span_from; span_to = v.span_to; answers = v.answers; world = x }

  -- from v to k no done came, or one, at which no reading more was taken
  pub data Grows (v k : History) : Type 0 where
    Stayed : k.completed ≡ v.completed → k.since ≡ v.since → Grows v k
    Finished : k.completed ≡ v.completed ++ done_of v k.world ∷ [] → k.since ≡ v.taken → Grows v k

  -- undecided at a state, with nothing to recover
  pub record IsReady (h : History) (s : St) : Type 0 where
    pub undecided : h.decided ≡ false
    pub settled : m.Settled s h.world

  -- right behind a boot or a done
  pub record Point (h : History) : Type 0 where
    pub stands : StandsFor m readings origin h
    pub since : h.since ≡ h.taken
    pub start : h.start ≡ h.world
    pub none : h.effects ≡ []
    pub ready : h.booted ≡ false → IsReady h stands.state

  pub record Part (v k : History) : Type 0 where
    pub lawful : IsLawful m readings origin k
    pub grows : Grows v k

  -- a commit's end
  pub record Whole (v k : History) : Type 0 where
    pub point : Point k
    pub completed : k.completed ≡ v.completed ++ done_of v k.world ∷ []
    pub taken : k.taken ≡ v.taken
    pub undecided : k.decided ≡ false
    pub behind_done : k.booted ≡ false

  pub none_seen : SeeWords []
  none_seen = λ k d low. absurd (omega arith)

  -- what is ready from a position on are words
  pub words_from : (since : ℕ) (looks : List Look) → SeeWords looks → InputsAreWords (inputs_from readings since looks)
  words_from since looks see = record { readings = All-drop IsWord since readings words; looks = see }

  pub point_lawful : (h : History) → Point h → IsLawful m readings origin h
  point_lawful h p =
      record {
        world = sym p.start ∙ ap (λ es. world_after es h.start) (sym p.none);
        stands = p.stands;
        follows = subst (λ es. IsOfScript m readings h.since h.booted h.start.fram es) (sym p.none)
            (record { left = []; words = words_from h.since [] none_seen; follows = nothing_first _ });
      }

  -- where the transition began that a history is in
  abbrev pub BeganAt : History → St → Type 0
  BeganAt v s = StartsFrom m origin v.booted v.completed s v.start

  told_more : (v : History) (es : List Effect) → IsTold v → world_after es v.world ≡ world_after (v.effects ++ es) v.start
  told_more v es t = ap (world_after es) t ∙ sym (world_after-append v.effects es v.start)

  quiet_part : (s : St) (v : History) (es : List Effect) → EachStore (IsElsewhere m.marks.gate) es → IsTold v → MayGoOn v es
      → Reaches m readings origin v.completed s → BeganAt v s → Phase m readings origin s (with_effects es v) → Part v (observe m.marks es v)
  quiet_part s v es q told go reached began phase =
      subst (Part v) (sym (observe_quiet m.marks es v q))
      (record {
        lawful = record { world = told_more v es told; stands = record { state = s; reached = reached; starts = began; phase = phase }; follows = go };
        grows = Stayed refl refl;
      })

  -- a commit that is due: what its effects keep, and what its done comes to
  pub record IsDue (v : History) (s next : St) (Kept : World → Type 0) : Type 0 where
    pub decided : v.decided ≡ true
    pub reached : Reaches m readings origin v.completed s
    pub began : BeganAt v s
    pub holds : Kept v.world
    pub committing : (y : World) → Kept y → m.Committing next y
    pub contract : (inputs : Inputs) → CommitKeeps m Kept next inputs v.world
    pub phase : (es : List Effect) → Kept (world_after es v.world) → Phase m readings origin s (with_effects es v)
    pub done : (y : World) → m.Rests next y → Reaches m readings origin (v.completed ++ done_of v y ∷ []) next

  -- behind a decide
  due_decided : (v : History) (s next : St) → Reaches m readings origin v.completed s → BeganAt v s → v.decided ≡ true
      → Transits m origin v.completed (decided_given readings v) s next → m.Decided s next v.world → IsDue v s next (m.Decided s next)
  due_decided v s next reached began g t d =
      record {
        decided = g;
        reached = reached;
        began = began;
        holds = d;
        committing = laws.decided_committing s next;
        contract = laws.decided_commits s next v.world d;
        phase = λ es h. DecidedPhase next g t h;
        done = λ y r. reaches_more origin v.completed s next (done_of v y) reached t r;
      }

  -- at the start of the run
  due_first : (v : History) (to : St) → Reaches m readings origin v.completed to → BeganAt v to → v.decided ≡ true → IsPending origin v.completed
      → HasNoSpan v.span_from v.span_to v.answers → m.Committing to v.world → IsDue v to to (m.Committing to)
  due_first v to reached began g p n d =
      record {
        decided = g;
        reached = reached;
        began = began;
        holds = d;
        committing = λ y h. h;
        contract = λ inputs. laws.commits to v.world inputs d;
        phase = λ es h. CommittingPhase g p n h;
        done = λ y r. reaches_first origin v.completed to (done_of v y) reached p n r;
      }

  module _ (s next : St) (Kept : World → Type 0) (v : History) (due : IsDue v s next Kept) (inputs : Inputs) where
    abbrev keeps : CommitKeeps m Kept next inputs v.world
    keeps = due.contract inputs

    abbrev before : List Effect
    before = keeps.before

    -- a commit, whole
    commit_end : Whole v (observe m.marks (before ++ Store m.marks.gate 0 ∷ []) v)
    commit_end =
        let p = keeps in
        let u = with_effects before v in
        let k = behind_done (with_effect (Store m.marks.gate 0) u) in
        let y = world_after before v.world in
        let one : u.world.fram m.marks.gate ≡ 1 = laws.committing_gate next y (due.committing y (holds_end Kept before v.world p.kept)) in
        let is : observe m.marks (before ++ Store m.marks.gate 0 ∷ []) v ≡ k = observe-append m.marks before (Store m.marks.gate 0 ∷ []) v
        ∙ ap (observe_one m.marks (Store m.marks.gate 0)) (observe_quiet m.marks before v p.elsewhere) ∙ observe_done m.marks u one in
        let none : length (readings_taken before) ≡ 0 = ap (λ i. length i.readings) p.takes_none in
        let there : m.Settled next k.world = laws.rests_settled next k.world p.rests in
        subst (Whole v) (sym is)
        (record {
          point = record {
            stands = record {
              state = next;
              reached = due.done k.world p.rests;
              starts = FromUndecided (settled_more origin v.completed (done_of v k.world)) (laws.settled_undecided next k.world there) (λ z. there);
              phase = UndecidedPhase refl (settled_more origin v.completed (done_of v k.world)) (laws.settled_undecided next k.world there);
            };
            since = refl;
            start = refl;
            none = refl;
            ready = λ z. record { undecided = refl; settled = there };
          };
          completed = refl;
          taken = omega (arith, none);
          undecided = refl;
          behind_done = refl;
        })

    commit_whole : Whole v (observe m.marks (m.commit v.world.fram inputs) v)
    commit_whole = subst (λ l. Whole v (observe m.marks l v)) (sym keeps.is) commit_end

    commit_quiet : (es : List Effect) → IsPrefix es before → IsTold v → MayGoOn v es → Part v (observe m.marks es v)
    commit_quiet es h told go =
        quiet_part s v es (each_prefix (IsElsewhere m.marks.gate) es before h keeps.elsewhere) told go due.reached due.began
        (due.phase es (holds_prefix Kept es before v.world h keeps.kept))

    whole_part : (k : History) → Whole v k → Part v k
    whole_part k w = record { lawful = point_lawful k w.point; grows = Finished w.completed (w.point.since ∙ w.taken) }

    -- a commit, cut anywhere
    commit_part : (es : List Effect) → IsPrefix es (m.commit v.world.fram inputs) → IsTold v → MayGoOn v es → Part v (observe m.marks es v)
    commit_part es pre told go =
        ⊎_elim
        (λ h. commit_quiet es h told go)
        (λ h. ⊎_elim
        (λ e. commit_quiet es (record { rest = []; joins = append-nil es ∙ h.1 ∙ ap (λ l. before ++ l) e ∙ append-nil before }) told go)
        (λ e. subst (λ l. Part v (observe m.marks l v)) (sym (h.1 ∙ ap (λ l. before ++ l) e)) (whole_part _ commit_end))
        (prefix_one h.0 (Store m.marks.gate 0) h.2))
        (prefix_cases es before (Store m.marks.gate 0 ∷ []) (subst (λ l. IsPrefix es l) keeps.is pre))

  -- a done behind a decide
  pub record Next (h k : History) : Type 0 where
    pub point : Point k
    pub done : Done
    pub completed : k.completed ≡ h.completed ++ done ∷ []
    pub undecided : k.decided ≡ false
    pub behind_done : k.booted ≡ false
    pub span : h.decided ≡ false → (done.span_from ≡ h.since) × (done.span_to ≡ k.since)
    pub since : h.decided ≡ true → k.since ≡ h.taken

  -- from h no done came, or the dones follow one another
  pub record Spans (h k : History) : Type 0 where
    pub dones : List Done
    pub completed : k.completed ≡ h.completed ++ dones
    pub follow : h.decided ≡ false → AreConsecutive h.since dones k.since

  pub record Cut (h k : History) : Type 0 where
    pub lawful : IsLawful m readings origin k
    pub spans : Spans h k

  -- effects that store nothing to GATE are part of a script that goes on, and no done
  quiet_cut : (s : St) (h : History) (es : List Effect) → EachStore (IsElsewhere m.marks.gate) es → IsTold h → MayGoOn h es
      → Reaches m readings origin h.completed s → BeganAt h s → Phase m readings origin s (with_effects es h) → Cut h (observe m.marks es h)
  quiet_cut s h es q told go reached began phase =
      let is = observe_quiet m.marks es h q in
      record {
        lawful = (quiet_part s h es q told go reached began phase).lawful;
        spans = record {
          dones = [];
          completed = ap (λ k. k.completed) is ∙ sym (append-nil h.completed);
          follow = λ z. sym (ap (λ k. k.since) is);
        };
      }

  part_grows : (h v k : History) → v.completed ≡ h.completed → v.since ≡ h.since → v.span_from ≡ h.since → v.span_to ≡ v.taken → Grows v k → Spans h k
  part_grows h v k c s f t (Stayed a b) = record { dones = []; completed = a ∙ c ∙ sym (append-nil h.completed); follow = λ z. sym (b ∙ s) }
  part_grows h v k c s f t (Finished a b) = record {
    dones = done_of v k.world ∷ [];
    completed = a
        ∙ ap (λ l. l ++ done_of v k.world ∷ []) c;
    follow = λ z. (f, t ∙ sym b);
  }

  stayed_spans : (h k : History) → Part h k → h.decided ≡ true → Spans h k
  stayed_spans h k p d = stayed_by p.grows
    where
      clash : (h.decided ≡ false → AreConsecutive h.since [] k.since)
      clash z = absurd (cc (d, z))

      stayed_by : Grows h k → Spans h k
      stayed_by (Stayed a b) = record { dones = []; completed = a ∙ sym (append-nil h.completed); follow = clash }
      stayed_by (Finished a b) = record { dones = done_of h k.world ∷ []; completed = a; follow = λ z. absurd (cc (d, z)) }

  -- the inputs at a point, with these looks
  abbrev pub inputs_at : History → List Look → Inputs
  inputs_at h looks = inputs_from readings h.taken looks

  -- effects take some of the first looks
  abbrev pub TakesFirst : List Effect → List Look → Type 0
  TakesFirst es looks = (left : List Look) × (looks_taken es ++ left ≡ looks)

  -- a point where all is undecided
  pub record AtUndecided (h : History) : Type 0 where
    pub point : Point h
    pub state : St
    pub reached : Reaches m readings origin h.completed state
    pub began : BeganAt h state
    pub undecided : h.decided ≡ false
    pub settled : IsSettled origin h.completed
    pub holds : m.Undecided state h.world
    pub ready : h.booted ≡ false → m.Settled state h.world

  module _ (h : History) (looks : List Look) (u : AtUndecided h) (next : St) (r : ProgramEffects)
      (c : Decides m u.state next (inputs_at h looks) h.world r) where
    abbrev s : St
    s = u.state

    abbrev pt : Point h
    pt = u.point

    abbrev to_gate : List Effect
    to_gate = c.before ++ Store m.marks.gate 1 ∷ []

    -- the history behind the decide
    abbrev at_gate : History
    at_gate = behind_decide m.marks (with_effect (Store m.marks.gate 1) (with_effects c.before h))

    chose : observe m.marks to_gate h ≡ at_gate
    chose =
        let k = with_effects c.before h in
        let z : k.world.fram m.marks.gate ≡ 0 = laws.undecided_gate s (world_after c.before h.world) (holds_end (m.Undecided s) c.before h.world c.undecided) in
        observe-append m.marks c.before (Store m.marks.gate 1 ∷ []) h
        ∙ ap (observe_one m.marks (Store m.marks.gate 1)) (observe_quiet m.marks c.before h c.elsewhere)
        ∙ observe_decide m.marks k z

    gate_world : world_after to_gate h.world ≡ at_gate.world
    gate_world = world_after-append c.before (Store m.marks.gate 1 ∷ []) h.world

    taken_there : at_gate.taken ≡ h.taken + length (readings_taken c.before)
    taken_there = omega arith

    answers_there : at_gate.answers ≡ answers_in m.marks to_gate
    answers_there = ap (λ l. answers_in m.marks ((l ++ c.before) ++ Store m.marks.gate 1 ∷ [])) pt.none

    transits : Transits m origin h.completed (decided_given readings at_gate) s next
    transits =
        let reads : readings_taken c.before ++ c.left.readings ≡ drop h.since readings = c.reads.readings
        ∙ ap (λ n. drop n readings) (sym pt.since) in
        let to : at_gate.taken ≡ h.since + length (readings_taken c.before) = taken_there ∙ ap (λ n. n + length (readings_taken c.before)) (sym pt.since) in
        let taken = range_of readings (readings_taken c.before) c.left.readings h.since at_gate.taken reads to in
        let whole : readings_taken to_gate ≡ readings_taken c.before =
        readings_taken-append c.before (Store m.marks.gate 1 ∷ []) ∙ append-nil (readings_taken c.before) in
        let read = taken ∙ sym whole in
        let same : decided_given readings at_gate ≡ given_by m.marks to_gate = λ i. record { readings = read i; answers = answers_there i } in
        transits_task origin h.completed _ s next u.settled (ap (m.task s) same ∙ c.exact)

    gate_due : IsDue at_gate s next (m.Decided s next)
    gate_due = due_decided at_gate s next u.reached u.began refl transits c.decided

    gate_effects : at_gate.effects ≡ h.effects ++ to_gate
    gate_effects = append_assoc h.effects c.before (Store m.marks.gate 1 ∷ [])

    gate_told : IsTold at_gate
    gate_told = sym gate_world ∙ told_more h to_gate (point_lawful h pt).world ∙ ap (λ l. world_after l h.start) (sym gate_effects)

    gate_goes : (fs : List Effect) → MayGoOn h (to_gate ++ fs) → MayGoOn at_gate fs
    gate_goes fs g = subst (λ l. IsOfScript m readings h.since h.booted h.start.fram l)
        (sym (ap (λ l. l ++ fs) gate_effects ∙ append_assoc h.effects to_gate fs)) g

    -- what is left for the commit
    abbrev inputs_there : Inputs
    inputs_there = inputs_behind to_gate (inputs_at h looks)

    abbrev commit_then : List Effect
    commit_then = m.commit (fram_after to_gate h.world.fram) inputs_there

    commit_there : commit_then ≡ m.commit at_gate.world.fram inputs_there
    commit_there = ap (λ f. m.commit f inputs_there) (sym (world_fram to_gate h.world) ∙ ap (λ x. x.fram) gate_world)

    -- from the store to GATE on
    past_gate : (es fs : List Effect) → es ≡ to_gate ++ fs → IsPrefix fs commit_then → MayGoOn h es → Cut h (observe m.marks es h)
    past_gate es fs e p go =
        let k = commit_part s next (m.Decided s next) at_gate gate_due inputs_there fs (subst (IsPrefix fs) commit_there p) gate_told
        (gate_goes fs (subst (MayGoOn h) e go)) in
        let is : observe m.marks es h ≡ observe m.marks fs at_gate = ap (λ l. observe m.marks l h) e ∙ observe-append m.marks to_gate fs h
        ∙ ap (observe m.marks fs) chose in
        subst (Cut h) (sym is) (record { lawful = k.lawful; spans = part_grows h at_gate _ refl refl refl refl k.grows })

    -- up to it
    before_gate : (es : List Effect) → IsPrefix es c.before → MayGoOn h es → Cut h (observe m.marks es h)
    before_gate es p go =
        quiet_cut s h es (each_prefix (IsElsewhere m.marks.gate) es c.before p c.elsewhere) (point_lawful h pt).world go u.reached u.began
        (UndecidedPhase u.undecided u.settled (holds_prefix (m.Undecided s) es c.before h.world p c.undecided))

    decides_part : (es : List Effect) → IsPrefix es (with_commit m h.world.fram (inputs_at h looks) r).effects → MayGoOn h es
        → Cut h (observe m.marks es h)
    decides_part es p0 go =
        let p : IsPrefix es (to_gate ++ commit_then) = subst (λ q. IsPrefix es (with_commit m h.world.fram (inputs_at h looks) q).effects) c.is p0 in
        ⊎_elim
        (λ a. ⊎_elim
        (λ b. before_gate es b go)
        (λ b. ⊎_elim
        (λ e. before_gate es (record { rest = []; joins = append-nil es ∙ b.1 ∙ ap (λ l. c.before ++ l) e ∙ append-nil c.before }) go)
        (λ e. past_gate es [] (b.1 ∙ ap (λ l. c.before ++ l) e ∙ sym (append-nil to_gate)) (nothing_first _) go)
        (prefix_one b.0 (Store m.marks.gate 1) b.2))
        (prefix_cases es c.before (Store m.marks.gate 1 ∷ []) a))
        (λ a. past_gate es a.0 a.1 a.2 go)
        (prefix_cases es to_gate commit_then p)

    decides_whole : Next h (observe m.marks (with_commit m h.world.fram (inputs_at h looks) r).effects h)
    decides_whole =
        let cm = commit_then in
        let w0 = commit_whole s next (m.Decided s next) at_gate gate_due inputs_there in
        let k = observe m.marks cm at_gate in
        let w : Whole at_gate k = subst (λ l. Whole at_gate (observe m.marks l at_gate)) (sym commit_there) w0 in
        let is : observe m.marks (to_gate ++ cm) h ≡ k = observe-append m.marks to_gate cm h ∙ ap (observe m.marks cm) chose in
        let all : Next h (observe m.marks (to_gate ++ cm) h) =
        subst (Next h) (sym is) (record {
          point = w.point;
          done = done_of at_gate k.world;
          completed = w.completed;
          undecided = w.undecided;
          behind_done = w.behind_done;
          span = λ z. (refl, sym w.taken ∙ sym w.point.since);
          since = λ z. let nd = u.undecided in absurd (cc (nd, z));
        }) in
        subst (λ q. Next h (observe m.marks (with_commit m h.world.fram (inputs_at h looks) q).effects h)) (sym c.is) all

  -- an attempt that runs short, and that comes to no end
  pub short_effects : (s : St) (f : ℕ → ℕ) (inputs : Inputs) (x : World) (r : ProgramEffects) → RunsShort m s inputs x r
      → (with_commit m f inputs r).effects ≡ r.effects
  short_effects s f inputs x r c =
      ap (λ b. r.effects ++ cond b (m.commit (fram_after r.effects f) (inputs_behind r.effects inputs)) []) c.is ∙ append-nil r.effects

  short_part : (h : History) (looks : List Look) (u : AtUndecided h) (r : ProgramEffects) (es : List Effect)
      → RunsShort m u.state (inputs_at h looks) h.world r → IsPrefix es r.effects → MayGoOn h es → Cut h (observe m.marks es h)
  short_part h looks u r es c p go =
      quiet_cut u.state h es (each_prefix (IsElsewhere m.marks.gate) es r.effects p c.elsewhere) (point_lawful h u.point).world go u.reached u.began
      (UndecidedPhase u.undecided u.settled (holds_prefix (m.Undecided u.state) es r.effects h.world p c.undecided))

  attempt_part : (h : History) (looks : List Look) (u : AtUndecided h) (es : List Effect) (r : ProgramEffects)
      → AttemptContract m u.state (inputs_at h looks) h.world r → IsPrefix es (with_commit m h.world.fram (inputs_at h looks) r).effects → MayGoOn h es
      → Cut h (observe m.marks es h)
  attempt_part h looks u es r (Comes next c) p go = decides_part h looks u next r c es p go
  attempt_part h looks u es r (Lacks c) p go =
      short_part h looks u r es c (subst (IsPrefix es) (short_effects u.state h.world.fram (inputs_at h looks) h.world r c) p) go

  attempt_whole : (h : History) (looks : List Look) (u : AtUndecided h) (r : ProgramEffects)
      → AttemptContract m u.state (inputs_at h looks) h.world r → r.ends ≡ true
      → Next h (observe m.marks (with_commit m h.world.fram (inputs_at h looks) r).effects h)
  attempt_whole h looks u r (Comes next c) e = decides_whole h looks u next r c
  attempt_whole h looks u r (Lacks c) e = absurd (cc (c.is, e))

  -- whose commit is due: that of the task of the state of the last done; or one that was pending at the start
  pub data CommitOf (h : History) : Type 0 where
    OfTask : (s next : St) → Reaches m readings origin h.completed s → IsSettled origin h.completed → m.Decided s next h.world → CommitOf h
    OfStart : IsPending origin h.completed → CommitOf h

  -- where nothing is pending
  transits_settled : (o : Origin St) (ds : List Done) (rs : Given) (s next : St) → Transits m o ds rs s next → IsSettled o ds
  transits_settled (Resting a) ds rs s next t = tt
  transits_settled (Pending a) [] rs s next t = absurd t
  transits_settled (Pending a) (c ∷ ds) rs s next t = tt

  -- one where a commit is due, with the state that it leaves; it is behind a boot
  pub record AtCommit (h : History) : Type 0 where
    pub to : St
    pub whose : CommitOf h
    pub decided : h.decided ≡ true
    pub booted : h.booted ≡ false → ⊥
    pub holds : m.Committing to h.world
    pub whole : (inputs : Inputs) → Whole h (observe m.marks (m.commit h.world.fram inputs) h)
    pub part : (inputs : Inputs) (es : List Effect) → IsPrefix es (m.commit h.world.fram inputs) → IsTold h → MayGoOn h es
        → Part h (observe m.marks es h)

  at_commit : (h : History) (s next : St) (Kept : World → Type 0) → CommitOf h → IsDue h s next Kept → (h.booted ≡ false → h.decided ≡ false) → AtCommit h
  at_commit h s next Kept whose due ready =
      record {
        to = next;
        whose = whose;
        decided = due.decided;
        booted = λ z. let u = ready z in let d = due.decided in absurd (cc (u, d));
        holds = due.committing h.world due.holds;
        whole = commit_whole s next Kept h due;
        part = commit_part s next Kept h due;
      }

  pub phase_of : (h : History) → Point h → (AtUndecided h) ⊎ (AtCommit h)
  phase_of h p = by_phase p.stands.state p.stands.reached p.stands.starts p.stands.phase p.ready
    where
      by_phase : (s : St) → Reaches m readings origin h.completed s → BeganAt h s → Phase m readings origin s h → (h.booted ≡ false → IsReady h s)
          → (AtUndecided h) ⊎ (AtCommit h)
      by_phase s r b (UndecidedPhase d k u) w =
          inl (record { point = p; state = s; reached = r; began = b; undecided = d; settled = k; holds = u; ready = λ z. (w z).settled })
      by_phase s r b (DecidedPhase next d t u) w =
          inr (at_commit h s next (m.Decided s next)
          (OfTask s next r (transits_settled origin h.completed (decided_given readings h) s next t) u)
          (due_decided h s next r b d t u) (λ z. (w z).undecided))
      by_phase s r b (CommittingPhase d p n u) w =
          inr (at_commit h s s (m.Committing s) (OfStart p) (due_first h s r b d p n u) (λ z. (w z).undecided))

  -- what the script is, by GATE
  abbrev undecided_script : Bool → (ℕ → ℕ) → Inputs → ProgramEffects
  undecided_script booted f inputs = with_commit m f inputs (attempt_from m booted f inputs)

  script_decided : (booted : Bool) (f : ℕ → ℕ) (inputs : Inputs) → f m.marks.gate ≡ 1
      → script m booted f inputs ≡ program_effects (m.commit f inputs) true
  script_decided booted f inputs e = ap (λ n. cond (n == 1) (program_effects (m.commit f inputs) true) (undecided_script booted f inputs)) e

  script_undecided : (booted : Bool) (f : ℕ → ℕ) (inputs : Inputs) → f m.marks.gate ≡ 0
      → script m booted f inputs ≡ undecided_script booted f inputs
  script_undecided booted f inputs e = ap (λ n. cond (n == 1) (program_effects (m.commit f inputs) true) (undecided_script booted f inputs)) e

  -- the script at a point, and the attempt of one where all is undecided
  abbrev pub script_at : History → List Look → ProgramEffects
  script_at h looks = script m h.booted h.world.fram (inputs_at h looks)

  abbrev pub attempt_at : History → List Look → ProgramEffects
  attempt_at h looks = attempt_from m h.booted h.world.fram (inputs_at h looks)

  pub words_left : (h : History) (looks : List Look) → SeeWords looks → InputsAreWords (inputs_at h looks)
  words_left h looks see = words_from h.taken looks see

  -- behind a boot as behind a done an attempt keeps the contract
  pub owed_from : (booted : Bool) (s : St) (x : World) (inputs : Inputs) → InputsAreWords inputs → m.Undecided s x
      → (booted ≡ false → m.Settled s x) → AttemptContract m s inputs x (attempt_from m booted x.fram inputs)
  owed_from false s x inputs ws u k = laws.attempts s x inputs ws (k refl)
  owed_from true s x inputs ws u k =
      let r = laws.recovers s x u in
      let rec : List Effect = m.recover x.fram in
      let y : World = world_after rec x in
      in_front m s x inputs rec (m.attempt (fram_after rec x.fram) inputs) r.stays
      (subst (λ f. AttemptContract m s inputs y (m.attempt f inputs)) (world_fram rec x) (laws.attempts s y inputs ws r.settled))

  owed : (h : History) (looks : List Look) → SeeWords looks → (u : AtUndecided h)
      → AttemptContract m u.state (inputs_at h looks) h.world (attempt_at h looks)
  owed h looks see u = owed_from h.booted u.state h.world (inputs_at h looks) (words_left h looks see) u.holds u.ready

  pub script_u : (h : History) (looks : List Look) (u : AtUndecided h)
      → script_at h looks ≡ with_commit m h.world.fram (inputs_at h looks) (attempt_at h looks)
  script_u h looks u = script_undecided h.booted h.world.fram (inputs_at h looks) (laws.undecided_gate u.state h.world u.holds)

  pub script_d : (h : History) (looks : List Look) (d : AtCommit h) → script_at h looks ≡ program_effects (m.commit h.world.fram (inputs_at h looks)) true
  script_d h looks d = script_decided h.booted h.world.fram (inputs_at h looks) (laws.committing_gate d.to h.world d.holds)

  -- charges as whole scripts and a prefix of one, from these looks on
  pub data ChargeEffects : History → List Look → List Effect → Type 0 where
    partial : {h : History} {looks : List Look} {es : List Effect} → IsPrefix es (script_at h looks).effects → TakesFirst es looks
        → ChargeEffects h looks es
    complete : {h : History} {looks : List Look} {es : List Effect} (left : List Look) → SeeWords left → (script_at h looks).ends ≡ true
        → ChargeEffects (observe m.marks (script_at h looks).effects h) left es
        → ChargeEffects h looks ((script_at h looks).effects ++ es)

  may_go_on : (h : History) (looks : List Look) (es : List Effect) → SeeWords looks → Point h → IsPrefix es (script_at h looks).effects
      → TakesFirst es looks → MayGoOn h es
  may_go_on h looks es see p pre first =
      let all = looks_taken es ++ first.0 in
      let P : List Effect → Type 0 = λ l. IsOfScript m readings h.since h.booted h.start.fram (l ++ es) in
      subst P (sym p.none) (record {
        left = first.0;
        words = words_from h.since all (subst SeeWords (sym first.1) see);
        follows =
            subst (λ x. IsPrefix es (script m h.booted x.fram (inputs_from readings h.since all)).effects) (sym p.start)
            (subst (λ n. IsPrefix es (script m h.booted h.world.fram (inputs_from readings n all)).effects) (sym p.since)
            (subst (λ l. IsPrefix es (script_at h l).effects) (sym first.1) pre));
      })

  -- from a point on, the script cut anywhere
  pub point_part : (h : History) (looks : List Look) (es : List Effect) → SeeWords looks → Point h → IsPrefix es (script_at h looks).effects
      → TakesFirst es looks → Cut h (observe m.marks es h)
  point_part h looks es see p pre first =
      let go = may_go_on h looks es see p pre first in
      ⊎_elim
      (λ u. attempt_part h looks u es _ (owed h looks see u) (subst (λ q. IsPrefix es q.effects) (script_u h looks u) pre) go)
      (λ d.
      let k = d.part (inputs_at h looks) es (subst (λ q. IsPrefix es q.effects) (script_d h looks d) pre) (point_lawful h p).world go in
      record { lawful = k.lawful; spans = stayed_spans h _ k d.decided })
      (phase_of h p)

  -- from a pending commit on no done comes, or one, at which no reading more was taken
  pub point_grows : (h : History) (looks : List Look) (es : List Effect) → SeeWords looks → Point h → h.decided ≡ true
      → IsPrefix es (script_at h looks).effects → TakesFirst es looks → Grows h (observe m.marks es h)
  point_grows h looks es see p decided pre first =
      ⊎_elim {C = Grows h (observe m.marks es h)}
      (λ u. absurd (cc (u.undecided, decided)))
      (λ d.
      (d.part (inputs_at h looks) es (subst (λ q. IsPrefix es q.effects) (script_d h looks d) pre) (point_lawful h p).world
      (may_go_on h looks es see p pre first)).grows)
      (phase_of h p)

  -- and the whole script
  pub point_whole : (h : History) (looks : List Look) → SeeWords looks → Point h → (script_at h looks).ends ≡ true
      → Next h (observe m.marks (script_at h looks).effects h)
  point_whole h looks see p e =
      ⊎_elim
      (λ u.
      let is = script_u h looks u in
      subst (λ q. Next h (observe m.marks q.effects h)) (sym is) (attempt_whole h looks u _ (owed h looks see u)
      (subst (λ q. q.ends ≡ true) is e)))
      (λ d.
      let w = d.whole (inputs_at h looks) in
      let n : Next h (observe m.marks (m.commit h.world.fram (inputs_at h looks)) h) = record {
        point = w.point;
        done = done_of h _;
        completed = w.completed;
        undecided = w.undecided;
        behind_done = w.behind_done;
        span = λ z. absurd (cc (d.decided, z));
        since = λ z. w.point.since ∙ w.taken;
      } in
      subst (λ q. Next h (observe m.marks q.effects h)) (sym (script_d h looks d)) n)
      (phase_of h p)

  -- a whole script makes something
  pub point_some : (h : History) (looks : List Look) → SeeWords looks → Point h → (script_at h looks).ends ≡ true → (script_at h looks).effects ≡ [] → ⊥
  point_some h looks see p e none =
      let n = point_whole h looks see p e in
      let same : h.completed ≡ h.completed ++ n.done ∷ [] = ap (λ l. (observe m.marks l h).completed) (sym none) ∙ n.completed in
      no_longer h.completed n.done same
    where
      no_longer : (ds : List Done) (d : Done) → ds ≡ ds ++ d ∷ [] → ⊥
      no_longer [] d q = cc q
      no_longer (a ∷ ds) d q = no_longer ds d (cc q)

  -- where the script doesn't come to its end, the source is short
  pub record EndsShort (h : History) : Type 0 where
    pub stands : StandsFor m readings origin h
    pub undecided : h.decided ≡ false
    pub short : IsShort m readings stands.state h

  short_by : (h : History) (looks : List Look) (u : AtUndecided h) (r : ProgramEffects)
      → AttemptContract m u.state (inputs_at h looks) h.world r → r.ends ≡ false
      → EndsShort (observe m.marks (with_commit m h.world.fram (inputs_at h looks) r).effects h)
  short_by h looks u r (Comes next c) lacking = absurd (cc (ap (λ q. q.ends) c.is, lacking))
  short_by h looks u r (Lacks c) lacking =
      let made : (with_commit m h.world.fram (inputs_at h looks) r).effects ≡ r.effects =
      short_effects u.state h.world.fram (inputs_at h looks) h.world r c in
      let since : drop h.since readings ≡ drop h.taken readings = ap (λ n. drop n readings) u.point.since in
      let answers : answers_in m.marks (h.effects ++ r.effects) ≡ answers_in m.marks r.effects =
      ap (λ l. answers_in m.marks (l ++ r.effects)) u.point.none in
      let given : ◌≡◌ {A = Given} (record { readings = drop h.since readings; answers = answers_in m.marks (h.effects ++ r.effects) })
      (record { readings = drop h.taken readings; answers = answers_in m.marks r.effects }) =
      λ i. record { readings = since i; answers = answers i } in
      let k : EndsShort (with_effects r.effects h) =
      record {
        stands = record {
          state = u.state;
          reached = u.reached;
          starts = u.began;
          phase = UndecidedPhase u.undecided u.settled (holds_end (m.Undecided u.state) r.effects h.world c.undecided);
        };
        undecided = u.undecided;
        short = ap (m.task u.state) given ∙ c.short;
      } in
      let is : observe m.marks (with_commit m h.world.fram (inputs_at h looks) r).effects h ≡ with_effects r.effects h =
      ap (λ l. observe m.marks l h) made ∙ observe_quiet m.marks r.effects h c.elsewhere in
      subst EndsShort (sym is) k

  pub point_short : (h : History) (looks : List Look) → SeeWords looks → Point h → (script_at h looks).ends ≡ false
      → EndsShort (observe m.marks (script_at h looks).effects h)
  point_short h looks see p lacking =
      ⊎_elim
      (λ u.
      let is = script_u h looks u in
      subst (λ q. EndsShort (observe m.marks q.effects h)) (sym is)
      (short_by h looks u (attempt_at h looks) (owed h looks see u) (subst (λ q. q.ends ≡ false) is lacking)))
      (λ d. absurd (cc (ap (λ q. q.ends) (script_d h looks d), lacking)))
      (phase_of h p)

  -- a boot
  pub booted : (h : History) → StandsFor m readings origin h → Point (behind_boot h)
  booted h st = record {
    stands = record { state = st.state; reached = st.reached; starts = from st.phase; phase = same st.phase };
    since = refl;
    start = refl;
    none = refl;
    ready = λ z. absurd (cc z);
  }
    where
      same : Phase m readings origin st.state h → Phase m readings origin st.state (behind_boot h)
      same (UndecidedPhase d k u) = UndecidedPhase d k u
      same (DecidedPhase next d t u) = DecidedPhase next d t u
      same (CommittingPhase d p n u) = CommittingPhase d p n u

      from : Phase m readings origin st.state h → BeganAt (behind_boot h) st.state
      from (UndecidedPhase d k u) = FromUndecided k u (λ z. absurd (cc z))
      from (DecidedPhase next d t u) =
          FromDecided next (transits_settled origin h.completed (decided_given readings h) st.state next t) u
      from (CommittingPhase d p n u) = FromCommitting p u
