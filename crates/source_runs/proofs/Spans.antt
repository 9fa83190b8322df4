-- The attempts that a run committed, read off its moments, are those of the dones that are read off its effects; and so each of its charges
-- pays for its transitions.
use Rattle.std.proofs.Common.{◌≡◌, ℕ, ◌+◌, refl, sym, ap, ap₂, ◌∙◌, subst, arith, Bool, true, false, cond, if◌then◌else◌, List, [], ◌∷◌, ◌++◌}
use Rattle.std.proofs.Common.{length, append_assoc, append-nil, length-append, Option, Some, None, IfSome, ◌<◌, ◌*◌}
use Rattle.std.proofs.lemmas.List.{length-map, map-append}
use Rattle.image_map.specs.declared.parts.RingPlaces.{RingPlaces}
use Rattle.image_map.specs.MapValue.{MapValue, IsRing}
use Rattle.image_map.specs.Kept.{IsMap}
use Rattle.fram_board.specs.declared.board.Stepped.{Stepped}
use Rattle.fram_board.specs.Board.{BoardValue, powered}
use Rattle.fram_board.specs.Effects.{Effect}
use Rattle.fram_board.specs.Run.{StepKind, Action, PowerUp, Execute, Moment, power_up_of, Charges, RunOutcome, run_outcome, BoardCharge}
use Rattle.board_run.specs.History.{noted, is_done, word_in}
use Rattle.board_run.specs.History as board
use Rattle.board_run.specs.Report.{after_all}
use Rattle.machine_effects.specs.event_places.Places.{handler_place}
use Rattle.machine_effects.specs.World.{World}
use Rattle.machine_effects.specs.Runs.{last_board}
use Rattle.crash_rules.specs.Model.{Marks, answers_at, answers_in}
use Rattle.crash_rules.specs.History.{Done, History, is_decide, behind_decide, behind_done, behind_gate, first_history}
use Rattle.crash_rules.specs.Laws.{TaskCosts}
use Rattle.crash_rules.proofs.Interface.{with_effects, answers-append}
use Rattle.run_charges.specs.View.{outside_effects}
use Rattle.run_charges.specs.Moments.{IsMomentFrom, AreMoments}
use Rattle.run_charges.specs.Charges.{behind_moment, observed}
use Rattle.run_charges.specs.Laws.{IsProgramRun}
use Rattle.run_charges.proofs.Interface.{charge_last, front_moments, are_behind, stepped, Steps, IsPowerOrStep, IsPower, IsStepped, moment_is}
use Rattle.model_runs.specs.Events.{marks_of, IsInFront}
use Rattle.model_runs.specs.EventLaws.{StartsWith}
use Rattle.model_runs.proofs.Interface.{Together, together_on, observed_so, moment_leads, moments_lead, first_histories_are_the_same}
use Rattle.source_runs.specs.Transitions.{committed_by}
use Rattle.model_runs.specs.Runs as model
use Rattle.model_runs.specs.Runs.{no_delay, arisen_between, Progresses}
use Rattle.source_runs.specs.Tells.{Answers, no_answers, answer_by, answers_gated, answers_behind, answers_after, CommittedAttempt, attempts_by, attempts_of}
use Rattle.source_runs.specs.Tells.{at_first, cost_due, PaysFor, EachChargePays, AllSpent, SpentOne, StoppedIn}
use Rattle.source_runs.proofs.Answers.{IsAnswer, answers_said}
use Rattle.source_runs.proofs.Costs.{task_costs, less_than_read}

-- an attempt, or none
abbrev attempt_if : Bool → ℕ → ℕ → List ℕ → List CommittedAttempt
attempt_if b from to answers = if b then record { span = record { from = from; to = to }; answers = answers } ∷ [] else []

abbrev committed_one : Done → CommittedAttempt
committed_one d = record { span = record { from = d.span_from; to = d.span_to }; answers = d.answers }

-- an event adds the attempt of the last decide where it is a done
event_adds : (marks : Marks) (before now : ℕ) (k : History) → committed_by (behind_gate marks before now k).completed
    ≡ committed_by k.completed ++ attempt_if (is_done before now) k.span_from k.span_to k.answers
event_adds marks before now k =
    elim (is_done before now) as (λ p. committed_by (cond p (behind_done k) (cond (is_decide before now) (behind_decide marks k) k)).completed
    ≡ committed_by k.completed ++ attempt_if p k.span_from k.span_to k.answers) [
      | true ↦ map-append committed_one k.completed
          (record { span_from = k.span_from; span_to = k.span_to; answers = k.answers; world = k.world } ∷ [])
      | false ↦ elim (is_decide before now) as (λ q. committed_by (cond q (behind_decide marks k) k).completed ≡ committed_by k.completed ++ []) [
        | true ↦ sym (append-nil (committed_by k.completed))
        | false ↦ sym (append-nil (committed_by k.completed))
      ]
    ]

-- the answers that are read off moments are those that the history by effects knows
record IsSaid (marks : Marks) (a : Answers) (k : History) : Type 0 where
  since : a.since ≡ answers_in marks k.effects
  decided : a.decided ≡ k.answers

none_in : (answer : Option ℕ) → answers_at answer [] ≡ []
none_in None = refl
none_in (Some a) = refl

-- behind a change of GATE
gated_said : (marks : Marks) (before now : ℕ) (since : List ℕ) (a : Answers) (k : History) → since ≡ answers_in marks k.effects → a.decided ≡ k.answers
    → IsSaid marks (answers_gated before now since a) (behind_gate marks before now k)
gated_said marks before now since a k e f =
    elim (is_done before now) as (λ p. IsSaid marks
    (if p then record a { since = [] } else record { since = since; decided = if is_decide before now then since else a.decided })
    (cond p (behind_done k) (cond (is_decide before now) (behind_decide marks k) k))) [
      | true ↦ record { since = sym (none_in marks.answer); decided = f }
      | false ↦ elim (is_decide before now) as (λ q. IsSaid marks (record { since = since; decided = if q then since else a.decided })
          (cond q (behind_decide marks k) k)) [ true ↦ record { since = e; decided = e } | false ↦ record { since = e; decided = f } ]
    ]

-- the answers that a history knows
abbrev said_by : Marks → History → Answers
said_by marks k = record { since = answers_in marks k.effects; decided = k.answers }

-- how many attempts are completed doesn't depend on what is known of answers
one_count : (m : MapValue) (h : board.History) (a c : Answers) (action : Action) (after : BoardValue)
    → length (attempts_by m h a action after) ≡ length (attempts_by m h c action after)
one_count m h a c PowerUp after = refl
one_count m h a c (Execute kind done offered) after = by_done (is_done h.gate (word_in after.fram m.words.gate))
  where
    by_done : (d : Bool) → length (attempt_if d h.span_from h.span_to a.decided) ≡ length (attempt_if d h.span_from h.span_to c.decided)
    by_done true = refl
    by_done false = refl

same_count : (m : MapValue) (h : board.History) (a c : Answers) (ms : List Moment) → length (attempts_of m h a ms) ≡ length (attempts_of m h c ms)
same_count m h a c [] = refl
same_count m h a c (o ∷ ms) =
    let one = one_count m h a c o.action o.after in
    let more = same_count m (noted h o) (answers_behind m h o.action o.after a) (answers_behind m h o.action o.after c) ms in
    let left = length-append (attempts_by m h a o.action o.after) (attempts_of m (noted h o) (answers_behind m h o.action o.after a) ms) in
    let right = length-append (attempts_by m h c o.action o.after) (attempts_of m (noted h o) (answers_behind m h o.action o.after c) ms) in
    omega (arith, one, more, left, right)

-- where ANS is, by the map
answer_there : (ring : Option RingPlaces) → IfSome ring IsRing → IfSome ring (λ r. r.answer < handler_place) → IfSome ring IsAnswer
answer_there None ok front = tt
answer_there (Some r) ok front = record { there = ok.answer; front = front }

module _ (m : MapValue) (x : World) (ok : IsMap m) (front : IsInFront m) where
  abbrev gate : ℕ
  gate = m.words.gate

  abbrev marks : Marks
  marks = marks_of m

  abbrev Said : Answers → History → Type 0
  Said a k = IsSaid marks a k

  -- the history by effects behind a moment adds the attempts of the moment, and knows its answers
  record Adds (h : board.History) (a : Answers) (k : History) (o : Moment) : Type 0 where
    attempts : committed_by (behind_moment marks o k).completed ≡ committed_by k.completed ++ attempts_by m h a o.action o.after
    said : Said (answers_behind m h o.action o.after a) (behind_moment marks o k)

  step_adds : (b : BoardValue) (h : board.History) (a : Answers) (k : History) → Together m x b h k → Said a k → (kind : StepKind) (done : Stepped)
      (offered : Option ℕ) (after : BoardValue) → IsMomentFrom b (stepped b kind done offered after) → Steps b (stepped b kind done offered after)
      → Adds h a k (stepped b kind done offered after)
  step_adds b h a k t said kind done offered after from step =
      let o = stepped b kind done offered after in
      let es : List Effect = outside_effects o in
      let moved = with_effects es k in
      let before : ℕ = k.world.fram gate in
      let now : ℕ = word_in after.fram gate in
      let same = t.same.alike in
      let seen = observed_so m x ok front b h k t kind done offered after step in
      let answer = answers_said m.ring (answer_there m.ring ok.ring front.answer) b kind done offered after from in
      let since : a.since ++ answer_by m.ring done.wrote after.fram ≡ answers_in marks moved.effects =
      ap₂ (λ p q. p ++ q) said.since (sym answer) ∙ sym (answers-append marks k.effects es) in
      let Q : History → Type 0 = λ y. Said (answers_behind m h o.action after a) y in
      let R : ℕ → Type 0 = λ g. Said (answers_gated g now (a.since ++ answer_by m.ring done.wrote after.fram) a) (behind_gate marks before now moved) in
      record {
        attempts = ap (λ y. committed_by y.completed) seen
            ∙ event_adds marks before now moved
            ∙ ap₂ (λ p q. committed_by k.completed ++ attempt_if (is_done before now) p q k.answers) (sym same.span_from) (sym same.span_to)
            ∙ ap₂ (λ g l. committed_by k.completed ++ attempt_if (is_done g now) h.span_from h.span_to l) (sym t.same.gate) (sym said.decided);
        said = subst Q (sym seen) (subst R (sym t.same.gate)
            (gated_said marks before now (a.since ++ answer_by m.ring done.wrote after.fram) a moved since said.decided));
      }

  adds_by : (b : BoardValue) (h : board.History) (a : Answers) (k : History) → Together m x b h k → Said a k → (o : Moment) → IsMomentFrom b o
      → IsPowerOrStep b o → Adds h a k o
  adds_by b h a k t said o from (IsPower p start e) =
      let P : Moment → Type 0 = λ y. Adds h a k y in
      subst P (sym e) (record {
        attempts = sym (append-nil (committed_by k.completed));
        said = record { since = sym (none_in marks.answer); decided = said.decided };
      })
  adds_by b h a k t said o from (IsStepped s) =
      let P : Moment → Type 0 = λ y. IsMomentFrom b y → Steps b y → Adds h a k y in
      subst P (sym s.is) (λ from step. step_adds b h a k t said s.kind s.done s.offered s.after from step) from s

  moment_adds : (b : BoardValue) (h : board.History) (a : Answers) (k : History) → Together m x b h k → Said a k → (o : Moment) → IsMomentFrom b o
      → Adds h a k o
  moment_adds b h a k t said o from = adds_by b h a k t said o from (moment_is b o t.whole t.words from)

  -- and behind all of them
  record AllAdd (h : board.History) (a : Answers) (k : History) (ms : List Moment) : Type 0 where
    attempts : committed_by (observed marks ms k).completed ≡ committed_by k.completed ++ attempts_of m h a ms
    said : Said (answers_after m h a ms) (observed marks ms k)

  moments_add : (b : BoardValue) (h : board.History) (a : Answers) (k : History) (ms : List Moment) → Together m x b h k → Said a k → AreMoments b ms
      → AllAdd h a k ms
  moments_add b h a k [] t said are = record { attempts = sym (append-nil (committed_by k.completed)); said = said }
  moments_add b h a k (o ∷ ms) t said are =
      let j = behind_moment marks o k in
      let next = answers_behind m h o.action o.after a in
      let here = together_on m x b o.before h k are.0 t in
      let one = moment_leads m x ok front o.before h k here o are.1 in
      let added = moment_adds o.before h a k here said o are.1 in
      let rest = moments_add o.after (noted h o) next j ms one.together added.said are.2 in
      record {
        attempts = rest.attempts
            ∙ ap (λ l. l ++ attempts_of m (noted h o) next ms) added.attempts
            ∙ append_assoc (committed_by k.completed) (attempts_by m h a o.action o.after) (attempts_of m (noted h o) next ms);
        said = rest.said;
      }

  -- where each task costs so much, and a commit that was pending at the start the bound
  module _ (cost : ℕ → ℕ) (pending : Bool) where
    abbrev costs : TaskCosts
    costs = task_costs m cost pending x

    abbrev due : board.History → ℕ
    due h = cost_due m cost pending h

    -- a charge that pays for dones pays for the transitions that are read off its moments
    pays_so : (c : BoardCharge) (b : BoardValue) (h : board.History) (k : History) (ms : List Moment) → Together m x b h k → AreMoments b ms
        → (arisen : ℕ) → model.PaysFor m.bound costs 0 c arisen k (observed marks ms k) → PaysFor m due c arisen h ms
    pays_so c b h k ms t are arisen pays =
        record {
          bounds = λ is n enough.
              let more = pays.bounds is n (omega (arith, enough)) in
              let j = observed marks ms k in
              let known = said_by marks k in
              let attempts = attempts_of m h known ms in
              let all : length (committed_by j.completed) ≡ length (committed_by k.completed) + length attempts =
              ap length (moments_add b h known k ms t (record { since = refl; decided = refl }) are).attempts
              ∙ length-append (committed_by k.completed) attempts in
              let now : length (committed_by j.completed) ≡ length j.completed = length-map j.completed committed_one in
              let old : length (committed_by k.completed) ≡ length k.completed = length-map k.completed committed_one in
              let same = same_count m h known no_answers ms in
              omega (arith, more, all, now, old, same);
          tasks = let less = less_than_read m x ok front cost pending c.amount (0 + 100 * arisen) b h k ms t are pays.tasks in omega (arith, less);
        }

    charges_pay : (cs : List BoardCharge) (b : BoardValue) (k : History) (r : RunOutcome) (h : board.History) → Together m x b h k
        → AreMoments b r.moments → Progresses marks m.bound costs no_delay cs b k r → EachChargePays m due cs b h r
    charges_pay cs b k r h t all (model.AllSpent _ _) = AllSpent b h
    charges_pay cs b k r h t all (model.SpentOne c ds _ _ ms end rest one pays more) =
        let own = power_up_of b c.start ∷ ms in
        let are : AreMoments b own = front_moments b (run_outcome (own ++ rest.moments) Charges end) own rest.moments all refl in
        let there : last_board (powered b c.start) ms ≡ end = charge_last c.measure c.amount (powered b c.start) (run_outcome ms Charges end) one refl in
        let P : BoardValue → Type 0 = λ y. Together m x y (after_all h own) (observed marks own k) in
        let Q : BoardValue → Type 0 = λ y. AreMoments y rest.moments in
        let next = subst P there (moments_lead m x ok front b h k own t are).together in
        let behind = subst Q there (are_behind b own rest.moments all) in
        SpentOne c ds b h ms end rest one
        (pays_so c b h k own t are (arisen_between b end) pays)
        (charges_pay ds end (observed marks own k) rest (after_all h own) next behind more)
    charges_pay cs b k r h t all (model.StoppedIn c ds _ _ ms stop end one) = StoppedIn c ds b h ms stop end one

-- of a run from its beginning on: the attempts, the readings taken at the last boot or done, the answers since, and what its charges pay for
pub record IsReadOff (m : MapValue) (cs : List BoardCharge) (b : BoardValue) (r : RunOutcome) (k : History) : Type 0 where
  pub attempts : committed_by k.completed ≡ attempts_of m (at_first m b) no_answers r.moments
  pub since : k.since ≡ (after_all (at_first m b) r.moments).since
  pub answers : answers_in (marks_of m) k.effects ≡ (answers_after m (at_first m b) no_answers r.moments).since
  pub pays : (x : World) (cost : ℕ → ℕ) (pending : Bool)
      → Progresses (marks_of m) m.bound (task_costs m cost pending x) no_delay cs b (first_history (marks_of m) x) r → StartsWith b x
      → EachChargePays m (cost_due m cost pending) cs b (at_first m b) r

-- the events that are read off moments are those of the effects
pub read_off : (m : MapValue) (x : World) (cs : List BoardCharge) (b : BoardValue) (r : RunOutcome) → IsMap m → IsInFront m → StartsWith b x
    → IsProgramRun cs b r → IsReadOff m cs b r (observed (marks_of m) r.moments (first_history (marks_of m) x))
read_off m x cs b r ok front starts run =
    let k = first_history (marks_of m) x in
    let t = together x starts in
    let first : IsSaid (marks_of m) no_answers k = record { since = sym (none_in (marks_of m).answer); decided = refl } in
    let all = moments_add m x ok front b (at_first m b) no_answers k r.moments t first run.moments in
    record {
      attempts = all.attempts;
      since = sym (moments_lead m x ok front b (at_first m b) k r.moments t run.moments).together.same.alike.since;
      answers = sym all.said.since;
      pays = λ y cost pending progress begins.
          charges_pay m y ok front cost pending cs b (first_history (marks_of m) y) r (at_first m b) (together y begins) run.moments progress;
    }
  where
    together : (y : World) → StartsWith b y → Together m y b (at_first m b) (first_history (marks_of m) y)
    together y begins =
        let begun = first_histories_are_the_same b m y ok front begins in
        record { whole = run.of_words.whole; words = run.of_words.words; same = begun.0; tells = begun.1 }
