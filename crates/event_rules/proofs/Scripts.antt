-- A program that takes words of the ring in order in each script does so over a whole charge.
use Rattle.std.proofs.Common.{◌≡◌, ℕ, zero, suc, ◌+◌, ◌-◌, ◌<◌, List, [], ◌∷◌, ◌++◌, refl, sym, ap, ◌∙◌, subst, ⊎_elim, arith, Bool}
use Rattle.std.proofs.Common.{true, false, append-nil, length, drop, if◌then◌else◌}
use Rattle.std.proofs.Math.Seq.{drop-nil}
use Rattle.std.proofs.lemmas.Bool.{cases_lt}
use Rattle.fram_board.specs.Effects.{Effect, Store, Take, Outside, Offered, Looked}
use Rattle.machine_effects.specs.World.{World, world_after, fram_after_one, fram_after, looks_taken, EachStore}
use Rattle.machine_effects.specs.Going.{At, after_effects, going, Leads}
use Rattle.machine_effects.specs.Inputs.{Look, other_looks, TakesExactly}
use Rattle.machine_effects.specs.Machine.{MachineBoard, MachineOutcome}
use Rattle.machine_effects.proofs.Interface.{world_after-append, left_are_words}
use Rattle.crash_rules.specs.Model.{Model, ModelLaws, Inputs, InputsAreWords, inputs_behind, ProgramEffects, program_effects, with_commit, attempt_from, bound}
use Rattle.crash_rules.specs.Model.{AttemptContract, Comes, Lacks, CommitKeeps}
use Rattle.crash_rules.specs.Runs.{Program, AtEntry, Makes, ProgramLaws}
use Rattle.crash_rules.proofs.Interface.{world_fram, in_front, goes_on, changed}
use Rattle.event_rules.specs.Taking.{Taking, Before, IsIdle, Advances, Takes, Sends, Stores, Follows, Rule, looks_behind, FollowsSeeing, Ended, Next, Blind}
use Rattle.event_rules.specs.Taking.{IsOffRing, ScriptsTakeInOrder}

-- the looks that effects leave
abbrev pub looks_after : List Effect → List Look → List Look
looks_after [] looks = looks
looks_after (e ∷ es) looks = looks_after es (looks_behind e looks)

-- those behind the ones that they take
pub left_behind : (es : List Effect) (left : List Look) → looks_after es (looks_taken es ++ left) ≡ left
left_behind [] left = refl
left_behind (Store a w ∷ es) left = left_behind es left
left_behind (Take r ∷ es) left = left_behind es left
left_behind (Outside (Offered n w) ∷ es) left = left_behind es left
left_behind (Outside (Looked seen) ∷ es) left = left_behind es left

pub dropped : (es : List Effect) (looks : List Look) → looks_after es looks ≡ drop (length (looks_taken es)) looks
dropped [] looks = refl
dropped (Store a w ∷ es) looks = dropped es looks
dropped (Take r ∷ es) looks = dropped es looks
dropped (Outside (Offered n w) ∷ es) looks = dropped es looks
dropped (Outside (Looked seen) ∷ es) [] = dropped es [] ∙ drop-nil (length (looks_taken es))
dropped (Outside (Looked seen) ∷ es) (look ∷ more) = dropped es more

module _ (R : Rule) where
  -- effects behind effects
  pub joined : {f : ℕ → ℕ} {looks : List Look} {t u v : Taking} {es fs : List Effect} → FollowsSeeing R f looks t es u
      → FollowsSeeing R (fram_after es f) (looks_after es looks) u fs v → FollowsSeeing R f looks t (es ++ fs) v
  joined Ended k = k
  joined (Next a h) k = Next a (joined h k)
  joined Blind k = Blind

  -- the first of them
  pub first_part : (es fs : List Effect) {f : ℕ → ℕ} {looks : List Look} {t u : Taking} → FollowsSeeing R f looks t (es ++ fs) u
      → (v : Taking) × FollowsSeeing R f looks t es v
  first_part [] fs {t = t} h = (t, Ended)
  first_part (e ∷ es) fs (Next a h) = let k = first_part es fs h in (k.0, Next a k.1)
  first_part (e ∷ es) fs {t = t} Blind = (t, Blind)

module _ (gate : ℕ) where
  -- where looks are left behind them, each is one that may be there
  pub sighted : {f : ℕ → ℕ} {t u : Taking} (looks : List Look) (es : List Effect) (x : Look) (left : List Look) → looks ≡ looks_taken es ++ (x ∷ left)
      → FollowsSeeing (Advances gate) f looks t es u → Follows gate f t es u
  sighted looks [] x left e Ended = refl
  sighted looks (Store a w ∷ es) x left e (Next {v = v} n h) = (v, n, sighted looks es x left e h)
  sighted looks (Take r ∷ es) x left e (Next {v = v} n h) = (v, n, sighted looks es x left e h)
  sighted looks (Outside (Offered i w) ∷ es) x left e (Next {v = v} n h) = (v, n, sighted looks es x left e h)
  sighted looks (Outside (Looked seen) ∷ es) x left e (Next {v = v} n h) = (v, n, sighted (other_looks looks) es x left (ap other_looks e) h)
  sighted _ es x left e Blind = absurd (none (looks_taken es) e)
    where
      none : (l : List Look) → [] ≡ l ++ (x ∷ left) → ⊥
      none [] q = cc q
      none (y ∷ l) q = cc q

  -- ordinary stores
  pub off_ring : (es : List Effect) (f : ℕ → ℕ) (looks : List Look) (t : Taking) → IsIdle t → EachStore (IsOffRing gate) es → looks_taken es ≡ []
      → FollowsSeeing (Advances gate) f looks t es t
  off_ring [] f looks t idle h n = Ended
  off_ring (Store a w ∷ es) f looks t idle h n = Next (Stores idle h.0.0 h.0.1) (off_ring es (fram_after_one (Store a w) f) looks t idle h.1 n)
  off_ring (Take r ∷ es) f looks t idle h n = Next (Takes idle) (off_ring es f looks t idle h.1 n)
  off_ring (Outside (Offered i w) ∷ es) f looks t idle h n = Next (Sends idle) (off_ring es f looks t idle h.1 n)
  off_ring (Outside (Looked seen) ∷ es) f looks t idle h n = absurd (cc n)

-- by the value of a Bool
by_value : {P : Type 0} (b : Bool) → (b ≡ true → P) → (b ≡ false → P) → P
by_value true t f = t refl
by_value false t f = f refl

-- fewer steps make the first of the effects
module _ (step : MachineBoard → MachineOutcome) where
  part_of : (n k : ℕ) (s t : MachineBoard) → (going step n s).status ≡ At t
      → (rest : List Effect) × ((going step n s).effects ++ rest ≡ (going step (n + k) s).effects)
  part_of n k s t at = ((going step k t).effects, sym (ap (λ r. r.effects) (goes_on step n s t at k)))

  -- no steps make nothing
  some_steps : (n : ℕ) (es : List Effect) (c : ℕ) (s t : MachineBoard) → Leads step n es c s t → (es ≡ [] → ⊥) → 0 < n
  some_steps zero es c s t l none = absurd (none (sym (append-nil es) ∙ sym (ap (λ r. r.effects) (l.by 0))))
  some_steps (suc n) es c s t l none = omega arith

-- an effect behind others is something
ends_in : (es : List Effect) (e : Effect) → es ++ e ∷ [] ≡ [] → ⊥
ends_in [] e q = cc q
ends_in (y ∷ es) e q = cc q

module _ {St : Type 0} (m : Model St) (c : Program) (laws : ModelLaws m) (code : ProgramLaws m c) (scripts : ScriptsTakeInOrder m) where
  abbrev gate : ℕ
  gate = m.marks.gate

  -- what is due at a world, behind a boot or a done
  pub data Entry : Bool → World → Type 0 where
    AtTask : {booted : Bool} {x : World} (s : St) → m.Undecided s x → (booted ≡ false → m.Settled s x) → Entry booted x
    AtCommit : {x : World} (to : St) → m.Committing to x → Entry true x

  -- a whole script: what it does is in order; and behind it the next is due
  record IsScript (x : World) (inputs : Inputs) (p : ProgramEffects) : Type 0 where
    until : Taking
    follows : FollowsSeeing (Advances gate) x.fram inputs.looks Before p.effects until
    whole : p.ends ≡ true → until ≡ Before
    some : p.ends ≡ true → p.effects ≡ [] → ⊥
    next : p.ends ≡ true → Entry false (world_after p.effects x)

  -- behind a commit it rests
  rested : (Kept : World → Type 0) (to : St) (inputs : Inputs) (x : World) → CommitKeeps m Kept to inputs x
      → m.Rests to (world_after (m.commit x.fram inputs) x)
  rested Kept to inputs x k =
      let end : List Effect = Store m.marks.gate 0 ∷ [] in
      subst (λ l. m.Rests to (world_after l x)) (sym k.is) (subst (λ y. m.Rests to y) (sym (world_after-append k.before end x)) k.rests)

  rests_enter : (s : St) (x : World) → m.Rests s x → Entry false x
  rests_enter s x r = let settled = laws.rests_settled s x r in AtTask s (laws.settled_undecided s x settled) (λ e. settled)

  commit_script : (to : St) (x : World) (inputs : Inputs) → m.Committing to x → IsScript x inputs (program_effects (m.commit x.fram inputs) true)
  commit_script to x inputs holds =
      let k = laws.commits to x inputs holds in
      record {
        until = Before;
        follows = scripts.commits to x inputs holds;
        whole = λ e. refl;
        some = λ e none. ends_in k.before _ (sym k.is ∙ none);
        next = λ e. rests_enter to _ (rested (m.Committing to) to inputs x k);
      }

  -- an attempt behind a recovery
  attempt_follows : (booted : Bool) (s : St) (x : World) (inputs : Inputs) → InputsAreWords inputs → m.Undecided s x → (booted ≡ false → m.Settled s x)
      → let p = attempt_from m booted x.fram inputs in
      (u : Taking) × FollowsSeeing (Advances gate) x.fram inputs.looks Before p.effects u × (p.ends ≡ true → u ≡ Before)
  attempt_follows false s x inputs words undecided settled = scripts.attempts s x inputs words (settled refl)
  attempt_follows true s x inputs words undecided settled =
      let recovery = m.recover x.fram in
      let r = laws.recovers s x undecided in
      let y = world_after recovery x in
      let quiet : looks_taken recovery ≡ [] = ap (λ i. i.looks) r.stays.takes_none in
      let a = scripts.attempts s y inputs words r.settled in
      let first = off_ring gate recovery x.fram inputs.looks Before tt (scripts.recoveries s x undecided) quiet in
      let left : looks_after recovery inputs.looks ≡ inputs.looks =
      ap (λ l. looks_after recovery (l ++ inputs.looks)) (sym quiet) ∙ left_behind recovery inputs.looks in
      let P : (ℕ → ℕ) → Type 0 = λ f. (u : Taking) × FollowsSeeing (Advances gate) f inputs.looks Before (m.attempt f inputs).effects u
      × ((m.attempt f inputs).ends ≡ true → u ≡ Before) in
      let there = subst P (world_fram recovery x) a in
      let f = fram_after recovery x.fram in
      let Q : List Look → Type 0 = λ l. FollowsSeeing (Advances gate) f l Before (m.attempt f inputs).effects there.0 in
      (there.0, joined (Advances gate) first (subst Q (sym left) there.1), there.2)

  -- it keeps its contract
  attempt_owed : (booted : Bool) (s : St) (x : World) (inputs : Inputs) → InputsAreWords inputs → m.Undecided s x → (booted ≡ false → m.Settled s x)
      → AttemptContract m s inputs x (attempt_from m booted x.fram inputs)
  attempt_owed false s x inputs words undecided settled = laws.attempts s x inputs words (settled refl)
  attempt_owed true s x inputs words undecided settled =
      let r = laws.recovers s x undecided in
      let recovery = m.recover x.fram in
      let y = world_after recovery x in
      in_front m s x inputs recovery (m.attempt (fram_after recovery x.fram) inputs) r.stays
      (subst (λ f. AttemptContract m s inputs y (m.attempt f inputs)) (world_fram recovery x) (laws.attempts s y inputs words r.settled))

  -- where it takes these looks, it leaves the others
  looks_left : (es : List Effect) (i j : Inputs) → TakesExactly es i j → looks_after es i.looks ≡ j.looks
  looks_left es i j t = ap (looks_after es) (sym t.looks) ∙ left_behind es j.looks

  -- with its commit
  task_script : (x : World) (inputs : Inputs) (p : ProgramEffects) (s : St)
      → (u : Taking) × FollowsSeeing (Advances gate) x.fram inputs.looks Before p.effects u × (p.ends ≡ true → u ≡ Before)
      → AttemptContract m s inputs x p → IsScript x inputs (with_commit m x.fram inputs p)
  task_script x inputs p s follows (Lacks short) =
      let same : (with_commit m x.fram inputs p).effects ≡ p.effects =
      ap (λ (b : Bool). p.effects ++ (if b then m.commit (fram_after p.effects x.fram) (inputs_behind p.effects inputs) else [])) short.is
      ∙ append-nil p.effects in
      record {
        until = follows.0;
        follows = subst (λ l. FollowsSeeing (Advances gate) x.fram inputs.looks Before l follows.0) (sym same) follows.1;
        whole = follows.2;
        some = λ e. absurd (cc (short.is, e));
        next = λ e. absurd (cc (short.is, e));
      }
  task_script x inputs p s follows (Comes next d) =
      let ends : p.ends ≡ true = ap (λ q. q.ends) d.is in
      let es = p.effects in
      let y = world_after es x in
      let behind = inputs_behind es inputs in
      let effects_are : es ≡ d.before ++ Store gate 1 ∷ [] = ap (λ q. q.effects) d.is in
      let decided : m.Decided s next y =
      subst (λ l. m.Decided s next (world_after l x)) (sym effects_are)
      (subst (λ z. m.Decided s next z) (sym (world_after-append d.before (Store gate 1 ∷ []) x)) d.decided) in
      let commit = m.commit y.fram behind in
      let same : (with_commit m x.fram inputs p).effects ≡ es ++ commit =
      ap (λ (b : Bool). es ++ (if b then m.commit (fram_after es x.fram) behind else [])) ends
      ∙ ap (λ f. es ++ m.commit f behind) (sym (world_fram es x)) in
      let committing = laws.decided_committing s next y decided in
      let done = commit_script next y behind committing in
      let first : FollowsSeeing (Advances gate) x.fram inputs.looks Before es Before =
      subst (λ u. FollowsSeeing (Advances gate) x.fram inputs.looks Before es u) (follows.2 ends) follows.1 in
      let second : FollowsSeeing (Advances gate) (fram_after es x.fram) (looks_after es inputs.looks) Before commit Before =
      subst (λ (f : ℕ → ℕ). FollowsSeeing (Advances gate) f (looks_after es inputs.looks) Before commit Before) (world_fram es x)
      (subst (λ (l : List Look). FollowsSeeing (Advances gate) y.fram l Before commit Before) (sym (dropped es inputs.looks))
      (scripts.commits next y behind committing)) in
      record {
        until = Before;
        follows = subst (λ l. FollowsSeeing (Advances gate) x.fram inputs.looks Before l Before) (sym same) (joined (Advances gate) first second);
        whole = λ e. refl;
        some = λ e none. ends_in d.before (Store gate 1) (sym effects_are ∙ nothing_first es commit (sym same ∙ none));
        next = λ e. subst (λ l. Entry false (world_after l x)) (sym same)
            (subst (λ z. Entry false z) (sym (world_after-append es commit x)) (done.next refl));
      }
    where
      nothing_first : (a b : List Effect) → a ++ b ≡ [] → a ≡ []
      nothing_first [] b q = refl
      nothing_first (e ∷ a) b q = cc q

  -- what is due where a world is entered
  due : (booted : Bool) (x : World) (b : MachineBoard) → AtEntry c booted b → b.fram ≡ x.fram → InputsAreWords b.inputs → Entry booted x
      → (p : ProgramEffects) × (most : ℕ) × Makes c m.delay most p b × IsScript x b.inputs p
  due false x b entry fram words (AtTask s undecided settled) =
      let p = with_commit m x.fram b.inputs (attempt_from m false x.fram b.inputs) in
      let P : (ℕ → ℕ) → Type 0 = λ f. Makes c m.delay (m.task_cost (m.task_number s)) (with_commit m f b.inputs (attempt_from m false f b.inputs)) b in (
        p,
        m.task_cost (m.task_number s),
        subst P fram (code.makes_attempt s x b entry fram words (settled refl)),
        task_script x b.inputs (attempt_from m false x.fram b.inputs) s (attempt_follows false s x b.inputs words undecided settled)
            (attempt_owed false s x b.inputs words undecided settled),
      )
  due true x b entry fram words (AtTask s undecided settled) =
      let p = with_commit m x.fram b.inputs (attempt_from m true x.fram b.inputs) in
      let P : (ℕ → ℕ) → Type 0 = λ f. Makes c m.delay (m.task_cost (m.task_number s)) (with_commit m f b.inputs (attempt_from m true f b.inputs)) b in (
        p,
        m.task_cost (m.task_number s),
        subst P fram (code.makes_boot s x b entry fram words undecided),
        task_script x b.inputs (attempt_from m true x.fram b.inputs) s (attempt_follows true s x b.inputs words undecided settled)
            (attempt_owed true s x b.inputs words undecided settled),
      )
  due true x b entry fram words (AtCommit to holds) =
      let P : (ℕ → ℕ) → Type 0 = λ f. Makes c m.delay (bound m) (program_effects (m.commit f b.inputs) true) b in
      (program_effects (m.commit x.fram b.inputs) true, bound m, subst P fram (code.makes_commit to x b entry fram holds), commit_script to x b.inputs holds)

  abbrev Does : MachineBoard → ℕ → Type 0
  Does b n = (u : Taking) × FollowsSeeing (Advances gate) b.fram b.inputs.looks Before (going c.step n b).effects u

  -- a part of a script
  part : (x : World) (b : MachineBoard) (n : ℕ) (es rest : List Effect) (u : Taking) → b.fram ≡ x.fram
      → FollowsSeeing (Advances gate) x.fram b.inputs.looks Before es u → (going c.step n b).effects ++ rest ≡ es → Does b n
  part x b n es rest u fram follows e =
      let P : List Effect → Type 0 = λ l. FollowsSeeing (Advances gate) b.fram b.inputs.looks Before l u in
      first_part (Advances gate) (going c.step n b).effects rest
      (subst P (sym e) (subst (λ (f : ℕ → ℕ). FollowsSeeing (Advances gate) f b.inputs.looks Before es u) (sym fram) follows))

  -- what so few steps do from where a world is entered
  abbrev DoesFrom : ℕ → ℕ → Bool → Type 0
  DoesFrom fuel n booted = n < fuel → (x : World) (b t : MachineBoard) → AtEntry c booted b → b.fram ≡ x.fram → InputsAreWords b.inputs → Entry booted x
      → (going c.step n b).status ≡ At t → Does b n

  module _ (n : ℕ) (x : World) (b t : MachineBoard) (fram : b.fram ≡ x.fram) (words : InputsAreWords b.inputs) (at : (going c.step n b).status ≡ At t)
      (p : ProgramEffects) (most : ℕ) (mk : Makes c m.delay most p b) (script : IsScript x b.inputs p) where
    -- a script that comes to its end, and what follows it
    whole : (fuel : ℕ) → n < suc fuel → p.ends ≡ true → ((k : ℕ) → DoesFrom fuel k false) → Does b n
    whole fuel less e again =
        let r = mk.ends e in
        let end = r.end in
        let some = some_steps c.step mk.steps p.effects mk.cycles b end r.leads (script.some e) in
        let here = r.leads.by 0 in
        ⊎_elim {C = Does b n}
        (λ fewer.
        let k = mk.steps - n in
        let i : n + k ≡ mk.steps + 0 = omega (arith, fewer) in
        let a = part_of c.step n k b t at in
        part x b n (p.effects ++ []) a.0 script.until fram
        (subst (λ l. FollowsSeeing (Advances gate) x.fram b.inputs.looks Before l script.until) (sym (append-nil p.effects)) script.follows)
        (a.1 ∙ ap (λ j. (going c.step j b).effects) i ∙ ap (λ q. q.effects) here))
        (λ more.
        let k = n - mk.steps in
        let i : mk.steps + k ≡ n = omega (arith, more) in
        let on = r.leads.by k in
        let there : going c.step n b ≡ after_effects p.effects mk.cycles (going c.step k end) = ap (λ j. going c.step j b) (sym i) ∙ on in
        let led : (going c.step (mk.steps + 0) b).status ≡ At end = ap (λ q. q.status) here in
        let made : (going c.step (mk.steps + 0) b).effects ≡ p.effects = ap (λ q. q.effects) here ∙ append-nil p.effects in
        let change = changed c.step code.changes (mk.steps + 0) b end led in
        let fram_there : end.fram ≡ fram_after p.effects b.fram = change.fram ∙ ap (λ l. fram_after l b.fram) made in
        let taken : TakesExactly p.effects b.inputs end.inputs = subst (λ l. TakesExactly l b.inputs end.inputs) made change.inputs in
        let y = world_after p.effects x in
        let fram_behind : end.fram ≡ y.fram = fram_there ∙ ap (fram_after p.effects) fram ∙ sym (world_fram p.effects x) in
        let rest = again k (omega (arith, less, more, some)) y end t r.at_start fram_behind (left_are_words p.effects b.inputs end.inputs taken words)
        (script.next e) (ap (λ q. q.status) (sym there) ∙ at) in
        let first : FollowsSeeing (Advances gate) b.fram b.inputs.looks Before p.effects Before =
        subst (λ (f : ℕ → ℕ). FollowsSeeing (Advances gate) f b.inputs.looks Before p.effects Before) (sym fram)
        (subst (λ u. FollowsSeeing (Advances gate) x.fram b.inputs.looks Before p.effects u) (script.whole e) script.follows) in
        let looks = looks_after p.effects b.inputs.looks in
        let more_effects = (going c.step k end).effects in
        let second : FollowsSeeing (Advances gate) (fram_after p.effects b.fram) looks Before more_effects rest.0 =
        subst (λ (f : ℕ → ℕ). FollowsSeeing (Advances gate) f looks Before more_effects rest.0) fram_there
        (subst (λ (l : List Look). FollowsSeeing (Advances gate) end.fram l Before more_effects rest.0)
        (sym (looks_left p.effects b.inputs end.inputs taken)) rest.1) in
        let P : List Effect → Type 0 = λ l. FollowsSeeing (Advances gate) b.fram b.inputs.looks Before l rest.0 in
        (rest.0, subst P (ap (λ q. q.effects) (sym there)) (joined (Advances gate) {v = rest.0} first second)))
        (cases_lt n mk.steps)

    -- one that is short
    short : p.ends ≡ false → Does b n
    short e =
        let r = mk.lacks e in
        let a = part_of c.step n (mk.steps + 1) b t at in
        let i : n + (mk.steps + 1) ≡ mk.steps + suc n = omega arith in
        part x b n p.effects a.0 script.until fram script.follows
        (a.1 ∙ ap (λ j. (going c.step j b).effects) i ∙ ap (λ q. q.effects) (r.stalls.by n))

  -- so many steps from where a world is entered are in order
  pub goes_so : (fuel n : ℕ) (booted : Bool) → DoesFrom fuel n booted
  goes_so zero n booted less x b t entry fram words enters at = absurd (omega (arith, less))
  goes_so (suc fuel) n booted less x b t entry fram words enters at =
      let d = due booted x b entry fram words enters in
      by_value d.0.ends (λ e. whole n x b t fram words at d.0 d.1 d.2 d.3 fuel less e (λ k. goes_so fuel k false))
      (λ e. short n x b t fram words at d.0 d.1 d.2 d.3 e)
