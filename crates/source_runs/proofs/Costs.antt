-- What the transitions of a run cost, read off its moments, is what its dones do that are read off its effects.
use Rattle.std.proofs.Common.{◌≡◌, ℕ, ◌+◌, ◌<◌, refl, sym, ap, ap₂, ◌∙◌, subst, arith, Bool, true, false, cond, if◌then◌else◌, ne_eqb, List, [], ◌∷◌, ◌++◌}
use Rattle.std.proofs.Common.{length, append_assoc, append-nil, Option}
use Rattle.std.proofs.lemmas.List.{append_cancel_left}
use Rattle.std.specs.Prelude.{◌&&◌, ◌==◌}
use Rattle.alp_io.specs.Count.{risen}
use Rattle.image_map.specs.MapValue.{MapValue}
use Rattle.image_map.specs.Kept.{IsMap}
use Rattle.fram_board.specs.declared.board.Stepped.{Stepped}
use Rattle.fram_board.specs.Board.{BoardValue}
use Rattle.fram_board.specs.Run.{StepKind, Moment}
use Rattle.board_run.specs.History.{noted, is_done, word_in}
use Rattle.board_run.specs.History as board
use Rattle.machine_effects.specs.World.{World}
use Rattle.crash_rules.specs.Model.{Marks}
use Rattle.crash_rules.specs.History.{Done, History, is_decide, behind_decide, behind_done, behind_gate}
use Rattle.crash_rules.specs.Laws.{TaskCosts, next_cost, costs_of, IsSpentOn}
use Rattle.crash_rules.proofs.Interface.{with_effects}
use Rattle.run_charges.specs.View.{outside_effects}
use Rattle.run_charges.specs.Moments.{IsMomentFrom, AreMoments}
use Rattle.run_charges.proofs.Interface.{stepped, Steps, IsPowerOrStep, IsPower, IsStepped, moment_is}
use Rattle.run_charges.specs.Charges.{behind_moment, observed}
use Rattle.model_runs.specs.Events.{marks_of, IsInFront, counted, last_world, SaysTheSame}
use Rattle.model_runs.proofs.Interface.{Together, together_on, observed_so, moment_leads}
use Rattle.source_runs.specs.Tells.{cost_due, costs_by, costs_in}

-- what transitions cost by worlds, where each task costs so much: CUR names the task. A commit that was pending at the start costs the bound
abbrev pub task_costs : MapValue → (ℕ → ℕ) → Bool → World → TaskCosts
task_costs m cost pending x = record {
  first = if pending then m.bound else cost (x.fram m.words.current_task);
  behind = λ y. cost (y.fram m.words.current_task);
}

and_true : (p : Bool) → (p && true) ≡ p
and_true true = refl
and_true false = refl

and_false : (p : Bool) → (p && false) ≡ false
and_false true = refl
and_false false = refl

-- a count that was raised isn't 0
is_raised : (n : ℕ) → (risen n == 0) ≡ false
is_raised n = ne_eqb (risen n) 0 (λ e. omega (arith, e))

-- behind more dones
next_behind : (behind : World → ℕ) (first : ℕ) (ds es : List Done) → next_cost behind first (ds ++ es) ≡ next_cost behind (next_cost behind first ds) es
next_behind behind first [] es = refl
next_behind behind first (d ∷ ds) es = next_behind behind (behind d.world) ds es

module _ (m : MapValue) (x : World) (ok : IsMap m) (front : IsInFront m) (cost : ℕ → ℕ) (pending : Bool) where
  abbrev gate : ℕ
  gate = m.words.gate

  abbrev marks : Marks
  marks = marks_of m

  abbrev behind : World → ℕ
  behind y = cost (y.fram m.words.current_task)

  abbrev first : ℕ
  first = if pending then m.bound else cost (x.fram m.words.current_task)

  abbrev due : board.History → ℕ
  due h = cost_due m cost pending h

  -- the world of the last done says what the next transition costs
  next_is_last : (c : ℕ) (y : World) (d : Done) (ds : List Done) → next_cost behind c (d ∷ ds) ≡ behind (last_world y (d ∷ ds))
  next_is_last c y d [] = refl
  next_is_last c y d (e ∷ es) = next_is_last (behind d.world) d.world e es

  due_by : (ds : List Done) (count task : ℕ) → count ≡ counted (length ds) → task ≡ (last_world x ds).fram m.words.current_task
      → (if pending && (count == 0) then m.bound else cost task) ≡ next_cost behind first ds
  due_by [] count task c t = ap₂ (λ n k. if pending && (n == 0) then m.bound else cost k) c t
      ∙ ap (λ p. if p then m.bound else cost (x.fram m.words.current_task)) (and_true pending)
  due_by (d ∷ ds) count task c t =
      ap₂ (λ n k. if pending && (n == 0) then m.bound else cost k) c t
      ∙ ap (λ p. if pending && p then m.bound else behind (last_world x (d ∷ ds))) (is_raised (counted (length ds)))
      ∙ ap (λ p. if p then m.bound else behind (last_world x (d ∷ ds))) (and_false pending)
      ∙ sym (next_is_last first x d ds)

  -- what is due by the moments' history is due by the effects'
  due_is : (h : board.History) (k : History) → SaysTheSame m x h k → due h ≡ next_cost behind first k.completed
  due_is h k same = due_by k.completed h.completed h.task same.alike.completed same.alike.task

  -- dones that cost what was completed, and what is due behind them
  abbrev Costs : ℕ → ℕ → List Done → Type 0
  Costs now completed more = (ds : List Done) → costs_of behind now (more ++ ds) ≡ completed + costs_of behind (next_cost behind now more) ds

  none_cost : (now : ℕ) → Costs now 0 []
  none_cost now ds = omega arith

  one_costs : (now : ℕ) (d : Done) → Costs now now (d ∷ [])
  one_costs now d ds = refl

  -- the dones that a moment adds, and their costs
  record Adds (before after : List Done) (now completed : ℕ) : Type 0 where
    pub more : List Done
    pub grown : after ≡ before ++ more
    pub costs : Costs now completed more

  event_adds : (before after now : ℕ) (k : History)
      → Adds k.completed (behind_gate marks before after k).completed now (if is_done before after then now else 0)
  event_adds before after now k =
      elim (is_done before after) as (λ p. Adds k.completed (cond p (behind_done k) (cond (is_decide before after) (behind_decide marks k) k)).completed now
      (if p then now else 0)) [
        | true ↦
            let d : Done = record { span_from = k.span_from; span_to = k.span_to; answers = k.answers; world = k.world } in
            record { more = d ∷ []; grown = refl; costs = one_costs now d }
        | false ↦ elim (is_decide before after) as (λ q. Adds k.completed (cond q (behind_decide marks k) k).completed now 0) [
          | true ↦ record { more = []; grown = sym (append-nil k.completed); costs = none_cost now }
          | false ↦ record { more = []; grown = sym (append-nil k.completed); costs = none_cost now }
        ]
      ]

  -- of a moment by the two histories
  abbrev MomentAdds : board.History → History → Moment → Type 0
  MomentAdds h k o = Adds k.completed (behind_moment marks o k).completed (next_cost behind first k.completed) (costs_by due m h o.action o.after)

  step_adds : (b : BoardValue) (h : board.History) (k : History) → Together m x b h k → (kind : StepKind) (done : Stepped) (offered : Option ℕ)
      (after : BoardValue) → Steps b (stepped b kind done offered after) → MomentAdds h k (stepped b kind done offered after)
  step_adds b h k t kind done offered after step =
      let o = stepped b kind done offered after in
      let moved = with_effects (outside_effects o) k in
      let was : ℕ = k.world.fram gate in
      let now : ℕ = word_in after.fram gate in
      let c = next_cost behind first k.completed in
      let seen : (behind_moment marks o k).completed ≡ (behind_gate marks was now moved).completed = ap (λ y. y.completed)
      (observed_so m x ok front b h k t kind done offered after step) in
      let paid : (if is_done was now then c else 0) ≡ (if is_done h.gate now then due h else 0) =
      ap₂ (λ g n. if is_done g now then n else 0) (sym t.same.gate) (sym (due_is h k t.same)) in
      let P : List Done → Type 0 = λ ds. Adds k.completed ds c (costs_by due m h o.action o.after) in
      subst P (sym seen) (subst (Adds k.completed (behind_gate marks was now moved).completed c) paid (event_adds was now c moved))

  adds_by : (b : BoardValue) (h : board.History) (k : History) → Together m x b h k → (o : Moment) → IsPowerOrStep b o → MomentAdds h k o
  adds_by b h k t o (IsPower p start e) =
      let P : Moment → Type 0 = λ y. MomentAdds h k y in
      subst P (sym e) (record { more = []; grown = sym (append-nil k.completed); costs = none_cost (next_cost behind first k.completed) })
  adds_by b h k t o (IsStepped s) =
      let P : Moment → Type 0 = λ y. Steps b y → MomentAdds h k y in
      subst P (sym s.is) (λ step. step_adds b h k t s.kind s.done s.offered s.after step) s

  moment_adds : (b : BoardValue) (h : board.History) (k : History) → Together m x b h k → (o : Moment) → IsMomentFrom b o → MomentAdds h k o
  moment_adds b h k t o from = adds_by b h k t o (moment_is b o t.whole t.words from)

  -- all moments: the dones that they add cost what is read off them
  record AllAdd (before after : List Done) (all : ℕ) : Type 0 where
    pub more : List Done
    pub grown : after ≡ before ++ more
    pub costs : costs_of behind (next_cost behind first before) more ≡ all

  add_more : (before next end : List Done) (completed all : ℕ) → Adds before next (next_cost behind first before) completed → AllAdd next end all
      → AllAdd before end (completed + all)
  add_more before next end completed all one rest =
      let same : next_cost behind first next ≡ next_cost behind (next_cost behind first before) one.more =
      ap (next_cost behind first) one.grown ∙ next_behind behind first before one.more in
      record {
        more = one.more ++ rest.more;
        grown = rest.grown ∙ ap (λ l. l ++ rest.more) one.grown ∙ append_assoc before one.more rest.more;
        costs = one.costs rest.more
            ∙ ap (λ n. completed + costs_of behind n rest.more) (sym same)
            ∙ ap (λ n. completed + n) rest.costs;
      }

  moments_add : (b : BoardValue) (h : board.History) (k : History) (ms : List Moment) → Together m x b h k → AreMoments b ms
      → AllAdd k.completed (observed marks ms k).completed (costs_in due m h ms)
  moments_add b h k [] t are = record { more = []; grown = sym (append-nil k.completed); costs = sym (due_is h k t.same) }
  moments_add b h k (o ∷ ms) t are =
      let j = behind_moment marks o k in
      let here = together_on m x b o.before h k are.0 t in
      let one = moment_leads m x ok front o.before h k here o are.1 in
      add_more k.completed j.completed (observed marks ms j).completed (costs_by due m h o.action o.after) (costs_in due m (noted h o) ms)
      (moment_adds o.before h k here o are.1) (moments_add o.after (noted h o) j ms one.together are.2)

  -- so an amount that was spent is less, beside what else it was spent on
  pub less_than_read : (amount beside : ℕ) (b : BoardValue) (h : board.History) (k : History) (ms : List Moment) → Together m x b h k → AreMoments b ms
      → IsSpentOn (task_costs m cost pending x) beside amount k.completed (observed marks ms k).completed → amount < costs_in due m h ms + beside
  less_than_read amount beside b h k ms t are spent =
      let all = moments_add b h k ms t are in
      let same : all.more ≡ spent.dones = append_cancel_left k.completed all.more spent.dones (sym all.grown ∙ spent.completed) in
      let costs : costs_of behind (next_cost behind first k.completed) spent.dones ≡ costs_in due m h ms =
      ap (costs_of behind (next_cost behind first k.completed)) (sym same) ∙ all.costs in
      let less = spent.less in
      omega (arith, less, costs)
