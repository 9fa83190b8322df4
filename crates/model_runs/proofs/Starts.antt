-- The world at the last boot or done is the world of a front.
use Rattle.std.proofs.Common.{◌≡◌, ℕ, refl, sym, ap, ◌∙◌, subst, true, false, cond, List, [], ◌∷◌, ◌++◌}
use Rattle.fram_board.specs.Board.{BoardValue}
use Rattle.fram_board.specs.Effects.{Effect}
use Rattle.fram_board.specs.Run.{Moment}
use Rattle.machine_effects.specs.World.{World, world_after}
use Rattle.machine_effects.specs.View.{IsWhole, IsOfWords}
use Rattle.machine_effects.proofs.Interface.{power_up_keeps_words}
use Rattle.crash_rules.specs.Model.{Marks}
use Rattle.crash_rules.specs.History.{History, is_done, is_decide, behind_done, behind_decide, behind_gate}
use Rattle.crash_rules.proofs.Interface.{with_effects, observed_world}
use Rattle.run_charges.specs.View.{outside_effects}
use Rattle.run_charges.specs.Moments.{IsMomentFrom, AreMoments}
use Rattle.run_charges.specs.Charges.{behind_moment, observed}
use Rattle.run_charges.proofs.Interface.{follows_keeps, Steps, IsPowerOrStep, IsPower, IsStepped, moment_is, step_is_observed}
use Rattle.model_runs.proofs.Events.{seen}

-- behind a change of GATE the last boot or done is the one before, or now
gate_start : (P : World → Type 0) (marks : Marks) (before now : ℕ) (h : History) → P h.start → P h.world → P (behind_gate marks before now h).start
gate_start P marks before now h start world =
    elim (is_done before now) as (λ b. P (cond b (behind_done h) (cond (is_decide before now) (behind_decide marks h) h)).start) [
      | true ↦ world
      | false ↦ elim (is_decide before now) as (λ b. P (cond b (behind_decide marks h) h).start) [ true ↦ start | false ↦ start ]
    ]

module _ (P : World → Type 0) (marks : Marks) where
  -- what is known of a history, and of the board that it tells of
  record Begun (b : BoardValue) (k : History) : Type 0 where
    pub whole : IsWhole b
    pub words : IsOfWords b
    pub start : P k.start
    pub world : P k.world

  -- a step
  behind_step : (b : BoardValue) (k : History) → Begun b k → (m : Moment) → Steps b m → P (behind_moment marks m k).world
      → Begun m.after (behind_moment marks m k)
  behind_step b k h m s now =
      let es : List Effect = outside_effects m in
      let observed_so = step_is_observed marks b m k s in
      let Q : History → Type 0 = λ y. P y.start in
      let world : P (world_after es k.world) = subst P (ap (λ (y : History). y.world) observed_so ∙ observed_world marks es k) now in
      record {
        whole = s.whole;
        words = s.words;
        start = subst Q (sym (observed_so ∙ seen marks es k s.one))
            (gate_start P marks (k.world.fram marks.gate) ((world_after es k.world).fram marks.gate) (with_effects es k) h.start world);
        world = now;
      }

  begun_by : (b : BoardValue) (k : History) → Begun b k → (m : Moment) → IsPowerOrStep b m → P (behind_moment marks m k).world
      → Begun m.after (behind_moment marks m k)
  begun_by b k h m (IsPower p ok e) now =
      let Q : Moment → Type 0 = λ y. Begun y.after (behind_moment marks y k) in
      let up = power_up_keeps_words b p h.whole h.words ok in
      subst Q (sym e) (record { whole = up.0; words = up.1; start = h.world; world = h.world })
  begun_by b k h m (IsStepped s) now = behind_step b k h m s now

  begun_behind : (b : BoardValue) (k : History) → Begun b k → (m : Moment) → IsMomentFrom b m → P (behind_moment marks m k).world
      → Begun m.after (behind_moment marks m k)
  begun_behind b k h m from now = begun_by b k h m (moment_is b m h.whole h.words from) now

  -- what holds of the world at each front, and at first of the last boot or done, holds of the last boot or done behind all moments
  pub starts_hold : (b : BoardValue) (k : History) (ms : List Moment) → IsWhole b → IsOfWords b → AreMoments b ms → P k.start
      → ((ns rest : List Moment) → ms ≡ ns ++ rest → P (observed marks ns k).world) → P (observed marks ms k).start
  starts_hold b k [] whole words are start fronts = start
  starts_hold b k (m ∷ ms) whole words are start fronts =
      let keeps = follows_keeps b m.before are.0 in
      let here : Begun m.before k =
      record { whole = keeps.whole whole; words = keeps.words words; start = start; world = fronts [] (m ∷ ms) refl } in
      let next = begun_behind m.before k here m are.1 (fronts (m ∷ []) ms refl) in
      starts_hold m.after (behind_moment marks m k) ms next.whole next.words are.2 next.start
      (λ ns rest e. fronts (m ∷ ns) rest (ap (λ l. m ∷ l) e))
