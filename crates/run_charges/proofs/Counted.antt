-- What is observed of the moments of a run tells of the board behind them: the words accepted, and how many readings were taken.
use Rattle.std.proofs.Common.{◌≡◌, ℕ, ◌%◌, sym, ap, ◌∙◌, subst, List, [], ◌∷◌, ◌++◌, length, append_assoc, append-nil}
use Rattle.fram_board.specs.Board.{BoardValue, next_number, PowerState, powered}
use Rattle.fram_board.specs.Saved.{TakesNextBehind}
use Rattle.fram_board.specs.Steps.{IsPowerState}
use Rattle.fram_board.specs.Effects.{Effect}
use Rattle.fram_board.specs.Run.{Moment, accepted_by, accepted_words, BoardCharge, RunOutcome}
use Rattle.machine_effects.specs.World.{accepted_after}
use Rattle.machine_effects.specs.View.{IsWhole, IsOfWords}
use Rattle.machine_effects.specs.Runs.{last_board}
use Rattle.machine_effects.proofs.Interface.{world_by_its_parts, power_up_keeps_words}
use Rattle.crash_rules.specs.Model.{Marks}
use Rattle.crash_rules.specs.History.{History, observe, behind_boot}
use Rattle.crash_rules.proofs.Interface.{observed_world, observed_taken}
use Rattle.run_charges.specs.View.{outside_effects}
use Rattle.run_charges.specs.Moments.{Follows, IsMomentFrom, AreMoments}
use Rattle.run_charges.specs.Charges.{behind_moment, observed}
use Rattle.run_charges.specs.Laws.{IsProgramRun}
use Rattle.run_charges.proofs.View.{follows_keeps}
use Rattle.run_charges.proofs.Moments.{front_moments, Steps, IsPowerOrStep, IsPower, IsStepped, moment_is, step_is_observed}

-- the words accepted and the readings taken are a board's
pub record Counts (b : BoardValue) (h : History) (ws : List ℕ) : Type 0 where
  pub whole : IsWhole b
  pub words : IsOfWords b
  pub accepted : h.world.accepted ≡ ws
  pub count : TakesNextBehind ws b.receiver
  pub taken : h.taken ≡ b.taken

-- also where the next moment begins
counts_on : (b c : BoardValue) (h : History) (ws : List ℕ) → Follows b c → Counts b h ws → Counts c h ws
counts_on b c h ws f k =
    let keeps = follows_keeps b c f in
    record {
      whole = keeps.whole k.whole;
      words = keeps.words k.words;
      accepted = k.accepted;
      count = k.count ∙ sym keeps.number;
      taken = k.taken ∙ sym keeps.taken;
    }

module _ (marks : Marks) where
  power_counts : (b : BoardValue) (h : History) (ws : List ℕ) (p : PowerState) → Counts b h ws → IsPowerState p
      → Counts (powered b p) (behind_boot h) (ws ++ [])
  power_counts b h ws p k ok =
      let up = power_up_keeps_words b p k.whole k.words ok in
      let P : List ℕ → Type 0 = λ l. Counts (powered b p) (behind_boot h) l in
      subst P (sym (append-nil ws)) (record { whole = up.0; words = up.1; accepted = k.accepted; count = k.count; taken = k.taken })

  step_counts : (b : BoardValue) (h : History) (ws : List ℕ) (m : Moment) → Counts b h ws → Steps b m
      → Counts m.after (behind_moment marks m h) (ws ++ accepted_by m.action)
  step_counts b h ws m k s =
      let es : List Effect = outside_effects m in
      let heard = s.accepted ws k.count in
      let now : Counts m.after (observe marks es h) (ws ++ accepted_by m.action) = record {
        whole = s.whole;
        words = s.words;
        accepted = ap (λ w. w.accepted) (observed_world marks es h ∙ world_by_its_parts es h.world) ∙ ap (accepted_after es) k.accepted ∙ heard;
        count = sym (ap (λ (ws : List ℕ). length ws % 0x10000) heard) ∙ s.counted ws k.count;
        taken = observed_taken marks es h ∙ s.taken h k.taken;
      } in
      let P : History → Type 0 = λ j. Counts m.after j (ws ++ accepted_by m.action) in
      subst P (sym (step_is_observed marks b m h s)) now

  by_kind : (b : BoardValue) (h : History) (ws : List ℕ) (m : Moment) → Counts b h ws → IsPowerOrStep b m
      → Counts m.after (behind_moment marks m h) (ws ++ accepted_by m.action)
  by_kind b h ws m k (IsPower p ok e) =
      let P : Moment → Type 0 = λ y. Counts y.after (behind_moment marks y h) (ws ++ accepted_by y.action) in
      subst P (sym e) (power_counts b h ws p k ok)
  by_kind b h ws m k (IsStepped s) = step_counts b h ws m k s

  moment_counts : (b : BoardValue) (h : History) (ws : List ℕ) (m : Moment) → Counts b h ws → IsMomentFrom b m
      → Counts m.after (behind_moment marks m h) (ws ++ accepted_by m.action)
  moment_counts b h ws m k from = by_kind b h ws m k (moment_is b m k.whole k.words from)

  pub moments_count : (b : BoardValue) (h : History) (ws : List ℕ) (ms : List Moment) → Counts b h ws → AreMoments b ms
      → Counts (last_board b ms) (observed marks ms h) (ws ++ accepted_words ms)
  moments_count b h ws [] k all = let P : List ℕ → Type 0 = λ l. Counts b h l in subst P (sym (append-nil ws)) k
  moments_count b h ws (m ∷ ms) k all =
      let one = moment_counts m.before h ws m (counts_on b m.before h ws all.0 k) all.1 in
      let j = behind_moment marks m h in
      let P : List ℕ → Type 0 = λ l. Counts (last_board m.after ms) (observed marks ms j) l in
      subst P (append_assoc ws (accepted_by m.action) (accepted_words ms)) (moments_count m.after j (ws ++ accepted_by m.action) ms one all.2)

  -- from a board whose receiver takes its first word next
  pub front_counts : (cs : List BoardCharge) (b : BoardValue) (r : RunOutcome) (h : History) → IsProgramRun cs b r → h.world.accepted ≡ []
      → next_number b.receiver ≡ 0 → h.taken ≡ b.taken → (ms rest : List Moment) → r.moments ≡ ms ++ rest
      → Counts (last_board b ms) (observed marks ms h) (accepted_words ms)
  front_counts cs b r h run none count taken ms rest e =
      moments_count b h [] ms (record { whole = run.of_words.whole; words = run.of_words.words; accepted = none; count = sym count; taken = taken })
      (front_moments b r ms rest run.moments e)
