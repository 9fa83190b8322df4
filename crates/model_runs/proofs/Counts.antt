-- How many dones a run has at most, and how many readings it takes.
use Rattle.std.proofs.Common.{◌≡◌, ℕ, ◌+◌, ◌-◌, ◌≤◌, refl, sym, ap, ◌∙◌, subst, arith, true, false, cond, List, [], ◌∷◌, length, length-append, Ok}
use Rattle.fram_board.specs.Board.{BoardValue, PowerState, powered, performed, at_boundary}
use Rattle.fram_board.specs.Steps.{IsPowerState}
use Rattle.fram_board.specs.Effects.{Effect}
use Rattle.fram_board.specs.Run.{Measure, price, Moment, Charges, Stopped, RunOutcome, run_outcome, BoardCharge, ChargeRun, Spent}
use Rattle.fram_board.specs.Run.{NoInstruction}
use Rattle.fram_board.specs.Run.{TooDear, Refused, Executed, Run, Over, Next, Last}
use Rattle.fram_board.proofs.Interface.{price_low}
use Rattle.machine_effects.specs.World.{world_after}
use Rattle.machine_effects.specs.View.{IsWhole, IsOfWords}
use Rattle.machine_effects.specs.Runs.{last_board}
use Rattle.machine_effects.proofs.Interface.{power_up_keeps_words}
use Rattle.crash_rules.specs.Model.{Marks}
use Rattle.crash_rules.specs.History.{History, is_done, is_decide, behind_boot, behind_done, behind_decide, behind_gate, observe}
use Rattle.crash_rules.proofs.Interface.{observed_taken, with_effects}
use Rattle.run_charges.specs.View.{outside_effects}
use Rattle.run_charges.specs.Moments.{IsMomentFrom, AreMoments}
use Rattle.run_charges.specs.Charges.{behind_moment, observed}
use Rattle.run_charges.proofs.Interface.{follows_keeps, Steps, IsPowerOrStep, IsPower, IsStepped, moment_is, step_is_observed}
use Rattle.model_runs.proofs.Events.{seen}
use Rattle.run_charges.specs.Laws.{IsProgramRun}
use Rattle.model_runs.specs.Runs.{all_amounts}
use Rattle.model_runs.specs.Laws.{DonesAreFew, TakesWhatIsThere}

-- a charge has no more instructions than it pays for
charge_short : (m : Measure) (left : ℕ) (b : BoardValue) (r : RunOutcome) → ChargeRun m left b r → length r.moments ≤ left
charge_short m left b r (Spent _ _ none) = omega arith
charge_short m left b r (NoInstruction _ _ e pos h) = omega arith
charge_short m left b r (TooDear _ _ i pos c dear) = omega arith
charge_short m left b r (Refused _ _ i e pos c paid a) = omega arith
charge_short m left b r (Executed _ _ i done rest pos c paid a h) =
    let more = charge_short m (left - price m i) (at_boundary (performed b i).board) rest h in
    let low = price_low m i in
    omega (arith, more, low, paid)

run_short : (cs : List BoardCharge) (b : BoardValue) (r : RunOutcome) → Run cs b r → length r.moments ≤ all_amounts cs
run_short cs b r (Over _) = omega arith
run_short cs b r (Next c ds _ ms end rest one more) =
    let own = charge_short c.measure c.amount (powered b c.start) (run_outcome ms Charges end) one in
    let others = run_short ds end rest more in
    let both = length-append ms rest.moments in
    omega (arith, own, others, both)
run_short cs b r (Last c ds _ ms stop end one) =
    let own = charge_short c.measure c.amount (powered b c.start) (run_outcome ms (Stopped stop) end) one in
    omega (arith, own)

-- what an event makes of the dones and the positions
record AddsOne (h k : History) : Type 0 where
  pub dones : length k.completed ≤ length h.completed + 1
  pub since : h.since ≤ h.taken → k.since ≤ k.taken

event_adds : (marks : Marks) (before now : ℕ) (h : History) → AddsOne h (behind_gate marks before now h)
event_adds marks before now h =
    let more = length-append h.completed (record { span_from = h.span_from; span_to = h.span_to; answers = h.answers; world = h.world } ∷ []) in
    elim (is_done before now) as (λ b. AddsOne h (cond b (behind_done h) (cond (is_decide before now) (behind_decide marks h) h))) [
      | true ↦ record { dones = omega (arith, more); since = λ l. omega arith }
      | false ↦ elim (is_decide before now) as (λ b. AddsOne h (cond b (behind_decide marks h) h)) [
        | true ↦ record { dones = omega arith; since = λ l. l }
        | false ↦ record { dones = omega arith; since = λ l. l }
      ]
    ]

-- what a moment makes of them
record Counts (b : BoardValue) (h : History) (t : BoardValue) (k : History) (n : ℕ) : Type 0 where
  pub whole : IsWhole t
  pub words : IsOfWords t
  pub dones : length k.completed ≤ length h.completed + n
  pub since : h.since ≤ h.taken → k.since ≤ k.taken
  pub taken : h.taken ≡ b.taken → k.taken ≡ t.taken
  pub readings : t.readings ≡ b.readings

power_counts : (marks : Marks) (b : BoardValue) (h : History) (p : PowerState) → IsWhole b → IsOfWords b → IsPowerState p
    → Counts b h (powered b p) (behind_boot h) 1
power_counts marks b h p w q ok =
    let up = power_up_keeps_words b p w q ok in
    record { whole = up.0; words = up.1; dones = omega arith; since = λ l. omega arith; taken = λ e. e; readings = refl }

step_counts : (marks : Marks) (b : BoardValue) (h : History) (m : Moment) → Steps b m → Counts b h m.after (behind_moment marks m h) 1
step_counts marks b h m s =
    let es : List Effect = outside_effects m in
    let P : History → Type 0 = λ k. AddsOne (with_effects es h) k in
    let Q : History → Type 0 = λ k. Counts b h m.after k 1 in
    let one : AddsOne (with_effects es h) (observe marks es h) = subst P (sym (seen marks es h s.one))
    (event_adds marks (h.world.fram marks.gate) ((world_after es h.world).fram marks.gate) (with_effects es h)) in
    let now : Counts b h m.after (observe marks es h) 1 = record {
      whole = s.whole;
      words = s.words;
      dones = one.dones;
      since = λ l. one.since (omega (arith, l));
      taken = λ e. observed_taken marks es h ∙ s.taken h e;
      readings = s.readings;
    } in
    subst Q (sym (step_is_observed marks b m h s)) now

counts_by : (marks : Marks) (b : BoardValue) (h : History) (m : Moment) → IsWhole b → IsOfWords b → IsPowerOrStep b m
    → Counts b h m.after (behind_moment marks m h) 1
counts_by marks b h m w q (IsPower p ok e) =
    let P : Moment → Type 0 = λ y. Counts b h y.after (behind_moment marks y h) 1 in
    subst P (sym e) (power_counts marks b h p w q ok)
counts_by marks b h m w q (IsStepped s) = step_counts marks b h m s

moment_counts : (marks : Marks) (b : BoardValue) (h : History) (m : Moment) → IsWhole b → IsOfWords b → IsMomentFrom b m
    → Counts b h m.after (behind_moment marks m h) 1
moment_counts marks b h m w q from = counts_by marks b h m w q (moment_is b m w q from)

moments_count : (marks : Marks) (b : BoardValue) (h : History) (ms : List Moment) → IsWhole b → IsOfWords b → AreMoments b ms
    → Counts b h (last_board b ms) (observed marks ms h) (length ms)
moments_count marks b h [] w q all =
    record { whole = w; words = q; dones = omega arith; since = λ l. l; taken = λ e. e; readings = refl }
moments_count marks b h (m ∷ ms) w q all =
    let k = behind_moment marks m h in
    let keeps = follows_keeps b m.before all.0 in
    let one = moment_counts marks m.before h m (keeps.whole w) (keeps.words q) all.1 in
    let more = moments_count marks m.after k ms one.whole one.words all.2 in
    let x = one.dones in
    let y = more.dones in
    record {
      whole = more.whole;
      words = more.words;
      dones = omega (arith, x, y);
      since = λ l. more.since (one.since l);
      taken = λ e. more.taken (one.taken (e ∙ sym keeps.taken));
      readings = more.readings ∙ one.readings ∙ keeps.readings;
    }

run_counts : (cs : List BoardCharge) (b : BoardValue) (r : RunOutcome) → IsProgramRun cs b r → (marks : Marks) (h : History)
    → Counts b h (last_board b r.moments) (observed marks r.moments h) (length r.moments)
run_counts cs b r run marks h = moments_count marks b h r.moments run.of_words.whole run.of_words.words run.moments

-- a run has no more dones than its charges have cycles or instructions
pub dones_are_few : DonesAreFew
dones_are_few cs b r run marks h =
    let few = (run_counts cs b r run marks h).dones in
    let short = run_short cs b r run.of_words.run in
    omega (arith, few, short)

within : (s t n k : ℕ) → s ≤ t → t ≤ n → n ≡ k → s ≤ k
within s t n k a b e = omega arith

-- no more readings are taken than there are
pub takes_what_is_there : TakesWhatIsThere
takes_what_is_there cs b r run marks h at since =
    let all = run_counts cs b r run marks h in
    let t : BoardValue = last_board b r.moments in
    let k : History = observed marks r.moments h in
    let here : k.since ≤ t.taken = subst (λ n. k.since ≤ n) (all.taken at) (all.since since) in
    within k.since t.taken (length t.readings) (length b.readings) here all.whole.board.taken (ap length all.readings)
