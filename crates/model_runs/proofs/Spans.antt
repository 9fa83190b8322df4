-- In one charge the spans follow one another.
use Rattle.std.proofs.Common.{◌≡◌, ℕ, ◌≤◌, refl, sym, ap, ◌∙◌, subst, arith, true, false, cond, List, [], ◌∷◌, ◌++◌, length, append-nil}
use Rattle.fram_board.specs.Board.{BoardValue, powered}
use Rattle.fram_board.specs.Steps.{IsPowerState}
use Rattle.fram_board.specs.Effects.{Effect}
use Rattle.fram_board.specs.Run.{Action, PowerUp, Execute, Moment, RunOutcome, run_outcome, BoardCharge, Run, Over}
use Rattle.fram_board.specs.Run.{Next, Last, power_up_of, Charges, Stopped}
use Rattle.machine_effects.specs.World.{World, world_after_one}
use Rattle.machine_effects.specs.Machine.{MachineBoard}
use Rattle.machine_effects.specs.Runs.{last_board}
use Rattle.crash_rules.specs.Model.{Model, Marks}
use Rattle.crash_rules.specs.History.{Done, History, is_done, is_decide, with_effect, behind_boot, behind_done, behind_decide, behind_gate, observe_one}
use Rattle.crash_rules.specs.History.{observe, first_history}
use Rattle.crash_rules.specs.Runs.{Program, Charge}
use Rattle.crash_rules.specs.Laws.{Origin, Resting, Pending, HasRun, AreConsecutive, FollowFirst}
use Rattle.crash_rules.proofs.Interface.{spans_follow, pending_spans_follow}
use Rattle.run_charges.specs.View.{outside_of, outside_effects}
use Rattle.run_charges.specs.Moments.{AreMoments}
use Rattle.run_charges.specs.Charges.{AreInstructionMoments, behind_action, behind_moment, observed, program_steps}
use Rattle.run_charges.specs.Laws.{IsRunOfWords}
use Rattle.run_charges.proofs.Interface.{first_start, charge_instructs, front_moments, end, charged_once}
use Rattle.run_charges.proofs.Interface.{first as first_of}
use Rattle.model_runs.specs.Runs.{history_behind, AreInOrder, AreInOrderPast}
use Rattle.model_runs.specs.Bears.{BearsModel}
use Rattle.model_runs.specs.Laws.{SpansAreInOrder, SpansPastAreInOrder}
use Rattle.model_runs.proofs.Fronts.{stood, ready_at_first, runs_so, has_run}

-- each done's span goes forwards
abbrev GoForwards : List Done → Type 0
GoForwards [] = Unit {0}
GoForwards (d ∷ ds) = (d.span_from ≤ d.span_to) × GoForwards ds

record Forwards (h : History) : Type 0 where
  pub since : h.since ≤ h.taken
  pub span : h.span_from ≤ h.span_to
  pub dones : GoForwards h.completed

go-append : (ds : List Done) (d : Done) → GoForwards ds → d.span_from ≤ d.span_to → GoForwards (ds ++ d ∷ [])
go-append [] d h l = (l, tt)
go-append (e ∷ ds) d h l = (h.0, go-append ds d h.1 l)

event_forwards : (marks : Marks) (before now : ℕ) (h : History) → Forwards h → Forwards (behind_gate marks before now h)
event_forwards marks before now h f =
    let done : Done = record { span_from = h.span_from; span_to = h.span_to; answers = h.answers; world = h.world } in
    elim (is_done before now) as (λ b. Forwards (cond b (behind_done h) (cond (is_decide before now) (behind_decide marks h) h))) [
      | true ↦ record { since = omega arith; span = f.span; dones = go-append h.completed done f.dones f.span }
      | false ↦ elim (is_decide before now) as (λ b. Forwards (cond b (behind_decide marks h) h)) [
        | true ↦ record { since = f.since; span = f.since; dones = f.dones }
        | false ↦ f
      ]
    ]

one_forwards : (e : Effect) (h : History) → Forwards h → Forwards (with_effect e h)
one_forwards e h f = let l = f.since in record { since = omega (arith, l); span = f.span; dones = f.dones }

forwards : (marks : Marks) (es : List Effect) (h : History) → Forwards h → Forwards (observe marks es h)
forwards marks [] h f = f
forwards marks (e ∷ es) h f = forwards marks es (observe_one marks e h)
    (event_forwards marks (h.world.fram marks.gate) ((world_after_one e h.world).fram marks.gate) (with_effect e h) (one_forwards e h f))

action_forwards : (marks : Marks) (a : Action) (es : List Effect) (h : History) → Forwards h → Forwards (behind_action marks a es h)
action_forwards marks PowerUp es h f = record { since = omega arith; span = f.span; dones = f.dones }
action_forwards marks (Execute kind done offered) es h f = forwards marks es h f

moments_forwards : (marks : Marks) (ms : List Moment) (h : History) → Forwards h → Forwards (observed marks ms h)
moments_forwards marks [] h f = f
moments_forwards marks (m ∷ ms) h f =
    moments_forwards marks ms (behind_moment marks m h) (action_forwards marks m.action (outside_effects m) h f)

first_forwards : (marks : Marks) (x : World) → Forwards (behind_boot (first_history marks x))
first_forwards marks x = record { since = omega arith; span = omega arith; dones = tt }

in_order : (from to : ℕ) (ds : List Done) → AreConsecutive from ds to → GoForwards ds → AreInOrder from to ds
in_order from to [] h f = h
in_order from to (d ∷ ds) h f =
    let a = h.0 in
    let b = f.0 in
    (a, omega (arith, a, b), in_order d.span_to to ds h.1 f.1)

-- all dones but the first
in_order_past : (to : ℕ) (ds : List Done) → FollowFirst ds to → GoForwards ds → AreInOrderPast to ds
in_order_past to [] h f = tt
in_order_past to (d ∷ ds) h f = in_order 0 to ds h f.1

-- what holds behind one charge of the machine, of a history whose dones go forwards, holds behind one of the board
module _ {St : Type 0} (m : Model St) (c : Program) (readings : List ℕ) (origin : Origin St) (x : World) (d : BoardCharge) (b : BoardValue)
    (r : RunOutcome) (run : IsRunOfWords (d ∷ []) b r) (bears : BearsModel m c readings origin x b) (Holds : History → Type 0)
    (law : (t : MachineBoard) (k : History) (run : HasRun m c readings origin t k) → run.world ≡ x → (e : Charge) → run.charges ≡ e ∷ []
    → GoForwards k.completed → Holds k) where
  abbrev first : History
  first = first_history m.marks x

  abbrev InOrder : List Moment → Type 0
  InOrder ms = Holds (history_behind m x ms)

  ok : IsPowerState d.start
  ok = first_start d [] run.starts

  -- the moments of one charge
  charge_in_order : (ms : List Moment) → AreInstructionMoments ms → AreMoments (powered b d.start) ms → InOrder (power_up_of b d.start ∷ ms)
  charge_in_order ms are moments =
      let on = stood m c readings origin x b bears in
      let ready = ready_at_first m c readings origin x b bears run.whole run.words in
      let p = first_of on b first ready d.start ok ms are moments in
      let t = end on b first ready d.start ok ms are moments in
      let k = observed m.marks ms (behind_boot first) in
      let e : Charge = record { powered = p; steps = program_steps ms } in
      law t k
      (has_run m c readings origin x b bears (e ∷ []) t k (charged_once on b first ready d.start ok ms are moments)) refl e refl
      (moments_forwards m.marks ms (behind_boot first) (first_forwards m.marks x)).dones

  -- the same of a charge that is this one, on this board
  same_in_order : (e : BoardCharge) (t : BoardValue) (ms : List Moment) → AreInstructionMoments ms → AreMoments (powered t e.start) ms → e ≡ d → t ≡ b
      → InOrder (power_up_of t e.start ∷ ms)
  same_in_order e t ms are moments same there =
      let P : BoardCharge → Type 0 = λ y. AreMoments (powered t y.start) ms in
      let Q : BoardValue → Type 0 = λ y. AreMoments (powered y d.start) ms in
      let R : BoardValue → Type 0 = λ y. InOrder (power_up_of y e.start ∷ ms) in
      let S : BoardCharge → Type 0 = λ y. InOrder (power_up_of b y.start ∷ ms) in
      subst R (sym there) (subst S (sym same) (charge_in_order ms are (subst Q there (subst P same moments))))

  run_in_order : (cs : List BoardCharge) (t : BoardValue) (o : RunOutcome) → Run cs t o → AreMoments t o.moments → cs ≡ d ∷ [] → t ≡ b
      → InOrder o.moments
  run_in_order cs t o (Over _) moments e f = absurd cc
  run_in_order cs t o (Next e es _ ms end rest one more) moments same there =
      let c1 : e ≡ d = cc same in
      let c2 : es ≡ [] = cc same in
      let T : List Moment → Type 0 = λ l. InOrder (power_up_of t e.start ∷ l) in
      let none : rest.moments ≡ [] = nothing_more es end rest more c2 in
      let are = charge_instructs e.measure e.amount (powered t e.start) (run_outcome ms Charges end) one in
      let own = front_moments (powered t e.start) (run_outcome (ms ++ rest.moments) Charges end) ms rest.moments moments.2 refl in
      subst T (sym (append-nil ms) ∙ ap (λ l. ms ++ l) (sym none)) (same_in_order e t ms are own c1 there)
    where
      nothing_more : (es : List BoardCharge) (t : BoardValue) (o : RunOutcome) → Run es t o → es ≡ [] → o.moments ≡ []
      nothing_more es t o (Over _) e = refl
      nothing_more es t o (Next e2 more _ ms end rest one k) e = absurd cc
      nothing_more es t o (Last e2 more _ ms stop end one) e = absurd cc
  run_in_order cs t o (Last e es _ ms stop end one) moments same there =
      let are = charge_instructs e.measure e.amount (powered t e.start) (run_outcome ms (Stopped stop) end) one in
      let c1 : e ≡ d = cc same in
      same_in_order e t ms are moments.2 c1 there

-- the spans of a run are in order
pub spans_are_in_order : {St : Type 0} (m : Model St) (c : Program) → SpansAreInOrder m c
spans_are_in_order m c readings s x d b r run bears here =
    let plain = runs_so m c readings (Resting s) x b bears (d ∷ []) r run in
    run_in_order m c readings (Resting s) x d b r run bears (λ h. AreInOrder 0 h.since h.completed)
    (λ t k go began e one f. in_order 0 k.since k.completed
    (spans_follow m c bears.model bears.program readings s t k go (subst (m.Undecided s) (sym began) here) e one) f)
    (d ∷ []) b r run.run plain.moments refl refl

-- so are those behind a commit that was pending at the start
pub spans_past_are_in_order : {St : Type 0} (m : Model St) (c : Program) → SpansPastAreInOrder m c
spans_past_are_in_order m c readings to x d b r run bears =
    let plain = runs_so m c readings (Pending to) x b bears (d ∷ []) r run in
    run_in_order m c readings (Pending to) x d b r run bears (λ h. AreInOrderPast h.since h.completed)
    (λ t k go began e one f. in_order_past k.since k.completed (pending_spans_follow m c bears.model bears.program readings to t k go e one) f)
    (d ∷ []) b r run.run plain.moments refl refl
