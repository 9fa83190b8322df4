-- The spans of a run's dones are in order and apart, wherever it is cut: GATE becomes 1 at a decide alone, and each done ends what the
-- last decide began.
use Rattle.std.proofs.Common.{◌≡◌, ◌≤◌, ℕ, refl, arith, Bool, true, false, cond, List, [], ◌∷◌, ◌++◌}
use Rattle.std.proofs.lemmas.Bool.Decides.{nat_tests}
use Rattle.fram_board.specs.Effects.{Effect}
use Rattle.fram_board.specs.Run.{Action, PowerUp, Execute, Moment}
use Rattle.machine_effects.specs.World.{World, world_after_one}
use Rattle.crash_rules.specs.Model.{Marks}
use Rattle.crash_rules.specs.History.{Done, History, is_done, is_decide, with_effect, behind_boot, behind_done, behind_decide, behind_gate}
use Rattle.crash_rules.specs.History.{observe_one, observe, first_history}
use Rattle.run_charges.specs.View.{outside_effects}
use Rattle.run_charges.specs.Charges.{behind_action, behind_moment, observed}
use Rattle.source_report.specs.Apart.{AreApart}
use Rattle.source_runs.specs.Tells.{spans_in}
use Rattle.source_runs.specs.Transitions.{committed_by}

-- spans in order and apart, from a position on and up to another
abbrev UpTo : ℕ → List Done → ℕ → Type 0
UpTo from [] to = from ≤ to
UpTo from (d ∷ ds) to = (from ≤ d.span_from) × (d.span_from ≤ d.span_to) × UpTo d.span_to ds to

further : (from : ℕ) (ds : List Done) (to more : ℕ) → UpTo from ds to → to ≤ more → UpTo from ds more
further from [] to more h l = omega (arith, h, l)
further from (d ∷ ds) to more h l = (h.0, h.1, further d.span_to ds to more h.2 l)

one_more : (from : ℕ) (ds : List Done) (d : Done) (to : ℕ) → UpTo from ds d.span_from → d.span_from ≤ d.span_to → d.span_to ≤ to → UpTo from (ds ++ d ∷ []) to
one_more from [] d to h l k = (h, l, k)
one_more from (e ∷ ds) d to h l k = (h.0, h.1, one_more e.span_to ds d to h.2 l k)

onward : (from : ℕ) (ds : List Done) (to : ℕ) → UpTo from ds to → from ≤ to
onward from [] to h = h
onward from (d ∷ ds) to h = let a = h.0 in let b = h.1 in let c = onward d.span_to ds to h.2 in omega (arith, a, b, c)

apart : (from : ℕ) (ds : List Done) (to end : ℕ) → UpTo from ds to → to ≤ end → AreApart from end (spans_in (committed_by ds))
apart from [] to end h l = tt
apart from (d ∷ ds) to end h l = let inside = onward d.span_to ds to h.2 in (h.0, h.1, omega (arith, inside, l), apart d.span_to ds to end h.2 l)

-- the span of a transition that is decided, behind those of the dones
record IsPending (h : History) : Type 0 where
  behind : UpTo 0 h.completed h.span_from
  onward : h.span_from ≤ h.span_to
  taken : h.span_to ≤ h.taken

-- the spans of the dones, and that of the decide where GATE is 1
record Ordered (marks : Marks) (h : History) : Type 0 where
  dones : UpTo 0 h.completed h.since
  since : h.since ≤ h.taken
  pending : h.world.fram marks.gate ≡ 1 → IsPending h

first_ordered : (marks : Marks) (x : World) → Ordered marks (first_history marks x)
first_ordered marks x = record {
  dones = omega arith;
  since = omega arith;
  pending = λ e. record { behind = omega arith; onward = omega arith; taken = omega arith };
}

boot_ordered : (marks : Marks) (h : History) → Ordered marks h → Ordered marks (behind_boot h)
boot_ordered marks h o = record {
  dones = further 0 h.completed h.since h.taken o.dones o.since;
  since = omega arith;
  pending = λ e. let p = o.pending e in record { behind = p.behind; onward = p.onward; taken = p.taken };
}

-- a history behind an effect, where GATE was so before it
record IsBehind (before : ℕ) (h : History) : Type 0 where
  dones : UpTo 0 h.completed h.since
  since : h.since ≤ h.taken
  pending : before ≡ 1 → IsPending h

was_one : (before now : ℕ) → is_done before now ≡ true → before ≡ 1
was_one before now e = grind (arith, nat_tests, e)

is_none : (before now : ℕ) → is_done before now ≡ true → now ≡ 1 → ⊥
is_none before now e f = grind (arith, nat_tests, e)

stayed_one : (before now : ℕ) → is_decide before now ≡ false → now ≡ 1 → before ≡ 1
stayed_one before now e f = grind (arith, nat_tests, e)

event_ordered : (marks : Marks) (before now : ℕ) (h : History) → now ≡ h.world.fram marks.gate → IsBehind before h
    → Ordered marks (behind_gate marks before now h)
event_ordered marks before now h is b = by_done (is_done before now) refl
  where
    done : Done
    done = record { span_from = h.span_from; span_to = h.span_to; answers = h.answers; world = h.world }

    by_decide : (q : Bool) → is_decide before now ≡ q → Ordered marks (cond q (behind_decide marks h) h)
    by_decide true e = record {
      dones = b.dones;
      since = b.since;
      pending = λ one. record { behind = b.dones; onward = b.since; taken = omega arith };
    }
    by_decide false e = record { dones = b.dones; since = b.since; pending = λ one. b.pending (stayed_one before now e (omega (arith, is, one))) }

    by_done : (p : Bool) → is_done before now ≡ p → Ordered marks (cond p (behind_done h) (cond (is_decide before now) (behind_decide marks h) h))
    by_done true e =
        let p = b.pending (was_one before now e) in
        record {
          dones = one_more 0 h.completed (record { span_from = h.span_from; span_to = h.span_to; answers = h.answers; world = h.world }) h.taken p.behind
              p.onward p.taken;
          since = omega arith;
          pending = λ one. absurd (is_none before now e (omega (arith, is, one)));
        }
    by_done false e = by_decide (is_decide before now) refl

one_ordered : (marks : Marks) (e : Effect) (h : History) → Ordered marks h → Ordered marks (observe_one marks e h)
one_ordered marks e h o =
    let since = o.since in
    let behind : IsBehind (h.world.fram marks.gate) (with_effect e h) = record {
      dones = o.dones;
      since = omega (arith, since);
      pending = λ one. let p = o.pending one in let taken = p.taken in record { behind = p.behind; onward = p.onward; taken = omega (arith, taken) };
    } in
    event_ordered marks (h.world.fram marks.gate) ((world_after_one e h.world).fram marks.gate) (with_effect e h) refl behind

effects_ordered : (marks : Marks) (es : List Effect) (h : History) → Ordered marks h → Ordered marks (observe marks es h)
effects_ordered marks [] h o = o
effects_ordered marks (e ∷ es) h o = effects_ordered marks es (observe_one marks e h) (one_ordered marks e h o)

action_ordered : (marks : Marks) (a : Action) (es : List Effect) (h : History) → Ordered marks h → Ordered marks (behind_action marks a es h)
action_ordered marks PowerUp es h o = boot_ordered marks h o
action_ordered marks (Execute kind done offered) es h o = effects_ordered marks es h o

moments_ordered : (marks : Marks) (ms : List Moment) (h : History) → Ordered marks h → Ordered marks (observed marks ms h)
moments_ordered marks [] h o = o
moments_ordered marks (m ∷ ms) h o =
    moments_ordered marks ms (behind_moment marks m h) (action_ordered marks m.action (outside_effects m) h o)

-- the spans of a run's dones, of which the last ended with the last done
pub spans_are_apart : (marks : Marks) (x : World) (ms : List Moment) (end : ℕ) → (observed marks ms (first_history marks x)).since ≤ end
    → AreApart 0 end (spans_in (committed_by (observed marks ms (first_history marks x)).completed))
spans_are_apart marks x ms end inside =
    let k = observed marks ms (first_history marks x) in
    apart 0 k.completed k.since end (moments_ordered marks ms (first_history marks x) (first_ordered marks x)).dones inside
