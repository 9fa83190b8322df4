-- Both sides of a pair are runs of their own.
use Rattle.std.proofs.Common.{◌≡◌, ℕ, refl, sym, ◌∙◌, ap, subst, List, [], ◌∷◌, ◌++◌, append_assoc, append-nil, map, Option, Some, None}
use Rattle.radio_link.specs.declared.air.Packet.{Packet}
use Rattle.radio_link.specs.Sent.{newest}
use Rattle.std.specs.Prelude.{slice_get}
use Rattle.fram_board.specs.Run.{Moment}
use Rattle.board_run.specs.Stepwise.{RunState, StepsOn}
use Rattle.pair_run.specs.Actions.{PairAction}
use Rattle.pair_run.specs.Pair.{Pair, PairMoment, OfA, OfB, with_packet_brought, with_acknowledgement_brought}
use Rattle.pair_run.specs.Pair.{Acts, ActsA, ActsB, Brings, Acknowledges, BringsNewest, AcknowledgesNewest, PairRun, Over, Full, Then}
use Rattle.pair_laws.specs.Sides.{SideRun, Begins, Goes, Gets, SenderRun, ListenerRun, moments_of_a, moments_of_b, AreRuns}
use Rattle.pair_laws.specs.Laws.{SidesAreRuns}

-- ---- the moments of each side

pub a_append : (ms ns : List PairMoment) → moments_of_a (ms ++ ns) ≡ moments_of_a ms ++ moments_of_a ns
a_append [] ns = refl
a_append (OfA m ∷ ms) ns = ap (λ l. m ∷ l) (a_append ms ns)
a_append (OfB m ∷ ms) ns = a_append ms ns

pub b_append : (ms ns : List PairMoment) → moments_of_b (ms ++ ns) ≡ moments_of_b ms ++ moments_of_b ns
b_append [] ns = refl
b_append (OfA m ∷ ms) ns = b_append ms ns
b_append (OfB m ∷ ms) ns = ap (λ l. m ∷ l) (b_append ms ns)

pub a_of_a : (ms : List Moment) → moments_of_a (map (λ m. OfA m) ms) ≡ ms
a_of_a [] = refl
a_of_a (m ∷ ms) = ap (λ l. m ∷ l) (a_of_a ms)

pub b_of_a : (ms : List Moment) → moments_of_b (map (λ m. OfA m) ms) ≡ []
b_of_a [] = refl
b_of_a (m ∷ ms) = b_of_a ms

pub a_of_b : (ms : List Moment) → moments_of_a (map (λ m. OfB m) ms) ≡ []
a_of_b [] = refl
a_of_b (m ∷ ms) = a_of_b ms

pub b_of_b : (ms : List Moment) → moments_of_b (map (λ m. OfB m) ms) ≡ ms
b_of_b [] = refl
b_of_b (m ∷ ms) = ap (λ l. m ∷ l) (b_of_b ms)

-- none behind some
pub none_behind : (ms ns : List Moment) → ns ≡ [] → ms ++ ns ≡ ms
none_behind ms ns e = ap (λ l. ms ++ l) e ∙ append-nil ms

-- a fact of the moments of both sides is one of equal moments
pub at_equal : (P : List Moment → List Moment → Type 0) {xs cs ys ds : List Moment} → xs ≡ cs → ys ≡ ds → P xs ys → P cs ds
at_equal P {xs} {cs} {ys} {ds} e f h = subst (λ l. P cs l) f (subst (λ l. P l ys) e h)

-- ---- what is brought to a side

abbrev pub brought_of : {T : Type 0} → Option T → List T
brought_of None = []
brought_of (Some x) = x ∷ []

pub packet_gets : (first s : RunState) (brought : List Packet) (ms : List Moment) (o : Option Packet) → ListenerRun first brought ms s
    → ListenerRun first (brought ++ brought_of o) ms (with_packet_brought o s)
packet_gets first s brought ms None run = subst (λ l. ListenerRun first l ms s) (sym (append-nil brought)) run
packet_gets first s brought ms (Some p) run = Gets brought ms s p run

pub acknowledgement_gets : (first s : RunState) (heard : List ℕ) (ms : List Moment) (o : Option ℕ) → SenderRun first heard ms s
    → SenderRun first (heard ++ brought_of o) ms (with_acknowledgement_brought o s)
acknowledgement_gets first s heard ms None run = subst (λ l. SenderRun first l ms s) (sym (append-nil heard)) run
acknowledgement_gets first s heard ms (Some n) run = Gets heard ms s n run

-- ---- both are runs

-- behind one thing that is done
action_runs : (head : Option ℕ) (act : PairAction) (first p q : Pair) (xs ys : List Moment) (ms : List PairMoment) → AreRuns first xs ys p
    → Acts head act p ms q → AreRuns first (xs ++ moments_of_a ms) (ys ++ moments_of_b ms) q
action_runs head act first p q xs ys ms r (ActsA _ ns s steps) =
    at_equal (λ l k. AreRuns first l k q) (ap (λ l. xs ++ l) (sym (a_of_a ns))) (sym (none_behind ys _ (b_of_a ns)))
    (record { heard = r.heard; brought = r.brought; a = Goes r.heard xs ns p.a s r.a steps; b = r.b })
action_runs head act first p q xs ys ms r (ActsB _ ns s steps) =
    at_equal (λ l k. AreRuns first l k q) (sym (none_behind xs _ (a_of_b ns))) (ap (λ l. ys ++ l) (sym (b_of_b ns)))
    (record { heard = r.heard; brought = r.brought; a = r.a; b = Goes r.brought ys ns p.b s r.b steps })
action_runs head act first p q xs ys ms r (Brings _ k) =
    let o = slice_get p.packets.items k in
    at_equal (λ l k. AreRuns first l k q) (sym (append-nil xs)) (sym (append-nil ys))
    (record { heard = r.heard; brought = r.brought ++ brought_of o; a = r.a; b = packet_gets first.b p.b r.brought ys o r.b })
action_runs head act first p q xs ys ms r (Acknowledges _ k) =
    let o = slice_get p.acknowledgements.items k in
    at_equal (λ l k. AreRuns first l k q) (sym (append-nil xs)) (sym (append-nil ys))
    (record { heard = r.heard ++ brought_of o; brought = r.brought; a = acknowledgement_gets first.a p.a r.heard xs o r.a; b = r.b })
action_runs head act first p q xs ys ms r (BringsNewest _) =
    let o = newest p.packets in
    at_equal (λ l k. AreRuns first l k q) (sym (append-nil xs)) (sym (append-nil ys))
    (record { heard = r.heard; brought = r.brought ++ brought_of o; a = r.a; b = packet_gets first.b p.b r.brought ys o r.b })
action_runs head act first p q xs ys ms r (AcknowledgesNewest _) =
    let o = newest p.acknowledgements in
    at_equal (λ l k. AreRuns first l k q) (sym (append-nil xs)) (sym (append-nil ys))
    (record { heard = r.heard ++ brought_of o; brought = r.brought; a = acknowledgement_gets first.a p.a r.heard xs o r.a; b = r.b })

-- moments behind moments
pub a_behind : (xs : List Moment) (ms ns : List PairMoment) → (xs ++ moments_of_a ms) ++ moments_of_a ns ≡ xs ++ moments_of_a (ms ++ ns)
a_behind xs ms ns = append_assoc xs (moments_of_a ms) (moments_of_a ns) ∙ ap (λ l. xs ++ l) (sym (a_append ms ns))

pub b_behind : (ys : List Moment) (ms ns : List PairMoment) → (ys ++ moments_of_b ms) ++ moments_of_b ns ≡ ys ++ moments_of_b (ms ++ ns)
b_behind ys ms ns = append_assoc ys (moments_of_b ms) (moments_of_b ns) ∙ ap (λ l. ys ++ l) (sym (b_append ms ns))

-- behind a run
runs_on : (head : Option ℕ) (acts : List PairAction) (first p q : Pair) (xs ys : List Moment) (ms : List PairMoment) → AreRuns first xs ys p
    → PairRun head acts p ms q → AreRuns first (xs ++ moments_of_a ms) (ys ++ moments_of_b ms) q
runs_on head acts first p q xs ys ms r (Over _) = at_equal (λ l k. AreRuns first l k q) (sym (append-nil xs)) (sym (append-nil ys)) r
runs_on head acts first p q xs ys ms r (Full act more _ full) = at_equal (λ l k. AreRuns first l k q) (sym (append-nil xs)) (sym (append-nil ys)) r
runs_on head acts first p q xs ys all r (Then act more _ mid _ ms ns few does rest) =
    at_equal (λ l k. AreRuns first l k q) (a_behind xs ms ns) (b_behind ys ms ns)
    (runs_on head more first mid q (xs ++ moments_of_a ms) (ys ++ moments_of_b ms) ns (action_runs head act first p mid xs ys ms r does) rest)

pub sides_are_runs : SidesAreRuns
sides_are_runs acts p q ms head run = runs_on head acts p p q [] [] ms (record { heard = []; brought = []; a = Begins; b = Begins }) run
