-- What effects make of a history.
use Rattle.std.proofs.Common.{◌≡◌, ℕ, zero, suc, ◌+◌, List, [], ◌∷◌, ◌++◌, length, refl, sym, ap, ap₂, ◌∙◌, arith, true, false, cond, ne_eqb, append_assoc}
use Rattle.std.proofs.Common.{append-nil, Bool, Option, Some, None}
use Rattle.std.specs.Prelude.{◌&&◌, ◌%◌, ◌==◌, not}
use Rattle.machine_effects.specs.fram_board.Effects.{Effect, Store, Take, Outside, OutsideEffect, Offered, Looked}
use Rattle.machine_effects.specs.World.{World, received, accepted_behind, world_after_one, world_after, readings_taken, OfStore, EachStore}
use Rattle.machine_effects.proofs.Interface.{takes, put_same, put_other}
use Rattle.crash_rules.specs.Model.{Marks, IsElsewhere, words_stored, answers_at, answers_in}
use Rattle.crash_rules.specs.History.{Done, History, is_decide, is_done, with_effect, behind_decide, behind_done, behind_gate, observe_one, observe}

-- the history behind two parts
pub observe-append : (marks : Marks) (es fs : List Effect) (h : History) → observe marks (es ++ fs) h ≡ observe marks fs (observe marks es h)
observe-append marks [] fs h = refl
observe-append marks (e ∷ es) fs h = observe-append marks es fs (observe_one marks e h)

-- the answers of two parts
stored_behind : (is : Bool) (w : ℕ) (es fs all : List ℕ) → all ≡ es ++ fs → cond is (w ∷ all) all ≡ cond is (w ∷ es) es ++ fs
stored_behind true w es fs all e = ap (λ ws. w ∷ ws) e
stored_behind false w es fs all e = e

pub stored-append : (a : ℕ) (es fs : List Effect) → words_stored a (es ++ fs) ≡ words_stored a es ++ words_stored a fs
stored-append a [] fs = refl
stored-append a (Store b w ∷ es) fs =
    stored_behind (b == a) w (words_stored a es) (words_stored a fs) (words_stored a (es ++ fs)) (stored-append a es fs)
stored-append a (Take w ∷ es) fs = stored-append a es fs
stored-append a (Outside o ∷ es) fs = stored-append a es fs

answered-append : (answer : Option ℕ) (es fs : List Effect) → answers_at answer (es ++ fs) ≡ answers_at answer es ++ answers_at answer fs
answered-append None es fs = refl
answered-append (Some a) es fs = stored-append a es fs

pub answers-append : (marks : Marks) (es fs : List Effect) → answers_in marks (es ++ fs) ≡ answers_in marks es ++ answers_in marks fs
answers-append marks es fs = answered-append marks.answer es fs

-- readings that are taken store nothing
pub takes_store_none : (a : ℕ) (ws : List ℕ) → words_stored a (takes ws) ≡ []
takes_store_none a [] = refl
takes_store_none a (w ∷ ws) = takes_store_none a ws

-- a history with these effects, but for their events
abbrev pub with_effects : List Effect → History → History
with_effects es h = record h { world = world_after es h.world; taken = h.taken + length (readings_taken es); effects = h.effects ++ es }

-- a GATE that stays makes no event
pub not_done : (v : ℕ) → is_done v v ≡ false
not_done zero = refl
not_done (suc zero) = refl
not_done (suc (suc n)) = ap₂ (λ p q. p && q) (ne_eqb (suc (suc n)) 0 (λ e. omega (arith, e))) (ne_eqb (suc (suc n)) 1 (λ e. omega (arith, e)))

pub not_decide : (v : ℕ) → is_decide v v ≡ false
not_decide zero = refl
not_decide (suc zero) = refl
not_decide (suc (suc n)) = ap (λ q. q && not q) (ne_eqb (suc (suc n)) 1 (λ e. omega (arith, e)))

-- a GATE that stays makes no event
pub unchanged : (marks : Marks) (v : ℕ) (h : History) → behind_gate marks v v h ≡ h
unchanged marks v h = ap₂ (λ p q. cond p (behind_done h) (cond q (behind_decide marks h) h)) (not_done v) (not_decide v)

same_gate : (marks : Marks) (e : Effect) (x : World) → OfStore (IsElsewhere marks.gate) e → (world_after_one e x).fram marks.gate ≡ x.fram marks.gate
same_gate marks (Store a w) x h = put_other x.fram a w marks.gate (λ q. h (sym q))
same_gate marks (Take w) x h = refl
same_gate marks (Outside o) x h = refl

observe_one_quiet : (marks : Marks) (e : Effect) (h : History) → OfStore (IsElsewhere marks.gate) e → observe_one marks e h ≡ with_effect e h
observe_one_quiet marks e h q = ap (λ n. behind_gate marks (h.world.fram marks.gate) n (with_effect e h)) (same_gate marks e h.world q)
    ∙ unchanged marks (h.world.fram marks.gate) (with_effect e h)

count_more : (e : Effect) (es : List Effect) (n : ℕ)
    → (n + length (readings_taken (e ∷ []))) + length (readings_taken es) ≡ n + length (readings_taken (e ∷ es))
count_more (Store a w) es n = omega arith
count_more (Take w) es n = omega arith
count_more (Outside o) es n = omega arith

joined : (e : Effect) (es : List Effect) (h : History) → with_effects es (with_effect e h) ≡ with_effects (e ∷ es) h
joined e es h = ap₂ (λ t l. record h { world = world_after (e ∷ es) h.world; taken = t; effects = l }) (count_more e es h.taken)
    (append_assoc h.effects (e ∷ []) es)

none_seen : (h : History) → h ≡ with_effects [] h
none_seen h =
    let t : h.taken ≡ h.taken + length (readings_taken []) = omega arith in
    ap₂ (λ t l. record h { taken = t; effects = l }) t (sym (append-nil h.effects))

-- effects that store nothing to GATE are no events
pub observe_quiet : (marks : Marks) (es : List Effect) (h : History) → EachStore (IsElsewhere marks.gate) es → observe marks es h ≡ with_effects es h
observe_quiet marks [] h q = none_seen h
observe_quiet marks (e ∷ es) h q = ap (observe marks es) (observe_one_quiet marks e h q.0) ∙ observe_quiet marks es (with_effect e h) q.1 ∙ joined e es h

-- the store of 0 to a GATE of 1
pub observe_done : (marks : Marks) (h : History) → h.world.fram marks.gate ≡ 1
    → observe_one marks (Store marks.gate 0) h ≡ behind_done (with_effect (Store marks.gate 0) h)
observe_done marks h e = ap₂ (λ b n. behind_gate marks b n (with_effect (Store marks.gate 0) h)) e (put_same h.world.fram marks.gate 0)

-- the store of 1 to a GATE of 0
pub observe_decide : (marks : Marks) (h : History) → h.world.fram marks.gate ≡ 0
    → observe_one marks (Store marks.gate 1) h ≡ behind_decide marks (with_effect (Store marks.gate 1) h)
observe_decide marks h e = ap₂ (λ b n. behind_gate marks b n (with_effect (Store marks.gate 1) h)) e (put_same h.world.fram marks.gate 1)

-- dones are never taken back
gate_grows : (marks : Marks) (before now : ℕ) (h : History) → (more : List Done) × ((behind_gate marks before now h).completed ≡ h.completed ++ more)
gate_grows marks before now h =
    elim (is_done before now) as (λ b. (more : List Done)
    × ((cond b (behind_done h) (cond (is_decide before now) (behind_decide marks h) h)).completed ≡ h.completed ++ more)) [
      | true ↦ (record { span_from = h.span_from; span_to = h.span_to; answers = h.answers; world = h.world } ∷ [], refl)
      | false ↦ elim (is_decide before now) as (λ b. (more : List Done) × ((cond b (behind_decide marks h) h).completed ≡ h.completed ++ more)) [
        | true ↦ ([], sym (append-nil h.completed))
        | false ↦ ([], sym (append-nil h.completed))
      ]
    ]

pub dones_grow : (marks : Marks) (es : List Effect) (h : History) → (more : List Done) × ((observe marks es h).completed ≡ h.completed ++ more)
dones_grow marks [] h = ([], sym (append-nil h.completed))
dones_grow marks (e ∷ es) h =
    let a = gate_grows marks (h.world.fram marks.gate) ((world_after_one e h.world).fram marks.gate) (with_effect e h) in
    let b = dones_grow marks es (observe_one marks e h) in
    (a.0 ++ b.0, b.1 ∙ ap (λ l. l ++ b.0) a.1 ∙ append_assoc h.completed a.0 b.0)

taken_gate : (marks : Marks) (before now : ℕ) (h : History) → (behind_gate marks before now h).taken ≡ h.taken
taken_gate marks before now h =
    elim (is_done before now) as (λ b. (cond b (behind_done h) (cond (is_decide before now) (behind_decide marks h) h)).taken ≡ h.taken) [
      | true ↦ refl
      | false ↦ elim (is_decide before now) as (λ b. (cond b (behind_decide marks h) h).taken ≡ h.taken) [ true ↦ refl | false ↦ refl ]
    ]

world_gate : (marks : Marks) (before now : ℕ) (h : History) → (behind_gate marks before now h).world ≡ h.world
world_gate marks before now h =
    elim (is_done before now) as (λ b. (cond b (behind_done h) (cond (is_decide before now) (behind_decide marks h) h)).world ≡ h.world) [
      | true ↦ refl
      | false ↦ elim (is_decide before now) as (λ b. (cond b (behind_decide marks h) h).world ≡ h.world) [ true ↦ refl | false ↦ refl ]
    ]

-- every reading taken is counted
pub observed_taken : (marks : Marks) (es : List Effect) (h : History) → (observe marks es h).taken ≡ h.taken + length (readings_taken es)
observed_taken marks [] h = omega arith
observed_taken marks (e ∷ es) h =
    let a = observed_taken marks es (observe_one marks e h) in
    let b = taken_gate marks (h.world.fram marks.gate) ((world_after_one e h.world).fram marks.gate) (with_effect e h) in
    let c = count_more e es h.taken in a ∙ ap (λ n. n + length (readings_taken es)) b ∙ c

received_more : (n w : ℕ) (ws : List ℕ) → (more : List ℕ) × (received n w ws ≡ ws ++ more)
received_more n w ws =
    elim (n == length ws % 0x10000) as (λ b. (more : List ℕ) × (cond b (ws ++ w ∷ []) ws ≡ ws ++ more)) [
      | true ↦ (w ∷ [], refl)
      | false ↦ ([], sym (append-nil ws))
    ]

accepted_grows : (o : OutsideEffect) (ws : List ℕ) → (more : List ℕ) × (accepted_behind o ws ≡ ws ++ more)
accepted_grows (Offered n w) ws = received_more n w ws
accepted_grows (Looked seen) ws = ([], sym (append-nil ws))

-- words that are accepted stay so
world_more : (es : List Effect) (x : World) → (more : List ℕ) × ((world_after es x).accepted ≡ x.accepted ++ more)
world_more [] x = ([], sym (append-nil x.accepted))
world_more (Store a w ∷ es) x = world_more es (world_after_one (Store a w) x)
world_more (Take w ∷ es) x = world_more es x
world_more (Outside o ∷ es) x =
    let one = accepted_grows o x.accepted in
    let rest = world_more es (world_after_one (Outside o) x) in
    (one.0 ++ rest.0, rest.1 ∙ ap (λ l. l ++ rest.0) one.1 ∙ append_assoc x.accepted one.0 rest.0)

-- the world is what the effects make of it
pub observed_world : (marks : Marks) (es : List Effect) (h : History) → (observe marks es h).world ≡ world_after es h.world
observed_world marks [] h = refl
observed_world marks (e ∷ es) h = observed_world marks es (observe_one marks e h)
    ∙ ap (world_after es) (world_gate marks (h.world.fram marks.gate) ((world_after_one e h.world).fram marks.gate) (with_effect e h))

-- so that accepted words stay so
pub accepted_more : (marks : Marks) (es : List Effect) (h : History) → (more : List ℕ) × ((observe marks es h).world.accepted ≡ h.world.accepted ++ more)
accepted_more marks es h = let m = world_more es h.world in (m.0, ap (λ x. x.accepted) (observed_world marks es h) ∙ m.1)
