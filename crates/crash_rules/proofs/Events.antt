-- The events of an instruction, by its effects and by GATE before and behind it.
use Rattle.std.proofs.Common.{◌≡◌, ℕ, ◌-◌, ◌≤◌, List, [], ◌∷◌, ◌++◌, length, drop, refl, sym, ap, ap₂, ◌∙◌, subst, arith, Bool, true, false, cond}
use Rattle.std.proofs.Common.{length-take-le, Result, Ok, Err, Option, Some, None}
use Rattle.std.proofs.lemmas.List.{length-drop, map-append}
use Rattle.std.specs.Prelude.{map}
use Rattle.std.specs.List.{slice_range}
use Rattle.machine_effects.specs.msp_step.declared.machine.Stop.{Stop}
use Rattle.machine_effects.specs.fram_board.declared.board.Stepped.{Stepped}
use Rattle.machine_effects.specs.fram_board.Bus.{is_fram}
use Rattle.machine_effects.specs.fram_board.Board.{BoardValue}
use Rattle.machine_effects.specs.fram_board.Effects.{Effect, Store, Take, store_at, stores_of, sends_of}
use Rattle.machine_effects.specs.World.{World, world_after_one, world_after, readings_taken, EachStore}
use Rattle.machine_effects.proofs.Interface.{taking_takes, world_after-append}
use Rattle.crash_rules.specs.Model.{Marks, IsElsewhere}
use Rattle.crash_rules.specs.History.{History, is_done, is_decide, with_effect, behind_decide, behind_done, behind_gate, observe_one, observe, Positions}
use Rattle.crash_rules.specs.History.{Done, positions_of, positions_behind, EventsOfInstructions}
use Rattle.crash_rules.proofs.Observed.{observe-append, with_effects, not_done, not_decide, observe_quiet, observed_taken}

takes_store : (P : ℕ → ℕ → Type 0) (ws : List ℕ) → EachStore P (map (λ w. Take w) ws)
takes_store P [] = tt
takes_store P (w ∷ ws) = (tt, takes_store P ws)

takes_world : (ws : List ℕ) (x : World) → world_after (map (λ w. Take w) ws) x ≡ x
takes_world [] x = refl
takes_world (w ∷ ws) x = takes_world ws x

sends_store : (P : ℕ → ℕ → Type 0) (n : ℕ) (o : Option ℕ) → EachStore P (sends_of n o)
sends_store P n None = tt
sends_store P n (Some w) = (tt, tt)

sends_fram : (n : ℕ) (o : Option ℕ) (x : World) → (world_after (sends_of n o) x).fram ≡ x.fram
sends_fram n None x = refl
sends_fram n (Some w) x = refl

sends_taken : (n : ℕ) (o : Option ℕ) → readings_taken (sends_of n o) ≡ []
sends_taken n None = refl
sends_taken n (Some w) = refl

-- one store, or none
data OneStore (es : List Effect) : Type 0 where
  NoStore : es ≡ [] → OneStore es
  AStore : (a w : ℕ) → es ≡ Store a w ∷ [] → OneStore es

one_if : (b : Bool) (a w : ℕ) → OneStore (cond b (Store a w ∷ []) [])
one_if true a w = AStore a w refl
one_if false a w = NoStore refl

one_at : (wrote : Option ℕ) (fram : List ℕ) → OneStore (store_at wrote fram)
one_at None fram = NoStore refl
one_at (Some a) fram = one_if (is_fram a) _ _

one_of : (answer : Result Stepped Stop) (b : BoardValue) → OneStore (stores_of answer b)
one_of (Ok done) b = one_at done.wrote b.fram
one_of (Err e) b = NoStore refl

same_positions : (v taken : ℕ) (p : Positions) → positions_behind v v taken p ≡ p
same_positions v taken p =
    ap₂ (λ d c. cond d (record {
      since = taken;
      span_from = p.span_from;
      span_to = p.span_to;
      spans = p.spans ++ (p.span_from, p.span_to) ∷ [];
    })
    (cond c (record { since = p.since; span_from = p.since; span_to = taken; spans = p.spans }) p)) (not_done v) (not_decide v)

gate_positions : (marks : Marks) (before now : ℕ) (h : History)
    → positions_of (behind_gate marks before now h) ≡ positions_behind before now h.taken (positions_of h)
gate_positions marks before now h =
    elim (is_done before now) as (λ d. positions_of (cond d (behind_done h)
    (cond (is_decide before now) (behind_decide marks h) h)) ≡ cond d (record {
      since = h.taken;
      span_from = h.span_from;
      span_to = h.span_to;
      spans = (positions_of h).spans ++ (h.span_from, h.span_to) ∷ [];
    })
    (cond (is_decide before now) (record { since = h.since; span_from = h.since; span_to = h.taken; spans = (positions_of h).spans }) (positions_of h))) [
      | true ↦ ap (λ l. record { since = h.taken; span_from = h.span_from; span_to = h.span_to; spans = l })
          (map-append (λ (d : Done). (d.span_from, d.span_to)) h.completed (record {
            span_from = h.span_from;
            span_to = h.span_to;
            answers = h.answers;
            world = h.world;
          } ∷ []))
      | false ↦ elim (is_decide before now) as (λ c. positions_of (cond c (behind_decide marks h) h) ≡ cond c (record {
        since = h.since;
        span_from = h.since;
        span_to = h.taken;
        spans = (positions_of h).spans;
      }) (positions_of h)) [ true ↦ refl | false ↦ refl ]
    ]

module _ (marks : Marks) (us : List Effect) (off : EachStore (IsElsewhere marks.gate) us) (still : (x : World) → (world_after us x).fram ≡ x.fram)
    (none : readings_taken us ≡ []) where
  none_more : (k : History) → (observe marks us k).taken ≡ k.taken
  none_more k = let z = ap length none in observed_taken marks us k ∙ omega (arith, z)

  record Behind (m : List Effect) (k : History) : Type 0 where
    positions : positions_of (observe marks (m ++ us) k) ≡ positions_behind (k.world.fram marks.gate)
        ((world_after (m ++ us) k.world).fram marks.gate) k.taken (positions_of k)
    taken : (observe marks (m ++ us) k).taken ≡ k.taken

  without_store : (k : History) → Behind [] k
  without_store k = record {
    positions = ap positions_of (observe_quiet marks us k off) ∙ sym (same_positions (k.world.fram marks.gate) k.taken (positions_of k))
        ∙ ap (λ n. positions_behind (k.world.fram marks.gate) n k.taken (positions_of k)) (sym (ap (λ f. f marks.gate) (still k.world)));
    taken = none_more k;
  }

  with_store : (a w : ℕ) (k : History) → Behind (Store a w ∷ []) k
  with_store a w k =
      let one = observe_one marks (Store a w) k in
      let y = world_after_one (Store a w) k.world in
      let more : (with_effect (Store a w) k).taken ≡ k.taken = omega arith in
      let same : one.taken ≡ k.taken = observed_taken marks (Store a w ∷ []) k ∙ omega arith in
      record {
        positions = ap positions_of (observe_quiet marks us one off) ∙ gate_positions marks (k.world.fram marks.gate) (y.fram marks.gate)
            (with_effect (Store a w) k)
            ∙ ap (λ t. positions_behind (k.world.fram marks.gate) (y.fram marks.gate) t (positions_of k)) more
            ∙ ap (λ n. positions_behind (k.world.fram marks.gate) n k.taken (positions_of k)) (sym (ap (λ f. f marks.gate) (still y)));
        taken = none_more one ∙ same;
      }

  behind_store : (m : List Effect) (k : History) → OneStore m → Behind m k
  behind_store m k (NoStore e) = subst (λ l. Behind l k) (sym e) (without_store k)
  behind_store m k (AStore a w e) = subst (λ l. Behind l k) (sym e) (with_store a w k)

-- what is observed of each instruction
pub events_of_instructions : EventsOfInstructions
events_of_instructions marks b x h e from to =
    let ws = slice_range b.readings b.taken x.board.taken in
    let ts = map (λ w. Take w) ws in
    let m = stores_of x.answer x.board in
    let us = sends_of b.outnum x.offered in
    let k = with_effects ts h in
    let room : x.board.taken - b.taken ≤ length (drop b.taken b.readings) = let n = length-drop b.taken b.readings in omega (arith, n, to) in
    let len : length (readings_taken ts) ≡ x.board.taken - b.taken = ap length (taking_takes ws)
    ∙ length-take-le (x.board.taken - b.taken) (drop b.taken b.readings) room in
    let there : k.taken ≡ x.board.taken = omega (arith, e, len, from) in
    let seen : observe marks ts h ≡ k = observe_quiet marks ts h (takes_store (IsElsewhere marks.gate) ws) in
    let all : observe marks (ts ++ (m ++ us)) h ≡ observe marks (m ++ us) k = observe-append marks ts (m ++ us) h ∙ ap (observe marks (m ++ us)) seen in
    let r = behind_store marks us (sends_store (IsElsewhere marks.gate) b.outnum x.offered) (sends_fram b.outnum x.offered)
    (sends_taken b.outnum x.offered) m k (one_of x.answer x.board) in
    let now : ℕ = (world_after (m ++ us) k.world).fram marks.gate in
    record {
      positions = ap positions_of all ∙ r.positions ∙ ap (λ y. positions_behind (y.fram marks.gate) now k.taken (positions_of h)) (takes_world ws h.world)
          ∙ ap (λ y. positions_behind (h.world.fram marks.gate) (y.fram marks.gate) k.taken (positions_of h)) (sym (world_after-append ts (m ++ us) h.world))
          ∙ ap (λ t. positions_behind (h.world.fram marks.gate) ((world_after (ts ++ (m ++ us)) h.world).fram marks.gate) t (positions_of h)) there;
      taken = ap (λ q. q.taken) all ∙ r.taken ∙ there;
    }
