-- The runs of a pair keep its words.
use Rattle.std.proofs.Common.{◌≡◌, ◌<◌, ◌≤◌, ℕ, arith, refl, sym, ◌∙◌, ap, subst, List, [], ◌∷◌, ◌++◌, append-nil, append_assoc, length, map, Option}
use Rattle.std.specs.Prelude.{All}
use Rattle.std.proofs.lemmas.List.Elements.{All-nil}
use Rattle.radio_link.specs.declared.air.Packet.{Packet}
use Rattle.fram_board.specs.Run.{Moment}
use Rattle.board_run.specs.History.{History, noted}
use Rattle.board_run.specs.Report.{after_all}
use Rattle.board_run.specs.Events.{head_of, no_hand, hand_after}
use Rattle.pair_run.specs.Actions.{PairAction}
use Rattle.pair_run.specs.Pair.{Pair, PairMoment, OfA, OfB, most_words}
use Rattle.pair_run.specs.Pair.{Acts, ActsA, ActsB, Brings, Acknowledges, BringsNewest, AcknowledgesNewest, PairRun, Over, Full, Then}
use Rattle.pair_run.specs.Lines.{PairKnown, known_at_first, known_behind, known_after}
use Rattle.pair_laws.specs.Fronts.{IsFront}
use Rattle.pair_laws.specs.Sides.{Begins, moments_of_a, moments_of_b}
use Rattle.pair_laws.specs.Sender.{Sending, AreInOrder, IsPacketOf, EachSends}
use Rattle.pair_laws.specs.Listener.{EachListens, consuming_after}
use Rattle.pair_laws.specs.Joined.{Level, IsJoined, IsNew, IsMidway}
use Rattle.pair_laws.specs.Told.{EachDoneIsTold}
use Rattle.pair_laws.specs.Laws.{BothKeep, KeepsWords, PairsKeepWords}
use Rattle.pair_laws.proofs.Fronts.{front_self}
use Rattle.pair_laws.proofs.Sides.{a_of_a, b_of_a, a_of_b, b_of_b, none_behind, at_equal, a_behind, b_behind}
use Rattle.pair_laws.proofs.Moments.{emitted_front}
use Rattle.pair_laws.proofs.Actions.{actions_keep_joined}
use Rattle.pair_laws.proofs.Telling.{Telling, TellsOn, telling_moves, each_a, each_b}

-- ---- lists of moments

after_append : (h : History) (ms ns : List Moment) → after_all h (ms ++ ns) ≡ after_all (after_all h ms) ns
after_append h [] ns = refl
after_append h (m ∷ ms) ns = after_append (noted h m) ms ns

known_append : (k : PairKnown) (ms ns : List PairMoment) → known_after k (ms ++ ns) ≡ known_after (known_after k ms) ns
known_append k [] ns = refl
known_append k (m ∷ ms) ns = known_append (known_behind k m) ms ns

-- dones that are told, and more behind them
each_append : (sending : List Moment → Sending) (k : PairKnown) (front : List Moment) (ms ns : List PairMoment) → EachDoneIsTold sending k front ms
    → EachDoneIsTold sending (known_after k ms) (front ++ moments_of_a ms) ns → EachDoneIsTold sending k front (ms ++ ns)
each_append sending k front [] ns h more = subst (λ l. EachDoneIsTold sending k l ns) (append-nil front) more
each_append sending k front (OfA m ∷ ms) ns h more = (
  h.0,
  each_append sending (known_behind k (OfA m)) (front ++ m ∷ []) ms ns h.1
      (subst (λ l. EachDoneIsTold sending (known_after k (OfA m ∷ ms)) l ns) (sym (append_assoc front (m ∷ []) (moments_of_a ms))) more),
)
each_append sending k front (OfB m ∷ ms) ns h more = each_append sending (known_behind k (OfB m)) front ms ns h more

-- what the attempts of B consume is told by its moments
consuming_is : (k : PairKnown) (ms : List PairMoment) → (known_after k ms).consuming ≡ consuming_after k.b (moments_of_b ms) k.consuming
consuming_is k [] = refl
consuming_is k (OfA m ∷ ms) = consuming_is (known_behind k (OfA m)) ms
consuming_is k (OfB m ∷ ms) = consuming_is (known_behind k (OfB m)) ms

-- ---- a run

module _ (first : Pair) (a b : History) (sending : List Moment → Sending) (consumed : List Moment → List ℕ) (keeps : BothKeep first a b sending consumed) where
  abbrev head : Option ℕ
  head = head_of b.map

  -- what is told behind moments, where this was known in front of them
  abbrev Tells : PairKnown → List Moment → List PairMoment → Pair → Type 0
  Tells k of_a ms p = TellsOn head sending k of_a ms (of_a ++ moments_of_a ms) (after_all a (of_a ++ moments_of_a ms)) p

  -- the same, where the moments of A are these
  tells_at : (k : PairKnown) (of_a ns : List Moment) (ms : List PairMoment) (p : Pair) → moments_of_a ms ≡ ns
      → TellsOn head sending k of_a ms (of_a ++ ns) (after_all a (of_a ++ ns)) p → Tells k of_a ms p
  tells_at k of_a ns ms p e t = subst (λ l. TellsOn head sending k of_a ms (of_a ++ l) (after_all a (of_a ++ l)) p) (sym e) t

  -- something is brought, which tells nothing
  tells_none : (k : PairKnown) (of_a : List Moment) (p q : Pair) → q.hand ≡ p.hand → Telling head (sending of_a) (after_all a of_a) k p → Tells k of_a [] q
  tells_none k of_a p q same t = record {
    told = tt;
    telling = subst (λ l. Telling head (sending l) (after_all a l) k q) (sym (append-nil of_a))
        (telling_moves head (sending of_a) (after_all a of_a) k p q same t);
  }

  action_tells : (act : PairAction) (p q : Pair) (k : PairKnown) (of_a of_b : List Moment) (ms : List PairMoment) → IsMidway head first sending of_a of_b p
      → Telling head (sending of_a) (after_all a of_a) k p → Acts head act p ms q → Tells k of_a ms q
  action_tells act p q k of_a of_b ms m t (ActsA _ ns s steps) =
      let sends : EachSends sending m.heard (after_all a of_a) of_a ns = keeps.sender.steps m.heard of_a ns p.a s m.a steps in
      tells_at k of_a ns ms q (a_of_a ns)
      (subst (λ h. TellsOn head sending k of_a ms (of_a ++ ns) h q) (sym (after_append a of_a ns))
      (each_a head sending m.heard m.brought (after_all a of_a) k of_a ns p s sends m.joined t))
  action_tells act p q k of_a of_b ms m t (ActsB _ ns s steps) =
      let listens : EachListens head m.brought p.hand ns =
      subst (λ h. EachListens head m.brought h ns) (sym m.hand) (keeps.listener.steps m.brought of_b ns p.b s m.b steps) in
      tells_at k of_a [] ms q (a_of_b ns)
      (subst (λ l. TellsOn head sending k of_a ms l (after_all a l) q) (sym (append-nil of_a))
      (each_b head sending m.heard m.brought (after_all a of_a) k of_a ns p s listens t))
  action_tells act p q k of_a of_b ms m t (Brings _ i) = tells_none k of_a p q refl t
  action_tells act p q k of_a of_b ms m t (Acknowledges _ i) = tells_none k of_a p q refl t
  action_tells act p q k of_a of_b ms m t (BringsNewest _) = tells_none k of_a p q refl t
  action_tells act p q k of_a of_b ms m t (AcknowledgesNewest _) = tells_none k of_a p q refl t

  -- behind a run they are joined, and its dones are told
  record RunKeeps (k : PairKnown) (of_a of_b : List Moment) (ms : List PairMoment) (q : Pair) : Type 0 where
    midway : IsMidway head first sending (of_a ++ moments_of_a ms) (of_b ++ moments_of_b ms) q
    told : EachDoneIsTold sending k of_a ms

  nothing_more : (k : PairKnown) (of_a of_b : List Moment) (p : Pair) → IsMidway head first sending of_a of_b p → RunKeeps k of_a of_b [] p
  nothing_more k of_a of_b p m = record {
    midway = at_equal (λ l r. IsMidway head first sending l r p) (sym (append-nil of_a)) (sym (append-nil of_b)) m;
    told = tt;
  }

  run_keeps : (acts : List PairAction) (p q : Pair) (k : PairKnown) (of_a of_b : List Moment) (ms : List PairMoment) → PairRun head acts p ms q
      → IsMidway head first sending of_a of_b p → Telling head (sending of_a) (after_all a of_a) k p → RunKeeps k of_a of_b ms q
  run_keeps acts p q k of_a of_b ms (Over _) m t = nothing_more k of_a of_b p m
  run_keeps acts p q k of_a of_b ms (Full act more _ full) m t = nothing_more k of_a of_b p m
  run_keeps acts p q k of_a of_b all (Then act more _ mid _ ms ns few does rest) m t =
      let one = actions_keep_joined a b first p mid sending consumed act of_a of_b ms keeps m few does in
      let tells = action_tells act p mid k of_a of_b ms m t does in
      let go = run_keeps more mid q (known_after k ms) (of_a ++ moments_of_a ms) (of_b ++ moments_of_b ms) ns rest one tells.telling in
      record {
        midway = at_equal (λ l r. IsMidway head first sending l r q) (a_behind of_a ms ns) (b_behind of_b ms ns) go.midway;
        told = each_append sending k of_a ms ns tells.told go.told;
      }

  -- before the first step
  at_first : IsNew first a → IsMidway head first sending [] [] first
  at_first new =
      let x = sending [] in
      let none : first.hand.accepted ≡ [] = ap (λ h. h.accepted) new.hand in
      let P : List ℕ → Type 0 = λ l. All (λ n. n ≤ length first.hand.accepted) l in
      record {
        heard = [];
        brought = [];
        a = Begins;
        b = Begins;
        hand = new.hand;
        joined = record {
          leads = Level (none ∙ sym (ap (λ y. y.taken) keeps.sender.begins));
          packets = subst (λ l. All (IsPacketOf x) l) (sym new.packets) (All-nil (IsPacketOf x));
          acknowledgements = subst P (sym new.acknowledgements) (All-nil (λ n. n ≤ length first.hand.accepted));
          heard = All-nil (λ n. n ≤ length first.hand.accepted);
          brought = All-nil (IsPacketOf x);
          few = omega (arith, ap length none);
          order = subst (λ y. AreInOrder y) (sym keeps.sender.begins) (record { closed = front_self []; taken = front_self [] });
        };
      }

  telling_at_first : IsNew first a → Telling head (sending []) a (known_at_first a b) first
  telling_at_first new = record {
    words = [];
    tells = record { accepted = new.accepted; more = new.more };
    are = ap (λ y. y.closed ++ []) keeps.sender.begins ∙ sym (ap (λ h. h.accepted) new.hand);
    keeps = record { map = refl; gate = refl };
    hand = sym new.hand;
    head_is = refl;
  }

  words_kept : (acts : List PairAction) (ms : List PairMoment) (last : Pair) → IsNew first a → PairRun head acts first ms last
      → KeepsWords first a b sending consumed ms last
  words_kept acts ms last new run =
      let k = known_at_first a b in
      let all = run_keeps acts first last k [] [] ms run (at_first new) (telling_at_first new) in
      let m = all.midway in
      let consumes = keeps.listener.consumes m.brought (moments_of_b ms) last.b m.b in
      record {
        midway = m;
        accepted = emitted_front (sending (moments_of_a ms)) last.hand.accepted m.joined.order.taken m.joined.leads;
        consumed_words = subst (λ h. IsFront (consumed (moments_of_b ms)) h.accepted) (sym m.hand) consumes.words;
        consumed_count = consumes.count ∙ ap (λ c. c.consumed) (sym (consuming_is k ms));
        told = all.told;
      }

pub pairs_keep_words : PairsKeepWords
pairs_keep_words first last a b sending consumed acts ms new keeps run = words_kept first a b sending consumed keeps acts ms last new run
