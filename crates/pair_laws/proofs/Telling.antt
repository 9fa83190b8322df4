-- What A's lines tell of its words.
use Rattle.std.proofs.Common.{◌≡◌, ◌<◌, ◌+◌, ℕ, arith, refl, sym, ◌∙◌, ap, ap₂, subst, ◌⊎◌, inl, inr, Bool, true, false, if◌then◌else◌, nat_lt}
use Rattle.std.proofs.Common.{List, [], ◌∷◌, ◌++◌, append_assoc, append-nil, length, drop, map, Option, Some, None}
use Rattle.std.proofs.Math.Seq.{drop-append_seam}
use Rattle.alp_io.specs.Count.{risen}
use Rattle.image_text.specs.image_map.MapValue.{MapValue}
use Rattle.radio_link.specs.declared.air.Packet.{Packet}
use Rattle.fram_board.specs.Gate.{is_done, is_decide}
use Rattle.fram_board.specs.Board.{BoardValue}
use Rattle.fram_board.specs.Run.{Moment, Action, PowerUp, Execute, StepKind, accepted_by, word_list}
use Rattle.fram_board.specs.declared.board.Stepped.{Stepped}
use Rattle.board_run.specs.History.{History, start_with, with_word, with_words, word_in, decided, completed, behind_instruction, behind_power_up}
use Rattle.board_run.specs.History.{behind_action, noted}
use Rattle.board_run.specs.Report.{after_all}
use Rattle.board_run.specs.Events.{Hand, head_of, hand_behind}
use Rattle.board_run.specs.Stepwise.{RunState}
use Rattle.board_run.proofs.Interface.{after_map}
use Rattle.pair_run.specs.Pair.{Pair, PairMoment, OfA, OfB, behind_a, behind_b}
use Rattle.pair_run.specs.Lines.{PairKnown, known_behind, known_after, accepted_between}
use Rattle.pair_laws.specs.Sender.{Sending, SenderMoment, IsClosedBy, completes_by, completes, EachSends}
use Rattle.pair_laws.specs.Listener.{Accepts, ListenerMoment, EachListens}
use Rattle.pair_laws.specs.Joined.{Leads, Level, Ahead, IsJoined}
use Rattle.pair_laws.specs.Told.{TellAlike, TellsWords, IsToldDone, IsToldIf, EachDoneIsTold}
use Rattle.pair_laws.proofs.Fronts.{front_length, one_longer}
use Rattle.pair_laws.proofs.Moments.{sender_moment}

-- ---- words that a history has

-- a word more, where so many were told
word_if : (b c : Bool) (h k : History) (w : ℕ) → b ≡ c → TellAlike h k
    → TellAlike (if b then record h { accepted = h.accepted ++ w ∷ [] } else record h { more = risen h.more })
    (if c then record k { accepted = k.accepted ++ w ∷ [] } else record k { more = risen k.more })
word_if true true h k w e t = record { accepted = ap (λ l. l ++ w ∷ []) t.accepted; more = t.more }
word_if true false h k w e t = cc
word_if false true h k w e t = cc
word_if false false h k w e t = record { accepted = t.accepted; more = ap risen t.more }

words_alike : (h k : History) (ws : List ℕ) → TellAlike h k → TellAlike (with_words h ws) (with_words k ws)
words_alike h k [] t = t
words_alike h k (w ∷ ws) t =
    words_alike (with_word h w) (with_word k w) ws
    (word_if (nat_lt (length h.accepted) 256) (nat_lt (length k.accepted) 256) h k w (ap (λ l. nat_lt (length l) 256) t.accepted) t)

words_append : (h : History) (ws vs : List ℕ) → with_words h (ws ++ vs) ≡ with_words (with_words h ws) vs
words_append h [] vs = refl
words_append h (w ∷ ws) vs = words_append (with_word h w) ws vs

-- words more
tells_more : (h : History) (ws vs : List ℕ) → TellsWords h ws → TellsWords (with_words h vs) (ws ++ vs)
tells_more h ws vs t =
    let new = start_with [] None in
    subst (λ k. TellAlike (with_words h vs) k) (sym (words_append new ws vs)) (words_alike h (with_words new ws) vs t)

alike_then : (h k l : History) → TellAlike h k → TellAlike k l → TellAlike h l
alike_then h k l t u = record { accepted = t.accepted ∙ u.accepted; more = t.more ∙ u.more }

-- words change neither the map nor GATE
pub record Keeps (h k : History) : Type 0 where
  pub map : h.map ≡ k.map
  pub gate : h.gate ≡ k.gate

word_keeps : (b : Bool) (h : History) (w : ℕ)
    → Keeps (if b then record h { accepted = h.accepted ++ w ∷ [] } else record h { more = risen h.more }) h
word_keeps true h w = record { map = refl; gate = refl }
word_keeps false h w = record { map = refl; gate = refl }

words_keep : (h : History) (ws : List ℕ) → Keeps (with_words h ws) h
words_keep h [] = record { map = refl; gate = refl }
words_keep h (w ∷ ws) =
    let rest = words_keep (with_word h w) ws in
    let one = word_keeps (nat_lt (length h.accepted) 256) h w in
    record { map = rest.map ∙ one.map; gate = rest.gate ∙ one.gate }

-- ---- what a moment makes of a history

-- GATE is told by the map
abbrev gate_behind : Option MapValue → ℕ → Action → BoardValue → ℕ
gate_behind None gate action b = gate
gate_behind (Some m) gate PowerUp b = gate
gate_behind (Some m) gate (Execute kind done offered) b = word_in b.fram m.words.gate

power_gate : (o : Option MapValue) (h : History) (b : BoardValue) → (behind_power_up o h b).gate ≡ gate_behind o h.gate PowerUp b
power_gate None h b = refl
power_gate (Some m) h b = refl

step_gate : (o : Option MapValue) (h : History) (ws : List ℕ) (b : BoardValue) (kind : StepKind) (done : Stepped) (offered : Option ℕ)
    → (behind_instruction o h ws b).gate ≡ gate_behind o h.gate (Execute kind done offered) b
step_gate None h ws b kind done offered = refl
step_gate (Some m) h ws b kind done offered = refl

action_gate : (a : Action) (h : History) (b : BoardValue) → (behind_action a h b).gate ≡ gate_behind h.map h.gate a b
action_gate PowerUp h b = power_gate h.map h b
action_gate (Execute kind done offered) h b = step_gate h.map h (word_list done.accepted) b kind done offered

noted_gate : (h : History) (m : Moment) → (noted h m).gate ≡ gate_behind h.map h.gate m.action m.after
unfolding noted
noted_gate h m = action_gate m.action h m.after

noted_keeps : (h k : History) (m : Moment) → Keeps h k → Keeps (noted h m) (noted k m)
noted_keeps h k m e = record {
  map = after_map h (m ∷ []) ∙ e.map ∙ sym (after_map k (m ∷ []));
  gate = noted_gate h m ∙ ap₂ (λ o g. gate_behind o g m.action m.after) e.map e.gate ∙ sym (noted_gate k m);
}

completes_alike : (h k : History) (m : Moment) → Keeps h k → completes h m ≡ completes k m
completes_alike h k m e = ap₂ (λ o g. completes_by o g m.action m.after) e.map e.gate

-- the words of a history behind a moment that accepts none itself: none behind a done, else the same
abbrev HasWordsBy : Bool → History → History → Type 0
HasWordsBy true h behind = TellsWords behind []
HasWordsBy false h behind = TellAlike behind h

gated_words : (m : MapValue) (h : History) (b : BoardValue) (now : ℕ) (d e : Bool)
    → HasWordsBy d h (record (if d then completed m h b else if e then decided h b else h) { gate = now })
gated_words m h b now true e = record { accepted = refl; more = refl }
gated_words m h b now false true = record { accepted = refl; more = refl }
gated_words m h b now false false = record { accepted = refl; more = refl }

power_words : (o : Option MapValue) (h : History) (b : BoardValue) → HasWordsBy (completes_by o h.gate PowerUp b) h (behind_power_up o h b)
power_words None h b = record { accepted = refl; more = refl }
power_words (Some m) h b = record { accepted = refl; more = refl }

step_words : (o : Option MapValue) (h : History) (b : BoardValue) (kind : StepKind) (done : Stepped) (offered : Option ℕ)
    → HasWordsBy (completes_by o h.gate (Execute kind done offered) b) h (behind_instruction o h [] b)
step_words None h b kind done offered = record { accepted = refl; more = refl }
step_words (Some m) h b kind done offered =
    let now = word_in b.fram m.words.gate in
    gated_words m h b now (is_done h.gate now) (is_decide h.gate now)

action_words : (a : Action) (h : History) (b : BoardValue) → accepted_by a ≡ [] → HasWordsBy (completes_by h.map h.gate a b) h (behind_action a h b)
action_words PowerUp h b own = power_words h.map h b
action_words (Execute kind done offered) h b own =
    subst (λ ws. HasWordsBy (completes_by h.map h.gate (Execute kind done offered) b) h (behind_instruction h.map h ws b)) (sym own)
    (step_words h.map h b kind done offered)

noted_words : (h : History) (m : Moment) → accepted_by m.action ≡ [] → HasWordsBy (completes h m) h (noted h m)
unfolding noted
noted_words h m own = action_words m.action h m.after own

-- ---- what is known of a pair

-- A's next lines tell the words that B accepted since A's last done; in front of it A had so much closed
pub record Telling (head : Option ℕ) (x : Sending) (h : History) (k : PairKnown) (p : Pair) : Type 0 where
  pub words : List ℕ
  pub tells : TellsWords k.a words
  pub are : x.closed ++ words ≡ p.hand.accepted
  pub keeps : Keeps k.a h
  pub hand : k.hand ≡ p.hand
  pub head_is : head_of k.b.map ≡ head

-- so it is of a pair whose B accepted the same
pub telling_moves : (head : Option ℕ) (x : Sending) (h : History) (k : PairKnown) (p q : Pair) → q.hand ≡ p.hand → Telling head x h k p
    → Telling head x h k q
telling_moves head x h k p q same t = record {
  words = t.words;
  tells = t.tells;
  are = t.are ∙ ap (λ g. g.accepted) (sym same);
  keeps = t.keeps;
  hand = t.hand ∙ sym same;
  head_is = t.head_is;
}

-- where A closes, B has accepted exactly what A emitted
level_at_done : (x : Sending) (accepted : List ℕ) → x.taken ≡ x.emitted → Leads x accepted → accepted ≡ x.emitted
level_at_done x accepted all (Level e) = e ∙ all
level_at_done x accepted all (Ahead w e f) =
    let long = ap length e ∙ one_longer x.taken w in
    let short = front_length accepted x.emitted f in
    absurd (omega (arith, long, short, ap length all))

-- a moment of A, and whether it completes a transition
record ToldBehind (head : Option ℕ) (d : Bool) (x y : Sending) (h : History) (k behind : PairKnown) (p : Pair) : Type 0 where
  told : IsToldIf d x y k
  telling : Telling head y h behind p

module _ (head : Option ℕ) (x y : Sending) (h : History) (k : PairKnown) (p : Pair) (m : Moment) (t : Telling head x h k p) (leads : Leads x p.hand.accepted) where
  told_by : (d : Bool) → IsClosedBy d x y → HasWordsBy d k.a (noted k.a m) → ToldBehind head d x y (noted h m) k (known_behind k (OfA m)) p
  told_by true closed none =
      let all : p.hand.accepted ≡ y.closed = level_at_done x p.hand.accepted closed.0 leads ∙ sym closed.1 in
      record {
        told = record { words = t.words; tells = t.tells; emitted = t.are ∙ all; accepted = ap (λ g. g.accepted) t.hand ∙ all };
        telling = record {
          words = [];
          tells = none;
          are = append-nil y.closed ∙ sym all;
          keeps = noted_keeps k.a h m t.keeps;
          hand = t.hand;
          head_is = t.head_is;
        };
      }
  told_by false closed same = record {
    told = tt;
    telling = record {
      words = t.words;
      tells = alike_then (noted k.a m) k.a (with_words (start_with [] None) t.words) same t.tells;
      are = ap (λ l. l ++ t.words) closed ∙ t.are;
      keeps = noted_keeps k.a h m t.keeps;
      hand = t.hand;
      head_is = t.head_is;
    };
  }

  telling_a : (heard : List ℕ) → SenderMoment heard (completes h m) m x y
      → ToldBehind head (completes k.a m) x y (noted h m) k (known_behind k (OfA m)) p
  telling_a heard s =
      let same : completes k.a m ≡ completes h m = completes_alike k.a h m t.keeps in
      told_by (completes k.a m) (subst (λ d. IsClosedBy d x y) (sym same) s.closed) (noted_words k.a m s.own)

-- the words that B accepts in a moment
record Grows (before behind : List ℕ) : Type 0 where
  words : List ℕ
  are : behind ≡ before ++ words

accepted_more : (brought : List Packet) (before behind : List ℕ) → (behind ≡ before) ⊎ Accepts brought before behind → Grows before behind
accepted_more brought before behind (inl e) = record { words = []; are = e ∙ sym (append-nil before) }
accepted_more brought before behind (inr c) = record { words = c.packet.word ∷ []; are = c.next }

-- the words between are those
between : (before behind : Hand) (g : Grows before.accepted behind.accepted) → accepted_between before behind ≡ g.words
between before behind g = ap (λ l. drop (length before.accepted) l) g.are ∙ drop-append_seam before.accepted g.words

telling_b : (head : Option ℕ) (x : Sending) (h : History) (k : PairKnown) (p : Pair) (m : Moment) (b : RunState) (brought : List Packet)
    → Telling head x h k p → ListenerMoment head brought p.hand m → Telling head x h (known_behind k (OfB m)) (behind_b head p (m ∷ []) b)
telling_b head x h k p m b brought t l =
    let now = hand_behind head m p.hand in
    let grows = accepted_more brought p.hand.accepted now.accepted l.accepted in
    let hand : hand_behind (head_of k.b.map) m k.hand ≡ now = ap₂ (λ o g. hand_behind o m g) t.head_is t.hand in
    let ws : accepted_between k.hand (hand_behind (head_of k.b.map) m k.hand) ≡ grows.words = ap₂ accepted_between t.hand hand ∙ between p.hand now grows in
    let keeps = words_keep k.a (accepted_between k.hand (hand_behind (head_of k.b.map) m k.hand)) in
    record {
      words = t.words ++ grows.words;
      tells = subst (λ vs. TellsWords (with_words k.a vs) (t.words ++ grows.words)) (sym ws) (tells_more k.a t.words grows.words t.tells);
      are = sym (append_assoc x.closed t.words grows.words) ∙ ap (λ l. l ++ grows.words) t.are ∙ sym grows.are;
      keeps = record { map = keeps.map ∙ t.keeps.map; gate = keeps.gate ∙ t.keeps.gate };
      hand = hand;
      head_is = ap head_of (after_map k.b (m ∷ [])) ∙ t.head_is;
    }

-- ---- moments one after the other

-- the dones among these moments are told, and so will be those behind them
pub record TellsOn (head : Option ℕ) (sending : List Moment → Sending) (k : PairKnown) (front : List Moment) (ms : List PairMoment) (behind : List Moment)
    (h : History) (p : Pair) : Type 0
  where
    pub told : EachDoneIsTold sending k front ms
    pub telling : Telling head (sending behind) h (known_after k ms) p

module _ (head : Option ℕ) (sending : List Moment → Sending) (heard : List ℕ) (brought : List Packet) where
  -- those of A
  pub each_a : (h : History) (k : PairKnown) (front ns : List Moment) (p : Pair) (a : RunState) → EachSends sending heard h front ns
      → IsJoined (sending front) heard brought p → Telling head (sending front) h k p
      → TellsOn head sending k front (map (λ m. OfA m) ns) (front ++ ns) (after_all h ns) (behind_a p ns a)
  each_a h k front [] p a sends j t = record {
    told = tt;
    telling = subst (λ l. Telling head (sending l) h k (behind_a p [] a)) (sym (append-nil front))
        (telling_moves head (sending front) h k p (behind_a p [] a) refl t);
  }
  each_a h k front (m ∷ ns) p a sends j t =
      let x = sending front in
      let y = sending (front ++ m ∷ []) in
      let one = telling_a head x y h k p m t j.leads heard sends.0 in
      let moved = telling_moves head y (noted h m) (known_behind k (OfA m)) p (behind_a p (m ∷ []) a) refl one.telling in
      let joined = sender_moment x y heard brought p (completes h m) m a j sends.0 in
      let rest = each_a (noted h m) (known_behind k (OfA m)) (front ++ m ∷ []) ns (behind_a p (m ∷ []) a) a sends.1 joined moved in
      record {
        told = (one.told, rest.told);
        telling = subst (λ l. Telling head (sending l) (after_all (noted h m) ns) (known_after k (map (λ n. OfA n) (m ∷ ns))) (behind_a p (m ∷ ns) a))
            (append_assoc front (m ∷ []) ns) rest.telling;
      }

  -- those of B
  pub each_b : (h : History) (k : PairKnown) (front ns : List Moment) (p : Pair) (b : RunState) → EachListens head brought p.hand ns
      → Telling head (sending front) h k p → TellsOn head sending k front (map (λ m. OfB m) ns) front h (behind_b head p ns b)
  each_b h k front [] p b listens t = record { told = tt; telling = telling_moves head (sending front) h k p (behind_b head p [] b) refl t }
  each_b h k front (m ∷ ns) p b listens t =
      let one = telling_b head (sending front) h k p m b brought t listens.0 in
      let rest = each_b h (known_behind k (OfB m)) front ns (behind_b head p (m ∷ []) b) b listens.1 one in
      record { told = rest.told; telling = rest.telling }
