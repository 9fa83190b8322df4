-- Whatever is done to a pair keeps it joined.
use Rattle.std.proofs.Common.{◌≡◌, ◌<◌, ◌≤◌, ◌-◌, ℕ, refl, sym, ◌∙◌, ap, subst, Bool, true, false, if◌then◌else◌, List, [], ◌∷◌, ◌++◌, append-nil, length}
use Rattle.std.proofs.Common.{Option, Some, None}
use Rattle.std.specs.Prelude.{slice_get, All}
use Rattle.std.proofs.lemmas.List.Elements.{All-append, All-nil, All-cons}
use Rattle.radio_link.specs.declared.air.Packet.{Packet}
use Rattle.radio_link.specs.Sent.{SentValue, newest}
use Rattle.fram_board.specs.Run.{Moment}
use Rattle.board_run.specs.History.{History}
use Rattle.board_run.specs.Report.{after_all}
use Rattle.board_run.specs.Events.{head_of, no_hand, hand_after}
use Rattle.board_run.specs.Stepwise.{RunState}
use Rattle.pair_run.specs.Pair.{Pair, with_packet_brought, with_acknowledgement_brought, most_words, packet_at, acknowledgement_at, newest_packet}
use Rattle.pair_run.specs.Pair.{newest_acknowledgement, Acts, ActsA, ActsB, Brings, Acknowledges, BringsNewest, AcknowledgesNewest}
use Rattle.pair_laws.specs.Sides.{Goes}
use Rattle.pair_laws.specs.Sender.{Sending, IsPacketOf, EachSends}
use Rattle.pair_laws.specs.Listener.{EachListens}
use Rattle.pair_laws.specs.Joined.{IsJoined, IsMidway}
use Rattle.pair_laws.specs.Laws.{BothKeep, ActionsKeepJoined}
use Rattle.pair_laws.proofs.Fronts.{all_at}
use Rattle.pair_laws.proofs.Sides.{a_of_a, b_of_a, a_of_b, b_of_b, none_behind, at_equal, brought_of, packet_gets, acknowledgement_gets}
use Rattle.pair_laws.proofs.Steps.{hand_append, sends_joined, listens_joined}

-- ---- what is brought was sent

some_if : {T : Type 0} (P : T → Type 0) (waits : Bool) (xs : List T) (k : ℕ) (x : T) → All P xs → (if waits then slice_get xs k else None) ≡ Some x → P x
some_if P true xs k x h e = all_at P xs k x h e
some_if P false xs k x h e = cc

newest_at : {T : Type 0} (P : T → Type 0) (s : SentValue T) (x : T) → All P s.items → newest s ≡ Some x → P x
newest_at P s x h e = some_if P s.newest_waits s.items (length s.items - 1) x h e

brought_more : {T : Type 0} (P : T → Type 0) (xs : List T) (o : Option T) → All P xs → ((x : T) → o ≡ Some x → P x) → All P (xs ++ brought_of o)
brought_more P xs None h here = All-append P xs [] h (All-nil P)
brought_more P xs (Some x) h here = All-append P xs (x ∷ []) h (All-cons P x [] (here x refl) (All-nil P))

-- ---- and keeps a pair joined

abbrev with_packets : Option Packet → SentValue Packet → Pair → Pair
with_packets o s p = record p { b = with_packet_brought o p.b; packets = s }

abbrev with_acknowledgements : Option ℕ → SentValue ℕ → Pair → Pair
with_acknowledgements o s p = record p { a = with_acknowledgement_brought o p.a; acknowledgements = s }

module _ (head : Option ℕ) (first p : Pair) (sending : List Moment → Sending) (of_a of_b : List Moment) (m : IsMidway head first sending of_a of_b p) where
  -- a packet is brought, or none
  packet_keeps : (o : Option Packet) (s : SentValue Packet) → s.items ≡ p.packets.items
      → ((x : Packet) → o ≡ Some x → IsPacketOf (sending of_a) x) → IsMidway head first sending of_a of_b (with_packets o s p)
  packet_keeps o s same sent = record {
    heard = m.heard;
    brought = m.brought ++ brought_of o;
    a = m.a;
    b = packet_gets first.b p.b m.brought of_b o m.b;
    hand = m.hand;
    joined = record {
      leads = m.joined.leads;
      packets = subst (λ l. All (IsPacketOf (sending of_a)) l) (sym same) m.joined.packets;
      acknowledgements = m.joined.acknowledgements;
      heard = m.joined.heard;
      brought = brought_more (IsPacketOf (sending of_a)) m.brought o m.joined.brought sent;
      few = m.joined.few;
      order = m.joined.order;
    };
  }

  -- an acknowledgement
  acknowledgement_keeps : (o : Option ℕ) (s : SentValue ℕ) → s.items ≡ p.acknowledgements.items
      → ((n : ℕ) → o ≡ Some n → n ≤ length p.hand.accepted) → IsMidway head first sending of_a of_b (with_acknowledgements o s p)
  acknowledgement_keeps o s same sent = record {
    heard = m.heard ++ brought_of o;
    brought = m.brought;
    a = acknowledgement_gets first.a p.a m.heard of_a o m.a;
    b = m.b;
    hand = m.hand;
    joined = record {
      leads = m.joined.leads;
      packets = m.joined.packets;
      acknowledgements = subst (λ l. All (λ n. n ≤ length p.hand.accepted) l) (sym same) m.joined.acknowledgements;
      heard = brought_more (λ n. n ≤ length p.hand.accepted) m.heard o m.joined.heard sent;
      brought = m.joined.brought;
      few = m.joined.few;
      order = m.joined.order;
    };
  }

-- at the moments that nothing has
at_none : (P : List Moment → List Moment → Type 0) (xs ys : List Moment) → P xs ys → P (xs ++ []) (ys ++ [])
at_none P xs ys h = at_equal P (sym (append-nil xs)) (sym (append-nil ys)) h

pub actions_keep_joined : ActionsKeepJoined
actions_keep_joined a b first p q sending consumed act of_a of_b ms keeps m few (ActsA _ ns s steps) =
    let head = head_of b.map in
    let sends : EachSends sending m.heard (after_all a of_a) of_a ns = keeps.sender.steps m.heard of_a ns p.a s m.a steps in
    at_equal (λ l k. IsMidway head first sending l k q) (ap (λ l. of_a ++ l) (sym (a_of_a ns))) (sym (none_behind of_b _ (b_of_a ns)))
    (record {
      heard = m.heard;
      brought = m.brought;
      a = Goes m.heard of_a ns p.a s m.a steps;
      b = m.b;
      hand = m.hand;
      joined = sends_joined sending m.heard m.brought (after_all a of_a) of_a ns p s sends m.joined;
    })
actions_keep_joined a b first p q sending consumed act of_a of_b ms keeps m few (ActsB _ ns s steps) =
    let head = head_of b.map in
    let listens : EachListens head m.brought p.hand ns =
    subst (λ h. EachListens head m.brought h ns) (sym m.hand) (keeps.listener.steps m.brought of_b ns p.b s m.b steps) in
    at_equal (λ l k. IsMidway head first sending l k q) (sym (none_behind of_a _ (a_of_b ns))) (ap (λ l. of_b ++ l) (sym (b_of_b ns)))
    (record {
      heard = m.heard;
      brought = m.brought;
      a = m.a;
      b = Goes m.brought of_b ns p.b s m.b steps;
      hand = ap (λ h. hand_after head ns h) m.hand ∙ sym (hand_append head of_b ns no_hand);
      joined = listens_joined (sending of_a) m.heard m.brought head p p.b s s ns steps listens (few, m.joined);
    })
actions_keep_joined a b first p q sending consumed act of_a of_b ms keeps m few (Brings _ k) =
    let head = head_of b.map in
    at_none (λ xs ys. IsMidway head first sending xs ys (packet_at k p)) of_a of_b
    (packet_keeps head first p sending of_a of_b m (slice_get p.packets.items k) (packet_at k p).packets refl
    (λ x e. all_at (IsPacketOf (sending of_a)) p.packets.items k x m.joined.packets e))
actions_keep_joined a b first p q sending consumed act of_a of_b ms keeps m few (Acknowledges _ k) =
    let head = head_of b.map in
    at_none (λ xs ys. IsMidway head first sending xs ys (acknowledgement_at k p)) of_a of_b
    (acknowledgement_keeps head first p sending of_a of_b m (slice_get p.acknowledgements.items k) (acknowledgement_at k p).acknowledgements refl
    (λ n e. all_at (λ i. i ≤ length p.hand.accepted) p.acknowledgements.items k n m.joined.acknowledgements e))
actions_keep_joined a b first p q sending consumed act of_a of_b ms keeps m few (BringsNewest _) =
    let head = head_of b.map in
    at_none (λ xs ys. IsMidway head first sending xs ys (newest_packet p)) of_a of_b
    (packet_keeps head first p sending of_a of_b m (newest p.packets) (newest_packet p).packets refl
    (λ x e. newest_at (IsPacketOf (sending of_a)) p.packets x m.joined.packets e))
actions_keep_joined a b first p q sending consumed act of_a of_b ms keeps m few (AcknowledgesNewest _) =
    let head = head_of b.map in
    at_none (λ xs ys. IsMidway head first sending xs ys (newest_acknowledgement p)) of_a of_b
    (acknowledgement_keeps head first p sending of_a of_b m (newest p.acknowledgements) (newest_acknowledgement p).acknowledgements refl
    (λ n e. newest_at (λ i. i ≤ length p.hand.accepted) p.acknowledgements n m.joined.acknowledgements e))
