-- One moment of either side keeps a pair joined.
use Rattle.std.proofs.Common.{◌≡◌, ◌<◌, ◌≤◌, ◌+◌, ℕ, arith, refl, sym, ◌∙◌, ap, subst, ◌⊎◌, inl, inr, Bool, true, false, if◌then◌else◌, nat_lt}
use Rattle.std.proofs.Common.{List, [], ◌∷◌, ◌++◌, length, Option, Some, None}
use Rattle.std.specs.Prelude.{slice_get, All, Contains}
use Rattle.std.proofs.lemmas.List.Elements.{All-append, All-nil, All-cons, All-contains}
use Rattle.radio_link.specs.declared.air.Packet.{Packet}
use Rattle.radio_link.specs.Sent.{SentValue, with_sent}
use Rattle.fram_board.specs.Run.{Moment}
use Rattle.board_run.specs.Stepwise.{RunState}
use Rattle.board_run.specs.Events.{Hand, hand_behind}
use Rattle.pair_run.specs.Pair.{Pair, sent_by, with_packet, with_acknowledgement, behind_a, behind_b, most_words}
use Rattle.pair_laws.specs.Fronts.{IsFront}
use Rattle.pair_laws.specs.Numbers.{word_number}
use Rattle.pair_laws.specs.Sender.{Sending, IsPacketOf, Confirms, SenderMoment}
use Rattle.pair_laws.specs.Listener.{Accepts, ListenerMoment}
use Rattle.pair_laws.specs.Joined.{Leads, Level, Ahead, IsJoined}
use Rattle.pair_laws.proofs.Numbers.{above_is_greater, numbers_tell_places}
use Rattle.pair_laws.proofs.Fronts.{front_self, front_then, front_length, one_longer, get_kept, same_next, front_longer, all_then}

-- ---- what is sent

one_more : {T : Type 0} (P : T → Type 0) (more : Bool) (s : SentValue T) (x : T) → All P s.items → P x
    → All P (if more then record { items = s.items ++ x ∷ []; newest_waits = true } else s).items
one_more P true s x h here = All-append P s.items (x ∷ []) h (All-cons P x [] here (All-nil P))
one_more P false s x h here = h

sent_more : {T : Type 0} (P : T → Type 0) (s : SentValue T) (x : T) → All P s.items → P x → All P (with_sent s x).items
sent_more P s x h here = one_more P (nat_lt (length s.items) 1000000) s x h here

packet_more : (P : Packet → Type 0) (o : Option (ℕ × ℕ)) (s : SentValue Packet) → All P s.items
    → ((p : ℕ × ℕ) → o ≡ Some p → P (record { number = p.0; word = p.1 })) → All P (with_packet o s).items
packet_more P None s h here = h
packet_more P (Some p) s h here = sent_more P s (record { number = p.0; word = p.1 }) h (here p refl)

acknowledgement_more : (P : ℕ → Type 0) (o : Option (ℕ × ℕ)) (s : SentValue ℕ) → All P s.items → ((p : ℕ × ℕ) → o ≡ Some p → P p.0)
    → All P (with_acknowledgement o s).items
acknowledgement_more P None s h here = h
acknowledgement_more P (Some p) s h here = sent_more P s p.0 h (here p refl)

-- ---- B leads A

-- A knows of no more words than B accepted, of which all were emitted
known_length : (x : Sending) (accepted : List ℕ) → Leads x accepted → length x.taken ≤ length accepted
known_length x accepted (Level e) = omega (arith, ap length e)
known_length x accepted (Ahead w e f) = omega (arith, ap length e, one_longer x.taken w)

pub emitted_front : (x : Sending) (accepted : List ℕ) → IsFront x.taken x.emitted → Leads x accepted → IsFront accepted x.emitted
emitted_front x accepted order (Level e) = subst (λ l. IsFront l x.emitted) (sym e) order
emitted_front x accepted order (Ahead w e f) = f

-- a packet of A's words is one of more words
packet_kept : (x y : Sending) (p : Packet) → IsFront x.emitted y.emitted → length x.taken ≤ length y.taken → IsPacketOf x p → IsPacketOf y p
packet_kept x y p emitted more h = record {
  place = h.place;
  number = h.number;
  word = get_kept x.emitted y.emitted h.place p.word emitted h.word;
  within = omega (arith, h.within);
}

-- ---- a moment of A

taken_grows : (x y : Sending) (heard : List ℕ) → (y.taken ≡ x.taken) ⊎ Confirms heard x.taken y.taken → length x.taken ≤ length y.taken
taken_grows x y heard (inl e) = omega (arith, ap length e)
taken_grows x y heard (inr c) = omega (arith, ap length c.next, one_longer x.taken c.word)

-- an acknowledgement that was brought, or 0, is at most the number of the accepted words
heard_most : (heard : List ℕ) (most a : ℕ) → All (λ n. n ≤ most) heard → (a ≡ 0) ⊎ Contains heard a → a ≤ most
heard_most heard most a h (inl e) = omega arith
heard_most heard most a h (inr c) = All-contains (λ n. n ≤ most) heard a h c

-- A takes a word for accepted: B had accepted it, and is level then
levels : (x y : Sending) (heard accepted : List ℕ) → IsFront x.emitted y.emitted → IsFront y.taken y.emitted → (c : Confirms heard x.taken y.taken)
    → length x.taken < length accepted → Leads x accepted → Leads y accepted
levels x y heard accepted emitted order c ahead (Level e) = absurd (omega (arith, ap length e))
levels x y heard accepted emitted order c ahead (Ahead w e f) =
    let here : IsFront (x.taken ++ w ∷ []) y.emitted = subst (λ l. IsFront l y.emitted) e (front_then accepted x.emitted y.emitted f emitted) in
    let there : IsFront (x.taken ++ c.word ∷ []) y.emitted = subst (λ l. IsFront l y.emitted) c.next order in
    Level (e ∙ ap (λ v. x.taken ++ v ∷ []) (same_next x.taken y.emitted w c.word here there) ∙ sym c.next)

stays_ahead : (x y : Sending) (accepted : List ℕ) → IsFront x.emitted y.emitted → y.taken ≡ x.taken → Leads x accepted → Leads y accepted
stays_ahead x y accepted emitted same (Level e) = Level (e ∙ sym same)
stays_ahead x y accepted emitted same (Ahead w e f) =
    Ahead w (e ∙ ap (λ l. l ++ w ∷ []) (sym same)) (front_then accepted x.emitted y.emitted f emitted)

leads_behind : (x y : Sending) (heard : List ℕ) (brought : List Packet) (p : Pair) → IsJoined x heard brought p → IsFront x.emitted y.emitted
    → IsFront y.taken y.emitted → (y.taken ≡ x.taken) ⊎ Confirms heard x.taken y.taken → Leads y p.hand.accepted
leads_behind x y heard brought p j emitted order (inl same) = stays_ahead x y p.hand.accepted emitted same j.leads
leads_behind x y heard brought p j emitted order (inr c) =
    let behind : length x.taken ≤ length p.hand.accepted = known_length x p.hand.accepted j.leads in
    let few : length x.taken ≤ most_words = omega (arith, j.few) in
    let above : length x.taken < c.acknowledgement = above_is_greater c.acknowledgement (length x.taken) few c.above in
    let most : c.acknowledgement ≤ length p.hand.accepted = heard_most heard (length p.hand.accepted) c.acknowledgement j.heard c.comes in
    levels x y heard p.hand.accepted emitted order c (omega arith) j.leads

pub sender_moment : (x y : Sending) (heard : List ℕ) (brought : List Packet) (p : Pair) (done : Bool) (m : Moment) (a : RunState)
    → IsJoined x heard brought p → SenderMoment heard done m x y → IsJoined y heard brought (behind_a p (m ∷ []) a)
sender_moment x y heard brought p done m a j s =
    let more = taken_grows x y heard s.taken in
    let kept : (q : Packet) → IsPacketOf x q → IsPacketOf y q = λ q. packet_kept x y q s.emitted more in
    record {
      leads = leads_behind x y heard brought p j s.emitted s.order.taken s.taken;
      packets = packet_more (IsPacketOf y) (sent_by m.action) p.packets (all_then (IsPacketOf x) (IsPacketOf y) p.packets.items kept j.packets)
          (λ q e. kept (record { number = q.0; word = q.1 }) (s.sent q e));
      acknowledgements = j.acknowledgements;
      heard = j.heard;
      brought = all_then (IsPacketOf x) (IsPacketOf y) brought kept j.brought;
      few = j.few;
      order = s.order;
    }

-- ---- a moment of B

-- the word that B accepts is the next one
accepts_next : (x : Sending) (accepted : List ℕ) (p : Packet) → IsFront x.taken x.emitted → Leads x accepted → length accepted < most_words → IsPacketOf x p
    → p.number ≡ word_number (length accepted) → Leads x (accepted ++ p.word ∷ [])
accepts_next x accepted p order (Level e) few h number =
    let long : length accepted ≡ length x.taken = ap length e in
    let place : h.place ≡ length accepted =
    numbers_tell_places h.place (length accepted) (omega (arith, h.within)) (omega arith) (sym h.number ∙ number) in
    let word : slice_get x.emitted (length accepted) ≡ Some p.word = subst (λ k. slice_get x.emitted k ≡ Some p.word) place h.word in
    Ahead p.word (ap (λ l. l ++ p.word ∷ []) e)
    (front_longer accepted x.emitted p.word (subst (λ l. IsFront l x.emitted) (sym e) order) word)
accepts_next x accepted p order (Ahead w e f) few h number =
    let long : length accepted ≡ length x.taken + 1 = ap length e ∙ one_longer x.taken w in
    let place : h.place ≡ length accepted =
    numbers_tell_places h.place (length accepted) (omega (arith, h.within)) (omega arith) (sym h.number ∙ number) in
    absurd (omega (arith, h.within))

accepted_grows : (brought : List Packet) (before behind : List ℕ) → (behind ≡ before) ⊎ Accepts brought before behind
    → (length before ≤ length behind) × (length behind ≤ length before + 1)
accepted_grows brought before behind (inl e) = (omega (arith, ap length e), omega (arith, ap length e))
accepted_grows brought before behind (inr c) =
    let long : length behind ≡ length before + 1 = ap length c.next ∙ one_longer before c.packet.word in
    (omega arith, omega arith)

accepts_more : (x : Sending) (brought : List Packet) (before behind : List ℕ) → IsFront x.taken x.emitted → All (IsPacketOf x) brought
    → length before < most_words → Leads x before → (behind ≡ before) ⊎ Accepts brought before behind → Leads x behind
accepts_more x brought before behind order all few leads (inl e) = subst (λ l. Leads x l) (sym e) leads
accepts_more x brought before behind order all few leads (inr c) =
    subst (λ l. Leads x l) (sym c.next)
    (accepts_next x before c.packet order leads few (All-contains (IsPacketOf x) brought c.packet all c.comes) c.number)

pub listener_moment : (x : Sending) (heard : List ℕ) (brought : List Packet) (head : Option ℕ) (p : Pair) (m : Moment) (b : RunState)
    → IsJoined x heard brought p → length p.hand.accepted < most_words → ListenerMoment head brought p.hand m
    → IsJoined x heard brought (behind_b head p (m ∷ []) b)
listener_moment x heard brought head p m b j few l =
    let before = p.hand.accepted in
    let behind = (hand_behind head m p.hand).accepted in
    let grows = accepted_grows brought before behind l.accepted in
    let low : length before ≤ length behind = grows.0 in
    let high : length behind ≤ length before + 1 = grows.1 in
    let more : (n : ℕ) → n ≤ length before → n ≤ length behind = λ n h. omega arith in
    record {
      leads = accepts_more x brought before behind j.order.taken j.brought few j.leads l.accepted;
      packets = j.packets;
      acknowledgements = acknowledgement_more (λ n. n ≤ length behind) (sent_by m.action) p.acknowledgements
          (all_then (λ n. n ≤ length before) (λ n. n ≤ length behind) p.acknowledgements.items more j.acknowledgements)
          (λ q e. let is = l.sent q e in omega arith);
      heard = all_then (λ n. n ≤ length before) (λ n. n ≤ length behind) heard more j.heard;
      brought = j.brought;
      few = omega arith;
      order = j.order;
    }
