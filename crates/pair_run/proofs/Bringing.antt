-- Something that was sent is brought to a board.
use Rattle.std.proofs.Common.{◌≡◌, ℕ, refl, sym, ◌∙◌, ap, subst, [], slice_get, Option, Some, None}
use Rattle.radio_link.specs.declared.air.Packet.{Packet}
use Rattle.radio_link.specs.Sent.{SentValue, with_brought, newest}
use Rattle.board_run.specs.Events.{head_of}
use Rattle.board_run.specs.Parts.{Known}
use Rattle.board_run.specs.Stepwise.{RunState, state_of, known_of}
use Rattle.pair_run.specs.declared.listener.Listener.{Listener}
use Rattle.pair_run.specs.declared.sides.Sides.{Sides}
use Rattle.pair_run.specs.Actions.{PacketToB, AcknowledgementToA, NewestPacketToB, NewestAcknowledgementToA}
use Rattle.pair_run.specs.Pair.{Pair, with_packet_brought, with_acknowledgement_brought, with_newest_brought, packet_at, acknowledgement_at, newest_packet}
use Rattle.pair_run.specs.Pair.{newest_acknowledgement, Acts, Brings, Acknowledges, BringsNewest, AcknowledgesNewest}
use Rattle.pair_run.specs.Lines.{PairKnown}
use Rattle.pair_run.specs.Listening.{Listens}
use Rattle.pair_run.specs.Sides.{Shows}
use Rattle.pair_run.proofs.Runs.{packet_leaves}

-- what is brought to B keeps its FRAM
packet_fram : (o : Option Packet) (s : RunState) → (with_packet_brought o s).board.fram ≡ s.board.fram
packet_fram None s = refl
packet_fram (Some x) s = refl

module _ (before s : Sides) (p : Pair) (k : PairKnown) (shows : Shows before p k) where
  -- what stays as something is brought to B
  pub record KeepsA : Type 0 where
    pub a : state_of s.a ≡ state_of before.a
    pub known : known_of s.a ≡ known_of before.a
    pub known_b : known_of s.b ≡ known_of before.b
    pub listener : s.listener ≡ before.listener
    pub acknowledgements : s.air.now.acknowledgements ≡ before.air.now.acknowledgements

  shown_b : (o : Option Packet) (packets : SentValue Packet) → KeepsA → state_of s.b ≡ with_packet_brought o p.b → s.air.now.packets ≡ packets
      → Shows s (record p { b = with_packet_brought o p.b; packets = packets }) k
  shown_b o packets keeps b sent = record {
    a = keeps.a ∙ shows.a;
    b = b;
    packets = sent;
    acknowledgements = keeps.acknowledgements ∙ shows.acknowledgements;
    hand = shows.hand;
    a_known = ap (λ (x : Known). x.history) keeps.known ∙ shows.a_known;
    b_known = ap (λ (x : Known). x.history) keeps.known_b ∙ shows.b_known;
    tells = record {
      tally = ap (λ (x : Known). x.tally) keeps.known_b ∙ shows.tells.tally;
      consumed = ap (λ (x : Listener). x.consumed) keeps.listener ∙ shows.tells.consumed;
    };
    listens = λ on.
        let before_on = shows.listens (sym (packet_leaves o p.b) ∙ on) in
        subst (λ f. Listens s.listener k f) (sym (packet_fram o p.b))
        (subst (λ l. Listens l k p.b.board.fram) (sym keeps.listener) before_on);
  }

  -- the packet of this place
  pub packet_brings : (place : ℕ) (o : Option Packet) → KeepsA → slice_get before.air.now.packets.items place ≡ o
      → state_of s.b ≡ with_packet_brought o (state_of before.b) → s.air.now.packets ≡ with_brought before.air.now.packets place
      → (behind : Pair) × Acts (head_of k.b.map) (PacketToB place) p [] behind × Shows s behind k
  packet_brings place o keeps is b sent =
      let one = slice_get p.packets.items place in
      let b_is : state_of s.b ≡ with_packet_brought one p.b =
      b ∙ ap (λ x. with_packet_brought x (state_of before.b)) (sym is)
      ∙ ap (λ (x : SentValue Packet). with_packet_brought (slice_get x.items place) (state_of before.b)) shows.packets
      ∙ ap (with_packet_brought one) shows.b in (
        packet_at place p,
        Brings p place,
        shown_b one (with_brought p.packets place) keeps b_is (sent ∙ ap (λ x. with_brought x place) shows.packets),
      )

  -- the newest packet
  pub newest_packet_brings : (o : Option Packet) → KeepsA → newest before.air.now.packets ≡ o
      → state_of s.b ≡ with_packet_brought o (state_of before.b) → s.air.now.packets ≡ with_newest_brought before.air.now.packets
      → (behind : Pair) × Acts (head_of k.b.map) NewestPacketToB p [] behind × Shows s behind k
  newest_packet_brings o keeps is b sent =
      let one = newest p.packets in
      let b_is : state_of s.b ≡ with_packet_brought one p.b =
      b ∙ ap (λ x. with_packet_brought x (state_of before.b)) (sym is)
      ∙ ap (λ x. with_packet_brought (newest x) (state_of before.b)) shows.packets
      ∙ ap (with_packet_brought one) shows.b in (
        newest_packet p,
        BringsNewest p,
        shown_b one (with_newest_brought p.packets) keeps b_is (sent ∙ ap with_newest_brought shows.packets),
      )

  -- what stays as something is brought to A
  pub record KeepsB : Type 0 where
    pub b : state_of s.b ≡ state_of before.b
    pub known : known_of s.b ≡ known_of before.b
    pub known_a : known_of s.a ≡ known_of before.a
    pub listener : s.listener ≡ before.listener
    pub packets : s.air.now.packets ≡ before.air.now.packets

  shown_a : (o : Option ℕ) (acknowledgements : SentValue ℕ) → KeepsB → state_of s.a ≡ with_acknowledgement_brought o p.a
      → s.air.now.acknowledgements ≡ acknowledgements
      → Shows s (record p { a = with_acknowledgement_brought o p.a; acknowledgements = acknowledgements }) k
  shown_a o acknowledgements keeps a sent = record {
    a = a;
    b = keeps.b ∙ shows.b;
    packets = keeps.packets ∙ shows.packets;
    acknowledgements = sent;
    hand = shows.hand;
    a_known = ap (λ (x : Known). x.history) keeps.known_a ∙ shows.a_known;
    b_known = ap (λ (x : Known). x.history) keeps.known ∙ shows.b_known;
    tells = record {
      tally = ap (λ (x : Known). x.tally) keeps.known ∙ shows.tells.tally;
      consumed = ap (λ (x : Listener). x.consumed) keeps.listener ∙ shows.tells.consumed;
    };
    listens = λ on. subst (λ l. Listens l k p.b.board.fram) (sym keeps.listener) (shows.listens on);
  }

  -- the acknowledgement of this place
  pub acknowledgement_brings : (place : ℕ) (o : Option ℕ) → KeepsB → slice_get before.air.now.acknowledgements.items place ≡ o
      → state_of s.a ≡ with_acknowledgement_brought o (state_of before.a)
      → s.air.now.acknowledgements ≡ with_brought before.air.now.acknowledgements place
      → (behind : Pair) × Acts (head_of k.b.map) (AcknowledgementToA place) p [] behind × Shows s behind k
  acknowledgement_brings place o keeps is a sent =
      let one = slice_get p.acknowledgements.items place in
      let a_is : state_of s.a ≡ with_acknowledgement_brought one p.a =
      a ∙ ap (λ x. with_acknowledgement_brought x (state_of before.a)) (sym is)
      ∙ ap (λ (x : SentValue ℕ). with_acknowledgement_brought (slice_get x.items place) (state_of before.a)) shows.acknowledgements
      ∙ ap (with_acknowledgement_brought one) shows.a in (
        acknowledgement_at place p,
        Acknowledges p place,
        shown_a one (with_brought p.acknowledgements place) keeps a_is (sent ∙ ap (λ x. with_brought x place) shows.acknowledgements),
      )

  -- the newest acknowledgement
  pub newest_acknowledgement_brings : (o : Option ℕ) → KeepsB → newest before.air.now.acknowledgements ≡ o
      → state_of s.a ≡ with_acknowledgement_brought o (state_of before.a)
      → s.air.now.acknowledgements ≡ with_newest_brought before.air.now.acknowledgements
      → (behind : Pair) × Acts (head_of k.b.map) NewestAcknowledgementToA p [] behind × Shows s behind k
  newest_acknowledgement_brings o keeps is a sent =
      let one = newest p.acknowledgements in
      let a_is : state_of s.a ≡ with_acknowledgement_brought one p.a =
      a ∙ ap (λ x. with_acknowledgement_brought x (state_of before.a)) (sym is)
      ∙ ap (λ x. with_acknowledgement_brought (newest x) (state_of before.a)) shows.acknowledgements
      ∙ ap (with_acknowledgement_brought one) shows.a in (
        newest_acknowledgement p,
        AcknowledgesNewest p,
        shown_a one (with_newest_brought p.acknowledgements) keeps a_is (sent ∙ ap with_newest_brought shows.acknowledgements),
      )
