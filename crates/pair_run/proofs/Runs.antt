-- Runs of pairs: one behind the other, and where nothing more happens.
use Rattle.std.proofs.Common.{◌≡◌, ◌≤◌, ◌<◌, ℕ, zero, suc, arith, refl, sym, ◌∙◌, subst, true, ◌⊎◌, inl, inr, List, [], ◌∷◌, ◌++◌, append_assoc, length}
use Rattle.std.proofs.Common.{Option, Some, None, slice_get}
use Rattle.std.proofs.lemmas.Bool.{cases_lt}
use Rattle.radio_link.specs.declared.air.Packet.{Packet}
use Rattle.radio_link.specs.Sent.{newest}
use Rattle.board_run.specs.Stepwise.{RunState, Idle}
use Rattle.board_run.proofs.Interface.{has_step}
use Rattle.pair_run.specs.Actions.{PairAction, StepOfA, StepOfB, PacketToB, AcknowledgementToA, NewestPacketToB, NewestAcknowledgementToA, repeated}
use Rattle.pair_run.specs.Pair.{Pair, PairMoment, most_words, with_packet_brought, with_acknowledgement_brought, packet_at, acknowledgement_at}
use Rattle.pair_run.specs.Pair.{newest_packet, newest_acknowledgement}
use Rattle.pair_run.specs.Pair.{Acts, ActsA, ActsB, Brings, Acknowledges, BringsNewest, AcknowledgesNewest, PairRun, Over, Full, Then}

-- what is brought to a board leaves whether its run has ended
pub packet_leaves : (o : Option Packet) (s : RunState) → (with_packet_brought o s).has_ended ≡ s.has_ended
packet_leaves None s = refl
packet_leaves (Some x) s = refl

pub acknowledgement_leaves : (o : Option ℕ) (s : RunState) → (with_acknowledgement_brought o s).has_ended ≡ s.has_ended
acknowledgement_leaves None s = refl
acknowledgement_leaves (Some n) s = refl

module _ (head : Option ℕ) where
  -- ---- a full run goes no further

  abbrev IsFull : Pair → Type 0
  IsFull p = most_words ≤ length p.hand.accepted

  pub full_run : (acts : List PairAction) (p : Pair) → IsFull p → PairRun head acts p [] p
  full_run [] p full = Over p
  full_run (act ∷ acts) p full = Full act acts p full

  stays_full : (acts : List PairAction) (p q : Pair) (ms : List PairMoment) → PairRun head acts p ms q → IsFull p → (ms ≡ []) × (q ≡ p)
  stays_full acts p q ms (Over _) full = (refl, refl)
  stays_full acts p q ms (Full _ _ _ _) full = (refl, refl)
  stays_full acts p q ms (Then _ _ _ _ _ _ _ few one rest) full = absurd (omega arith)

  -- ---- one behind the other

  pub run_behind : (acts more : List PairAction) (p q r : Pair) (ms ns : List PairMoment) → PairRun head acts p ms q → PairRun head more q ns r
      → PairRun head (acts ++ more) p (ms ++ ns) r
  run_behind acts more p q r ms ns (Over _) k = k
  run_behind acts more p q r ms ns (Full act rest _ full) k =
      let stays = stays_full more p r ns k full in
      subst (λ x. PairRun head (act ∷ (rest ++ more)) p x r) (sym stays.0)
      (subst (λ x. PairRun head (act ∷ (rest ++ more)) p [] x) (sym stays.1) (Full act (rest ++ more) p full))
  run_behind acts more p q r ms ns (Then act rest _ m _ one_ms rest_ms few one run) k =
      subst (λ x. PairRun head (act ∷ (rest ++ more)) p x r) (sym (append_assoc one_ms rest_ms ns))
      (Then act (rest ++ more) p m r one_ms (rest_ms ++ ns) few one (run_behind rest more m q r rest_ms ns run k))

  -- one thing, and then others
  pub one_behind : (act : PairAction) (acts : List PairAction) (p q r : Pair) (ms ns : List PairMoment) → (length p.hand.accepted < most_words)
      → Acts head act p ms q → PairRun head acts q ns r → PairRun head (act ∷ acts) p (ms ++ ns) r
  one_behind act acts p q r ms ns few one run = Then act acts p q r ms ns few one run

  -- ---- each pair has a run

  act_of : (act : PairAction) (p : Pair) → (ms : List PairMoment) × (q : Pair) × Acts head act p ms q
  act_of StepOfA p = let step = has_step p.a in (_, _, ActsA p step.0 step.1 step.2)
  act_of StepOfB p = let step = has_step p.b in (_, _, ActsB p step.0 step.1 step.2)
  act_of (PacketToB k) p = ([], _, Brings p k)
  act_of (AcknowledgementToA k) p = ([], _, Acknowledges p k)
  act_of NewestPacketToB p = ([], _, BringsNewest p)
  act_of NewestAcknowledgementToA p = ([], _, AcknowledgesNewest p)

  run_by : (act : PairAction) (acts : List PairAction) (p : Pair) → ((q : Pair) → (ms : List PairMoment) × (r : Pair) × PairRun head acts q ms r)
      → (length p.hand.accepted < most_words) ⊎ (most_words ≤ length p.hand.accepted) → (ms : List PairMoment) × (q : Pair) × PairRun head (act ∷ acts) p ms q
  run_by act acts p next (inl few) =
      let one = act_of act p in
      let rest = next one.1 in
      (_, _, Then act acts p one.1 rest.1 one.0 rest.0 few one.2 rest.2)
  run_by act acts p next (inr full) = ([], p, Full act acts p full)

  pub run_of : (acts : List PairAction) (p : Pair) → (ms : List PairMoment) × (q : Pair) × PairRun head acts p ms q
  run_of [] p = ([], p, Over p)
  run_of (act ∷ acts) p = run_by act acts p (run_of acts) (cases_lt (length p.hand.accepted) most_words)

  -- ---- where a run has ended

  idle_a_by : (n : ℕ) (p : Pair) → p.a.has_ended ≡ true → PairRun head (repeated n (StepOfA ∷ [])) p [] p
      → (length p.hand.accepted < most_words) ⊎ (most_words ≤ length p.hand.accepted) → PairRun head (StepOfA ∷ repeated n (StepOfA ∷ [])) p [] p
  idle_a_by n p ended rest (inl few) = Then StepOfA (repeated n (StepOfA ∷ [])) p p p [] [] few (ActsA p [] p.a (Idle p.a ended)) rest
  idle_a_by n p ended rest (inr full) = Full StepOfA (repeated n (StepOfA ∷ [])) p full

  pub idle_a : (n : ℕ) (p : Pair) → p.a.has_ended ≡ true → PairRun head (repeated n (StepOfA ∷ [])) p [] p
  idle_a zero p ended = Over p
  idle_a (suc n) p ended = idle_a_by n p ended (idle_a n p ended) (cases_lt (length p.hand.accepted) most_words)

  idle_b_by : (n : ℕ) (p : Pair) → p.b.has_ended ≡ true → PairRun head (repeated n (StepOfB ∷ [])) p [] p
      → (length p.hand.accepted < most_words) ⊎ (most_words ≤ length p.hand.accepted) → PairRun head (StepOfB ∷ repeated n (StepOfB ∷ [])) p [] p
  idle_b_by n p ended rest (inl few) = Then StepOfB (repeated n (StepOfB ∷ [])) p p p [] [] few (ActsB p [] p.b (Idle p.b ended)) rest
  idle_b_by n p ended rest (inr full) = Full StepOfB (repeated n (StepOfB ∷ [])) p full

  pub idle_b : (n : ℕ) (p : Pair) → p.b.has_ended ≡ true → PairRun head (repeated n (StepOfB ∷ [])) p [] p
  idle_b zero p ended = Over p
  idle_b (suc n) p ended = idle_b_by n p ended (idle_b n p ended) (cases_lt (length p.hand.accepted) most_words)

  -- both runs have ended
  pub record HaveEndedIn (p : Pair) : Type 0 where
    pub a : p.a.has_ended ≡ true
    pub b : p.b.has_ended ≡ true

  -- then nothing has moments
  pub record RestsBehind (acts : List PairAction) (p : Pair) : Type 0 where
    pub last : Pair
    pub run : PairRun head acts p [] last
    pub ended : HaveEndedIn last
    pub hand : last.hand ≡ p.hand

  record RestsOne (act : PairAction) (p : Pair) : Type 0 where
    pub last : Pair
    pub acts : Acts head act p [] last
    pub ended : HaveEndedIn last
    pub hand : last.hand ≡ p.hand

  rests_one : (act : PairAction) (p : Pair) → HaveEndedIn p → RestsOne act p
  rests_one StepOfA p e = record { last = p; acts = ActsA p [] p.a (Idle p.a e.a); ended = e; hand = refl }
  rests_one StepOfB p e = record { last = p; acts = ActsB p [] p.b (Idle p.b e.b); ended = e; hand = refl }
  rests_one (PacketToB k) p e = record {
    last = packet_at k p;
    acts = Brings p k;
    ended = record { a = e.a; b = packet_leaves (slice_get p.packets.items k) p.b ∙ e.b };
    hand = refl;
  }
  rests_one (AcknowledgementToA k) p e = record {
    last = acknowledgement_at k p;
    acts = Acknowledges p k;
    ended = record { a = acknowledgement_leaves (slice_get p.acknowledgements.items k) p.a ∙ e.a; b = e.b };
    hand = refl;
  }
  rests_one NewestPacketToB p e = record {
    last = newest_packet p;
    acts = BringsNewest p;
    ended = record { a = e.a; b = packet_leaves (newest p.packets) p.b ∙ e.b };
    hand = refl;
  }
  rests_one NewestAcknowledgementToA p e = record {
    last = newest_acknowledgement p;
    acts = AcknowledgesNewest p;
    ended = record { a = acknowledgement_leaves (newest p.acknowledgements) p.a ∙ e.a; b = e.b };
    hand = refl;
  }

  rests_by : (act : PairAction) (acts : List PairAction) (p : Pair) → HaveEndedIn p → ((q : Pair) → HaveEndedIn q → RestsBehind acts q)
      → (length p.hand.accepted < most_words) ⊎ (most_words ≤ length p.hand.accepted) → RestsBehind (act ∷ acts) p
  rests_by act acts p e next (inl few) =
      let one = rests_one act p e in
      let rest = next one.last one.ended in
      record { last = rest.last; run = Then act acts p one.last rest.last [] [] few one.acts rest.run; ended = rest.ended; hand = rest.hand ∙ one.hand }
  rests_by act acts p e next (inr full) = record { last = p; run = Full act acts p full; ended = e; hand = refl }

  pub rests : (acts : List PairAction) (p : Pair) → HaveEndedIn p → RestsBehind acts p
  rests [] p e = record { last = p; run = Over p; ended = e; hand = refl }
  rests (act ∷ acts) p e = rests_by act acts p e (rests acts) (cases_lt (length p.hand.accepted) most_words)
