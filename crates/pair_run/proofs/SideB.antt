-- A step of B in the code's own terms.
use Rattle.std.proofs.Common.{◌≡◌, nat_lt, ℕ, refl, sym, ◌∙◌, ap, ap₂, subst, Bool, true, false, List, [], ◌∷◌, append-nil, map, length, Option, Some, None}
use Rattle.std.specs.Io.KnownBytes.{Appends}
use Rattle.alp_io.specs.Sink.{AppendsProperPrefix}
use Rattle.prefixed_lines.specs.Prefixes.{prefixed}
use Rattle.radio_link.specs.Sent.{SentValue}
use Rattle.image_text.specs.image_map.declared.parts.RingPlaces.{RingPlaces}
use Rattle.image_text.specs.image_map.MapValue.{MapValue}
use Rattle.fram_board.specs.declared.board.Stepped.{Stepped}
use Rattle.fram_board.specs.Board.{BoardValue, PowerState}
use Rattle.fram_board.specs.Run.{Moment, BoardCharge, power_up_of, moment_of, word_list}
use Rattle.board_run.specs.declared.stepwise.Advance.{Advance}
use Rattle.board_run.specs.History.{History, moment_lines, noted, behind_power_up, with_words}
use Rattle.board_run.specs.Events.{Hand, head_of, hand_after}
use Rattle.board_run.specs.Tally.{tally_of, tally_after}
use Rattle.board_run.specs.Report.{lines_from, after_all}
use Rattle.board_run.specs.Stepwise.{RunState, StepsOn, Idle, Makes, Halts, Ends, Powers, behind_power, state_of, known_of, last_done, powers_up}
use Rattle.board_run.specs.Stepwise.{ring_of, events_in}
use Rattle.board_run.proofs.Interface.{tally_of_moments, after_map}
use Rattle.pair_run.specs.declared.listener.Listener.{Listener}
use Rattle.pair_run.specs.declared.listener.Progress.{Progress}
use Rattle.pair_run.specs.declared.sides.Sides.{Sides}
use Rattle.pair_run.specs.Actions.{StepOfB}
use Rattle.pair_run.specs.Pair.{Pair, PairMoment, OfB, with_acknowledgement, acknowledgements_behind, behind_b, ActsB}
use Rattle.pair_run.specs.Consuming.{Consuming, consuming_in, consuming_behind}
use Rattle.pair_run.specs.Lines.{PairKnown, letter_b, known_behind_b, pair_lines_from, known_after}
use Rattle.pair_run.specs.Listening.{with_power_by, with_power, power_if, with_step, accepted_word, Listens}
use Rattle.pair_run.specs.Sides.{Lettered, LetteredPartly, Shows, Does, DoesPartly, sent_in_step, sent_in, progress_in}
use Rattle.pair_run.proofs.Listening.{map_stays, IsProgress, step_listens, step_accepts, power_listens, power_accepts, power_keeps_words, twice_powered}
use Rattle.pair_run.proofs.SideA.{last_same, last_more}

-- the moments of B
abbrev pub of_b : List Moment → List PairMoment
of_b ms = map (λ m. OfB m) ms

power_once : (flag : Bool) (l : Listener) → power_if flag (with_power l) ≡ with_power l
power_once true l = twice_powered l
power_once false l = refl

-- what a step told of a stretch of moments from one knowledge to another, at this FRAM
pub record IsOver (p : Progress) (k now : PairKnown) (fram : List ℕ) (done : Stepped) : Type 0 where
  pub done_is : p.done ≡ done
  pub accepts : p.accepts ≡ nat_lt (length k.hand.accepted) (length now.hand.accepted)
  pub before : p.gate_before ≡ k.b.gate
  pub gate : p.gate ≡ now.b.gate
  pub events : p.events ≡ events_in (ring_of k.b.map) fram

-- what a step of B makes known
pub record ToldB (s t : RunState) (ms : List Moment) (k : PairKnown) (l : Listener) : Type 0 where
  pub lines : pair_lines_from k (of_b ms) ≡ prefixed letter_b (lines_from k.b ms)
  pub b : (known_after k (of_b ms)).b ≡ after_all k.b ms
  pub hand : (known_after k (of_b ms)).hand ≡ hand_after (head_of k.b.map) ms k.hand
  pub none : last_done ms ≡ None → ((known_after k (of_b ms)).a ≡ k.a) × (t.has_ended ≡ true)
      × ((known_after k (of_b ms)).consuming.consumed ≡ k.consuming.consumed)
  pub some : (done : Stepped) → last_done ms ≡ Some done → (p : Progress) → IsOver p k (known_after k (of_b ms)) t.board.fram done → Listens l k s.board.fram
      → Listens (with_step p (power_if (powers_up ms) l)) (known_after k (of_b ms)) t.board.fram
      × ((known_after k (of_b ms)).a ≡ with_words k.a (word_list (accepted_word p (power_if (powers_up ms) l))))

nothing_told : (s t : RunState) (k : PairKnown) (l : Listener) → t.has_ended ≡ true → ToldB s t [] k l
nothing_told s t k l ended = record { lines = refl; b = refl; hand = refl; none = λ e. (refl, ended, refl); some = λ done e p over listens. cc }

gate_stays : (m : Option MapValue) (h : History) (b : BoardValue) → (behind_power_up m h b).gate ≡ h.gate
gate_stays None h b = refl
gate_stays (Some m) h b = refl

consumed_stays : (ring : Option RingPlaces) (gate now : ℕ) (b : BoardValue) (q : PowerState) (c : Consuming)
    → (consuming_in ring gate (power_up_of b q) now c).consumed ≡ c.consumed
consumed_stays None gate now b q c = refl
consumed_stays (Some ring) gate now b q c = refl

-- what is known behind a power-up
record KnownUp (k up : PairKnown) : Type 0 where
  a : up.a ≡ k.a
  gate : up.b.gate ≡ k.b.gate
  mapped : up.b.map ≡ k.b.map
  accepted : up.hand.accepted ≡ k.hand.accepted
  consumed : up.consuming.consumed ≡ k.consuming.consumed

known_up : (k : PairKnown) (b : BoardValue) (q : PowerState) → KnownUp k (known_behind_b k (power_up_of b q))
unfolding consuming_behind noted
known_up k b q = record {
  a = ap (with_words k.a) (power_accepts k b q);
  gate = gate_stays k.b.map k.b (power_up_of b q).after;
  mapped = map_stays k.b (power_up_of b q);
  accepted = power_keeps_words k b q;
  consumed = consumed_stays (ring_of k.b.map) k.b.gate _ b q k.consuming;
}

told_up : (s t : RunState) (c : BoardCharge) (cs : List BoardCharge) (more : List Moment) (k : PairKnown) (l : Listener)
    → ToldB (behind_power s c cs) t more (known_behind_b k (power_up_of s.board c.start)) (with_power l) → ToldB s t (power_up_of s.board c.start ∷ more) k l
unfolding moment_lines
told_up s t c cs more k l told =
    let up = power_up_of s.board c.start in
    let k1 = known_behind_b k up in
    let now = known_after k1 (of_b more) in
    let known = known_up k s.board c.start in
    let same : (o : Option Stepped) → last_done (up ∷ more) ≡ o → last_done more ≡ o = λ o e. last_same s.board c more ∙ e in
    record {
      lines = told.lines;
      b = told.b;
      hand = told.hand ∙ ap (λ m. hand_after (head_of m) more k1.hand) known.mapped;
      none = λ e. let n = told.none (same None e) in (n.0 ∙ known.a, n.1, n.2 ∙ known.consumed);
      some = λ done e p over listens.
          let over1 : IsOver p k1 now t.board.fram done = record {
            done_is = over.done_is;
            accepts = over.accepts ∙ ap (λ xs. nat_lt (length xs) (length now.hand.accepted)) (sym known.accepted);
            before = over.before ∙ sym known.gate;
            gate = over.gate;
            events = over.events ∙ ap (λ m. events_in (ring_of m) t.board.fram) (sym known.mapped);
          } in
          let n = told.some done (same (Some done) e) p over1 (power_listens l k s.board c.start listens) in
          let once = power_once (powers_up more) l in (
            subst (λ x. Listens (with_step p x) now t.board.fram) once n.0,
            n.1 ∙ ap (λ h. with_words h (word_list (accepted_word p (power_if (powers_up more) (with_power l))))) known.a
                ∙ ap (λ x. with_words k.a (word_list (accepted_word p x))) once,
          );
    }

pub told_b : (s t : RunState) (ms : List Moment) (k : PairKnown) (l : Listener) → StepsOn s ms t → ToldB s t ms k l
told_b s t ms k l (Idle _ is) = nothing_told s s k l is
told_b s t ms k l (Halts _ stop after on run) = nothing_told s _ k l refl
told_b s t ms k l (Ends _ on spent none) = nothing_told s _ k l refl
told_b s t ms k l (Makes _ n done on made) =
    let m = moment_of s.board n done in
    record {
      lines = append-nil (prefixed letter_b (moment_lines k.b m)) ∙ ap (prefixed letter_b) (sym (append-nil (moment_lines k.b m)));
      b = refl;
      hand = refl;
      none = λ e. cc;
      some = λ done' e p over listens.
          let progress : IsProgress p k m done = record {
            done_is = over.done_is ∙ sym (some_same e);
            accepts = over.accepts;
            before = over.before;
            gate = over.gate;
            events = over.events;
          } in
          (step_listens k s.board n done l p listens progress, ap (with_words k.a) (step_accepts k s.board n done l p listens progress));
    }
  where
    some_same : {x y : Stepped} → Some x ≡ Some y → x ≡ y
    some_same e = cc
told_b s t ms k l (Powers _ c cs more _ on spent next steps) =
    told_up s t c cs more k l (told_b (behind_power s c cs) t more (known_behind_b k (power_up_of s.board c.start)) (with_power l) steps)

sent_b : (s t : RunState) (ms : List Moment) (air : SentValue ℕ) → StepsOn s ms t
    → acknowledgements_behind ms air ≡ with_acknowledgement (sent_in_step (last_done ms)) air
sent_b s t ms air (Idle _ is) = refl
sent_b s t ms air (Makes _ n done on made) = refl
sent_b s t ms air (Halts _ stop after on run) = refl
sent_b s t ms air (Ends _ on spent none) = refl
sent_b s t ms air (Powers _ c cs more _ on spent next steps) = sent_b _ t more air steps ∙ ap (λ d. with_acknowledgement d air) (last_more s.board c more)

-- what B's step leaves of the listener and of A
pub data LeavesB (before s : Sides) (flag : Bool) (k now : PairKnown) (fram : List ℕ) : Option Stepped → Type 0 where
  Nowhere : s.listener ≡ power_if flag before.listener → (known_of s.a).history ≡ (known_of before.a).history → LeavesB before s flag k now fram None
  Somewhere : (done : Stepped) (p : Progress) → IsOver p k now fram done → s.listener ≡ with_step p (power_if flag before.listener)
      → (known_of s.a).history ≡ with_words (known_of before.a).history (word_list (accepted_word p (power_if flag before.listener)))
      → LeavesB before s flag k now fram (Some done)

-- what a step of B leaves of the air and of A's run
pub record SentB (before s : Sides) (answer : Advance) : Type 0 where
  pub a : state_of s.a ≡ state_of before.a
  pub packets : s.air.now.packets ≡ before.air.now.packets
  pub sent : Option (ℕ × ℕ)
  pub sent_is : sent ≡ sent_in answer
  pub acknowledgements : s.air.now.acknowledgements ≡ with_acknowledgement sent before.air.now.acknowledgements

-- what its listener and A are told of it, where so many words had been accepted in front of it and GATE was this
pub record NotedB (before s : Sides) (answer : Advance) : Type 0 where
  pub done : Stepped
  pub made : answer.done ≡ Some done
  pub accepted : ℕ
  pub accepted_is : accepted ≡ (known_of before.b).tally.accepted
  pub gate : ℕ
  pub gate_is : gate ≡ (known_of before.b).history.gate
  pub powered : Listener
  pub powered_is : powered ≡ power_if answer.powers_up before.listener
  pub listener : s.listener ≡ with_step (progress_in s.b done accepted gate) powered
  pub history : (known_of s.a).history ≡ with_words (known_of before.a).history (word_list (accepted_word (progress_in s.b done accepted gate) powered))

-- B goes on after a step that was made
step_goes_on : (s t : RunState) (ms : List Moment) → StepsOn s ms t → (done : Stepped) → last_done ms ≡ Some done → s.has_ended ≡ false
step_goes_on s t ms (Idle _ is) done e = cc
step_goes_on s t ms (Halts _ stop after on run) done e = cc
step_goes_on s t ms (Ends _ on spent none) done e = cc
step_goes_on s t ms (Makes _ n d on made) done e = on
step_goes_on s t ms (Powers _ c cs more _ on spent next steps) done e = on

-- so B has, or has ended
record ListensOn (s : Sides) (t : RunState) (k now : PairKnown) : Type 0 where
  listens : t.has_ended ≡ false → Listens s.listener now t.board.fram
  consumed : s.listener.consumed ≡ now.consuming.consumed
  a : (known_of s.a).history ≡ now.a

power_if_keeps : (flag : Bool) (o : Option ℕ) (l : Listener) → (power_if flag l).consumed ≡ l.consumed
power_if_keeps false o l = refl
power_if_keeps true o l = by_place l.answer_place refl
  where
    by_place : (o : Option ℕ) → l.answer_place ≡ o → (with_power l).consumed ≡ l.consumed
    by_place None e = ap (λ o. (with_power_by o l).consumed) e
    by_place (Some place) e = ap (λ o. (with_power_by o l).consumed) e

module _ (before s : Sides) (p : Pair) (k : PairKnown) (shows : Shows before p k) (old new : Option (List ℕ)) where
  listens_on : (ms : List Moment) (flag : Bool) (o : Option Stepped) → StepsOn p.b ms (state_of s.b) → flag ≡ powers_up ms → o ≡ last_done ms
      → LeavesB before s flag k (known_after k (of_b ms)) (state_of s.b).board.fram o → ListensOn s (state_of s.b) k (known_after k (of_b ms))
  listens_on ms flag None steps flag_is done (Nowhere listener a) =
      let told = told_b p.b (state_of s.b) ms k before.listener steps in
      let none = told.none (sym done) in
      record {
        listens = λ on. absurd (let e = sym on ∙ none.1 in cc);
        consumed = ap (λ x. x.consumed) listener ∙ power_if_keeps flag before.listener.answer_place before.listener ∙ shows.tells.consumed ∙ sym none.2;
        a = a ∙ shows.a_known ∙ sym none.0;
      }
  listens_on ms flag (Some d) steps flag_is done (Somewhere _ q over listener a) =
      let told = told_b p.b (state_of s.b) ms k before.listener steps in
      let on = step_goes_on p.b (state_of s.b) ms steps d (sym done) in
      let n = told.some d (sym done) q over (shows.listens on) in
      let same : power_if flag before.listener ≡ power_if (powers_up ms) before.listener = ap (λ f. power_if f before.listener) flag_is in
      let listens : Listens s.listener (known_after k (of_b ms)) (state_of s.b).board.fram =
      subst (λ x. Listens x (known_after k (of_b ms)) (state_of s.b).board.fram) (sym (listener ∙ ap (with_step q) same)) n.0 in
      record {
        listens = λ _. listens;
        consumed = ap (λ c. c.consumed) listens.consuming;
        a = a ∙ ap (λ h. with_words h (word_list (accepted_word q (power_if flag before.listener)))) shows.a_known
            ∙ ap (λ x. with_words k.a (word_list (accepted_word q x))) same ∙ sym n.1;
      }

  -- the tally of B's hand
  hand_told : (ms : List Moment) (h : Hand) → h ≡ k.hand
      → (known_of s.b).tally ≡ tally_after (head_of (known_of before.b).history.map) ms (known_of before.b).tally
      → (known_of s.b).tally ≡ tally_of (hand_after (head_of k.b.map) ms h)
  hand_told ms h is tally =
      tally
      ∙ ap (λ x. tally_after (head_of x.map) ms (known_of before.b).tally) shows.b_known
      ∙ ap (tally_after (head_of k.b.map) ms) (shows.tells.tally ∙ ap tally_of (sym is))
      ∙ sym (tally_of_moments (head_of k.b.map) ms h)

  module _ (answer : Advance) (l : Lettered letter_b (state_of before.b) (known_of before.b) old new answer (state_of s.b) (known_of s.b))
      (sent : SentB before s answer) where
    abbrev behind_it : PairKnown
    behind_it = known_after k (of_b l.moments)

    steps_here : StepsOn p.b l.moments (state_of s.b)
    steps_here = subst (λ x. StepsOn x l.moments (state_of s.b)) shows.b l.steps

    told_here : ToldB p.b (state_of s.b) l.moments k before.listener
    told_here = told_b p.b (state_of s.b) l.moments k before.listener steps_here

    history_here : (known_of s.b).history ≡ behind_it.b
    history_here = l.history ∙ ap (λ h. after_all h l.moments) shows.b_known ∙ sym told_here.b

    tally_here : (known_of s.b).tally ≡ tally_of behind_it.hand
    tally_here = hand_told l.moments k.hand refl l.tally ∙ ap tally_of (sym told_here.hand)

    does_so : LeavesB before s answer.powers_up k behind_it (state_of s.b).board.fram answer.done → Does StepOfB p k old new s
    does_so leaves =
        let ms = l.moments in
        let on = listens_on ms answer.powers_up answer.done steps_here l.powers l.done leaves in
        record {
          moments = of_b ms;
          behind = behind_b (head_of k.b.map) p ms (state_of s.b);
          acts = ActsB p ms (state_of s.b) steps_here;
          shows = record {
            a = sent.a ∙ shows.a;
            b = refl;
            packets = sent.packets ∙ shows.packets;
            acknowledgements = sent.acknowledgements
                ∙ ap (λ d. with_acknowledgement d before.air.now.acknowledgements) sent.sent_is
                ∙ ap (λ d. with_acknowledgement (sent_in_step d) before.air.now.acknowledgements) l.done
                ∙ ap (with_acknowledgement (sent_in_step (last_done ms))) shows.acknowledgements ∙ sym (sent_b _ _ ms p.acknowledgements steps_here);
            hand = told_here.hand ∙ ap (hand_after (head_of k.b.map) ms) shows.hand;
            a_known = on.a;
            b_known = history_here;
            tells = record { tally = tally_here; consumed = on.consumed };
            listens = on.listens;
          };
          written = subst (Appends old new) (ap (λ h. prefixed letter_b (lines_from h ms)) shows.b_known ∙ sym told_here.lines) l.written;
        }

    -- no step was made
    pub b_does_nothing : answer.done ≡ None → s.listener ≡ power_if answer.powers_up before.listener
        → (known_of s.a).history ≡ (known_of before.a).history → Does StepOfB p k old new s
    b_does_nothing none listener a =
        does_so (subst (LeavesB before s answer.powers_up k behind_it (state_of s.b).board.fram) (sym none) (Nowhere listener a))

    -- a step was, of which the listener and A are told
    pub b_does : NotedB before s answer → Does StepOfB p k old new s
    b_does noted =
        let told = progress_in s.b noted.done noted.accepted noted.gate in
        let words = ap (λ t. t.accepted) shows.tells.tally in
        let map_is : (known_of s.b).history.map ≡ k.b.map =
        ap (λ (h : History). h.map) (history_here ∙ told_here.b) ∙ after_map k.b l.moments in
        let over : IsOver told k behind_it (state_of s.b).board.fram noted.done = record {
          done_is = refl;
          accepts = ap₂ nat_lt (noted.accepted_is ∙ words) (ap (λ t. t.accepted) tally_here);
          before = noted.gate_is ∙ ap (λ (h : History). h.gate) shows.b_known;
          gate = ap (λ (h : History). h.gate) history_here;
          events = ap (λ m. events_in (ring_of m) (state_of s.b).board.fram) map_is;
        } in
        does_so (subst (LeavesB before s answer.powers_up k behind_it (state_of s.b).board.fram) (sym noted.made)
        (Somewhere noted.done told over (noted.listener ∙ ap (with_step told) noted.powered_is)
        (noted.history ∙ ap (λ l. with_words (known_of before.a).history (word_list (accepted_word told l))) noted.powered_is)))

  pub b_does_partly : LetteredPartly letter_b (state_of before.b) (known_of before.b) old new → DoesPartly StepOfB p k old new
  b_does_partly l =
      let ms = l.moments in
      let steps = subst (λ x. StepsOn x ms l.behind) shows.b l.steps in
      let told = told_b p.b l.behind ms k before.listener steps in
      record {
        moments = of_b ms;
        behind = behind_b (head_of k.b.map) p ms l.behind;
        acts = ActsB p ms l.behind steps;
        written = subst (AppendsProperPrefix old new) (ap (λ h. prefixed letter_b (lines_from h ms)) shows.b_known ∙ sym told.lines) l.written;
      }
