-- A step of A in the code's own terms.
use Rattle.std.proofs.Common.{◌≡◌, ℕ, refl, sym, ◌∙◌, ap, subst, List, [], ◌∷◌, append-nil, map, Option}
use Rattle.std.specs.Prelude.{IfSome}
use Rattle.std.specs.Io.KnownBytes.{Appends}
use Rattle.alp_io.specs.Sink.{AppendsProperPrefix}
use Rattle.prefixed_lines.specs.Prefixes.{prefixed}
use Rattle.radio_link.specs.declared.air.Packet.{Packet}
use Rattle.radio_link.specs.Sent.{SentValue}
use Rattle.fram_board.specs.Board.{BoardValue}
use Rattle.fram_board.specs.Run.{Moment, BoardCharge, power_up_of, moment_of}
use Rattle.board_run.specs.declared.stepwise.Advance.{Advance}
use Rattle.board_run.specs.History.{moment_lines, noted}
use Rattle.board_run.specs.Report.{lines_from, after_all}
use Rattle.board_run.specs.Stepwise.{RunState, StepsOn, Idle, Makes, Halts, Ends, Powers, state_of, known_of, last_done}
use Rattle.pair_run.specs.declared.sides.Sides.{Sides}
use Rattle.pair_run.specs.declared.listener.Listener.{Listener}
use Rattle.pair_run.specs.Actions.{StepOfA}
use Rattle.pair_run.specs.Pair.{Pair, PairMoment, OfA, with_packet, packets_behind, behind_a, ActsA}
use Rattle.pair_run.specs.Lines.{PairKnown, letter_a, pair_lines_from, known_after}
use Rattle.pair_run.specs.Listening.{consuming_so}
use Rattle.pair_run.specs.Sides.{Lettered, LetteredPartly, Shows, Does, DoesPartly, sent_in_step, sent_in}

-- the moments of A
abbrev pub of_a : List Moment → List PairMoment
of_a ms = map (λ m. OfA m) ms

known_a : (k : PairKnown) (ms : List Moment) → known_after k (of_a ms) ≡ record k { a = after_all k.a ms }
known_a k [] = refl
known_a k (m ∷ ms) = known_a (record k { a = noted k.a m }) ms

-- of a step the last moment alone has lines
pub lines_a : (s t : RunState) (ms : List Moment) (k : PairKnown) → StepsOn s ms t → pair_lines_from k (of_a ms) ≡ prefixed letter_a (lines_from k.a ms)
unfolding moment_lines
lines_a s t ms k (Idle _ is) = refl
lines_a s t ms k (Makes _ n done on made) =
    append-nil (prefixed letter_a (moment_lines k.a (moment_of s.board n done)))
    ∙ ap (prefixed letter_a) (sym (append-nil (moment_lines k.a (moment_of s.board n done))))
lines_a s t ms k (Halts _ stop after on run) = refl
lines_a s t ms k (Ends _ on spent none) = refl
lines_a s t ms k (Powers _ c cs more _ on spent next steps) = lines_a _ t more (record k { a = noted k.a (power_up_of s.board c.start) }) steps

pub last_same : (b : BoardValue) (c : BoardCharge) (more : List Moment) → last_done more ≡ last_done (power_up_of b c.start ∷ more)
last_same b c [] = refl
last_same b c (m ∷ ms) = refl

pub last_more : (b : BoardValue) (c : BoardCharge) (more : List Moment)
    → sent_in_step (last_done more) ≡ sent_in_step (last_done (power_up_of b c.start ∷ more))
last_more b c more = ap sent_in_step (last_same b c more)

-- and sends something
pub sent_a : (s t : RunState) (ms : List Moment) (air : SentValue Packet) → StepsOn s ms t
    → packets_behind ms air ≡ with_packet (sent_in_step (last_done ms)) air
sent_a s t ms air (Idle _ is) = refl
sent_a s t ms air (Makes _ n done on made) = refl
sent_a s t ms air (Halts _ stop after on run) = refl
sent_a s t ms air (Ends _ on spent none) = refl
sent_a s t ms air (Powers _ c cs more _ on spent next steps) = sent_a _ t more air steps ∙ ap (λ d. with_packet d air) (last_more s.board c more)

module _ (before s : Sides) (p : Pair) (k : PairKnown) (shows : Shows before p k) (old new : Option (List ℕ)) where
  -- the words of the step stand in the air
  pub a_does : (answer : Advance) → Lettered letter_a (state_of before.a) (known_of before.a) old new answer (state_of s.a) (known_of s.a)
      → state_of s.b ≡ state_of before.b → known_of s.b ≡ known_of before.b → s.listener ≡ before.listener
      → s.air.now.packets ≡ with_packet (sent_in answer) before.air.now.packets
      → s.air.now.acknowledgements ≡ before.air.now.acknowledgements → Does StepOfA p k old new s
  a_does answer l b b_known listener packets acknowledgements =
      let ms = l.moments in
      let steps = subst (λ x. StepsOn x ms (state_of s.a)) shows.a l.steps in
      let k' : PairKnown = record k { a = after_all k.a ms } in
      let history : (known_of s.a).history ≡ after_all k.a ms = l.history ∙ ap (λ h. after_all h ms) shows.a_known in
      let shown : Shows s (behind_a p ms (state_of s.a)) k' = record {
        a = refl;
        b = b ∙ shows.b;
        packets = packets ∙ ap (λ d. with_packet (sent_in_step d) before.air.now.packets) l.done
            ∙ ap (with_packet (sent_in_step (last_done ms))) shows.packets ∙ sym (sent_a _ _ ms p.packets steps);
        acknowledgements = acknowledgements ∙ shows.acknowledgements;
        hand = shows.hand;
        a_known = history;
        b_known = ap (λ x. x.history) b_known ∙ shows.b_known;
        tells = record {
          tally = ap (λ x. x.tally) b_known ∙ shows.tells.tally;
          consumed = ap (λ x. x.consumed) listener ∙ shows.tells.consumed;
        };
        listens = λ on. let h = shows.listens on in record {
          place = ap (λ x. x.answer_place) listener ∙ h.place;
          events = ap (λ x. x.events) listener ∙ h.events;
          word = subst (λ (x : Listener). IfSome k.hand.word (λ w. x.word ≡ w)) (sym listener) h.word;
          consuming = ap consuming_so listener ∙ h.consuming;
        };
      } in
      record {
        moments = of_a ms;
        behind = behind_a p ms (state_of s.a);
        acts = ActsA p ms (state_of s.a) steps;
        shows = subst (Shows s (behind_a p ms (state_of s.a))) (sym (known_a k ms)) shown;
        written = subst (Appends old new) (ap (λ h. prefixed letter_a (lines_from h ms)) shows.a_known ∙ sym (lines_a _ _ ms k steps)) l.written;
      }

  pub a_does_partly : LetteredPartly letter_a (state_of before.a) (known_of before.a) old new → DoesPartly StepOfA p k old new
  a_does_partly l =
      let ms = l.moments in
      let steps = subst (λ x. StepsOn x ms l.behind) shows.a l.steps in
      record {
        moments = of_a ms;
        behind = behind_a p ms l.behind;
        acts = ActsA p ms l.behind steps;
        written = subst (AppendsProperPrefix old new) (ap (λ h. prefixed letter_a (lines_from h ms)) shows.a_known ∙ sym (lines_a _ _ ms k steps)) l.written;
      }
