-- The report of a pair, from its first step to its last line.
use Rattle.std.proofs.Common.{◌≡◌, ◌<◌, ◌+◌, ◌^◌, ℕ, arith, refl, sym, ◌∙◌, ap, ap₂, subst, List, [], ◌++◌, append_assoc, append-nil}
use Rattle.std.proofs.Common.{length, length-append, Option, Result, Ok, Err, IsErr}
use Rattle.std.specs.Io.KnownBytes.{Appends}
use Rattle.std.proofs.KnownBytes.{Appends-trans}
use Rattle.alp_io.specs.Sink.{AppendsProperPrefix, Writes}
use Rattle.alp_io.specs.Report.{pair_line}
use Rattle.buffered_sink.specs.Front.{Settles}
use Rattle.prefixed_lines.specs.Prefixes.{prefixed}
use Rattle.radio_link.specs.declared.entry.Entry.{Entry}
use Rattle.fram_board.specs.Board.{BoardValue}
use Rattle.fram_board.specs.Run.{BoardCharge}
use Rattle.board_run.specs.History.{History, bound_lines}
use Rattle.board_run.specs.Events.{no_hand, head_of}
use Rattle.board_run.specs.Tally.{no_tally, words_of}
use Rattle.board_run.specs.Parts.{Known}
use Rattle.board_run.specs.declared.stepwise.StepwiseRun.{StepwiseRun}
use Rattle.board_run.specs.Stepwise.{RunState, HasRoom, not_begun, state_of, known_of, ring_of, answer_of_ring, events_in}
use Rattle.pair_run.specs.declared.listener.Listener.{Listener}
use Rattle.pair_run.specs.declared.sides.Sides.{Sides}
use Rattle.pair_run.specs.Actions.{all_actions}
use Rattle.pair_run.specs.Pair.{Pair}
use Rattle.pair_run.specs.Lines.{PairKnown, letter_a, letter_b, known_at_first, bounds, last_line, pair_lines_from, known_after, pair_lines}
use Rattle.pair_run.specs.Listening.{new_listener, consuming_so, HasCountsFor}
use Rattle.pair_run.specs.Sides.{Shows, Tells, Reaches, GoesOn, HaveEnded, DoesAll, DoesAllPartly, accepted_words}
use Rattle.pair_run.specs.Told.{IsTold}
use Rattle.pair_run.proofs.Lines.{prefix_of_longer, prefix_behind}
use Rattle.pair_run.proofs.Runs.{run_of}

-- ---- before the first step

-- what is known of a run that has not begun
abbrev pub known_first : History → Known
known_first h = record { history = h; tally = no_tally }

-- the counts have room
pub room_first : (r : StepwiseRun) (b : BoardValue) (cs : List BoardCharge) (h : History) (n : ℕ) → state_of r ≡ not_begun b cs → known_of r ≡ known_first h
    → b.receiver.accepted < 2 ^ 63 → b.receiver.repeats < 2 ^ 63 → n < 2 ^ 63 → HasRoom r n
room_first r b cs h n state known accepted repeats few =
    let board = ap (λ (x : RunState). x.board) state in
    let words = ap (λ (x : Known). words_of x.tally) known in
    record {
      accepted = subst (λ (x : BoardValue). x.receiver.accepted + n < 2 ^ 64) (sym board) (omega (arith, accepted, few));
      repeats = subst (λ (x : BoardValue). x.receiver.repeats + n < 2 ^ 64) (sym board) (omega (arith, repeats, few));
      words = omega (arith, words, few);
    }

pub counts_first : (place : Option ℕ) (events n : ℕ) → n < 2 ^ 63 → HasCountsFor (new_listener place events) n
counts_first place events n few = record { taken = omega (arith, few); decided = omega (arith, few) }

-- the listener is the one of B's ring
pub listener_first : (r : StepwiseRun) (b : BoardValue) (cs : List BoardCharge) (h : History) (l : Listener) (place : Option ℕ) (events : ℕ)
    → state_of r ≡ not_begun b cs → known_of r ≡ known_first h → place ≡ answer_of_ring (ring_of (known_of r).history.map)
    → events ≡ events_in (ring_of (known_of r).history.map) (state_of r).board.fram → l ≡ new_listener place events
    → l ≡ new_listener (answer_of_ring (ring_of h.map)) (events_in (ring_of h.map) b.fram)
listener_first r b cs h l place events state known is_place is_events is =
    let map = ap (λ (x : Known). x.history.map) known in
    let fram = ap (λ (x : RunState). x.board.fram) state in
    is ∙ ap₂ new_listener (is_place ∙ ap (λ m. answer_of_ring (ring_of m)) map) (is_events ∙ ap₂ (λ m f. events_in (ring_of m) f) map fram)

-- so the sides are the pair before its first step
pub shows_first : (s : Sides) (p : Pair) (a b : History) → state_of s.a ≡ p.a → state_of s.b ≡ p.b → s.air.now.packets ≡ p.packets
    → s.air.now.acknowledgements ≡ p.acknowledgements → p.hand ≡ no_hand → known_of s.a ≡ known_first a → known_of s.b ≡ known_first b
    → s.listener ≡ new_listener (answer_of_ring (ring_of b.map)) (events_in (ring_of b.map) p.b.board.fram) → Shows s p (known_at_first a b)
shows_first s p a b is_a is_b packets acknowledgements hand a_known b_known listener = record {
  a = is_a;
  b = is_b;
  packets = packets;
  acknowledgements = acknowledgements;
  hand = sym hand;
  a_known = ap (λ (x : Known). x.history) a_known;
  b_known = ap (λ (x : Known). x.history) b_known;
  tells = record { tally = ap (λ (x : Known). x.tally) b_known; consumed = ap (λ x. x.consumed) listener };
  listens = λ on. record {
    place = ap (λ x. x.answer_place) listener;
    events = ap (λ x. x.events) listener;
    word = tt;
    consuming = ap consuming_so listener;
  };
}

-- ---- the report

-- what is told at the end, however it came to that
reached : (s : Sides) (p : Pair) (k : PairKnown) → Reaches s p k → Tells s k
reached s p k (GoesOn shows) = shows.tells
reached s p k (HaveEnded a b p_a p_b tells) = tells

-- the last line
pub told_last : (s : Sides) (p : Pair) (k : PairKnown) → Reaches s p k → pair_line (accepted_words s) s.listener.consumed ≡ last_line k
told_last s p k reaches =
    let tells = reached s p k reaches in
    ap (λ t. pair_line t.accepted s.listener.consumed) tells.tally ∙ ap (pair_line (length k.hand.accepted)) tells.consumed

module _ (p : Pair) (a b : History) (es : List Entry) (old : Option (List ℕ)) where
  abbrev first : PairKnown
  first = known_at_first a b

  cut_err : {T E : Type 0} (new : Option (List ℕ)) (result : Result T E) (text : List ℕ) → IsErr result → AppendsProperPrefix old new text
      → Writes old new result text
  cut_err new (Ok x) text e cut = absurd (cc)
  cut_err new (Err x) text e cut = record { whole = tt; part = cut }

  -- the bounds aren't written whole
  told_cut : {T E : Type 0} (new : Option (List ℕ)) (result : Result T E) (text more : List ℕ) → IsErr result → bounds first ≡ text ++ more
      → AppendsProperPrefix old new text → IsTold p a b es old new result
  told_cut new result text more e split cut =
      let run = run_of (head_of b.map) (all_actions es) p in
      let behind = pair_lines_from first run.0 ++ last_line (known_after first run.0) in
      let all : pair_lines first run.0 ≡ text ++ (more ++ behind) = ap (λ t. t ++ behind) split ∙ append_assoc text more behind in
      record {
        moments = run.0;
        last = run.1;
        run = run.2;
        written = cut_err new result (pair_lines first run.0) e
            (subst (AppendsProperPrefix old new) (sym all) (prefix_of_longer old new text (more ++ behind) cut));
      }

  abbrev bound_a : List ℕ
  bound_a = prefixed letter_a (bound_lines a.map)

  abbrev bound_b : List ℕ
  bound_b = prefixed letter_b (bound_lines b.map)

  -- A's isn't
  pub told_cut_a : {T E : Type 0} (new : Option (List ℕ)) (result : Result T E) → IsErr result → AppendsProperPrefix old new bound_a
      → IsTold p a b es old new result
  told_cut_a new result e cut = told_cut new result bound_a bound_b e refl cut

  -- or B's
  pub told_cut_b : {T E : Type 0} (mid new : Option (List ℕ)) (result : Result T E) → IsErr result → Appends old mid bound_a
      → AppendsProperPrefix mid new bound_b → IsTold p a b es old new result
  told_cut_b mid new result e whole cut =
      told_cut new result (bound_a ++ bound_b) [] e (sym (append-nil (bound_a ++ bound_b))) (prefix_behind old mid new bound_a bound_b whole cut)

  -- both are
  pub bounds_told : (mid new : Option (List ℕ)) → Appends old mid bound_a → Appends mid new bound_b → Appends old new (bounds first)
  bounds_told mid new one two = Appends-trans old mid new bound_a bound_b one two

  -- the lines of the moments aren't
  pub told_partly : {T E : Type 0} (mid new : Option (List ℕ)) (result : Result T E) → IsErr result → Appends old mid (bounds first)
      → DoesAllPartly (all_actions es) p first mid new → IsTold p a b es old new result
  told_partly mid new result e begun d = record {
    moments = d.moments;
    last = d.behind;
    run = d.run;
    written = cut_err new result (pair_lines first d.moments) e
        (prefix_behind old mid new (bounds first) _ begun (prefix_of_longer mid new (pair_lines_from first d.moments) _ d.written));
  }

  -- all lines but the last are
  pub told_all : {T E : Type 0} (s : Sides) (mid between new : Option (List ℕ)) (result : Result T E) → Appends old mid (bounds first)
      → (d : DoesAll (all_actions es) p first mid between s) → Writes between new result (pair_line (accepted_words s) s.listener.consumed)
      → IsTold p a b es old new result
  told_all s mid between new (Ok x) begun d w = record {
    moments = d.moments;
    last = d.behind;
    run = d.run;
    written = record {
      whole = Appends-trans old mid new (bounds first) _ begun (Appends-trans mid between new (pair_lines_from first d.moments) _ d.written
          (subst (Appends between new) (told_last s d.behind (known_after first d.moments) d.reaches) w.whole));
      part = tt;
    };
  }
  told_all s mid between new (Err e) begun d w = record {
    moments = d.moments;
    last = d.behind;
    run = d.run;
    written = record {
      whole = tt;
      part = prefix_behind old mid new (bounds first) _ begun (prefix_behind mid between new (pair_lines_from first d.moments) _ d.written
          (subst (AppendsProperPrefix between new) (told_last s d.behind (known_after first d.moments) d.reaches) w.part));
    };
  }

-- ---- what a buffer took of a report, as the sink has it in the end

last_nonempty : (accepted consumed : ℕ) → 0 < length (pair_line accepted consumed)
unfolding pair_line
last_nonempty accepted consumed = omega arith

lines_nonempty : (front lines last : List ℕ) → 0 < length last → 0 < length (front ++ (lines ++ last))
lines_nonempty front lines last some = omega (arith, length-append front (lines ++ last), length-append lines last, some)

pub told_settles : {T E : Type 0} (p : Pair) (a b : History) (es : List Entry) (begun taken held : Option (List ℕ)) (written result : Result T E)
    → IsTold p a b es begun taken written → Settles begun taken held written result → IsTold p a b es begun held result
told_settles p a b es begun taken held written result t settles =
    let k = known_at_first a b in
    record {
      moments = t.moments;
      last = t.last;
      run = t.run;
      written = settles (pair_lines k t.moments) (lines_nonempty (bounds k) (pair_lines_from k t.moments) _ (last_nonempty _ _)) t.written;
    }
