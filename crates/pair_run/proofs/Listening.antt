-- A listener is told what its board's moments say of its words.
use Rattle.std.proofs.Common.{◌≡◌, ◌==◌, nat_lt, if◌then◌else◌, arith, ℕ, refl, sym, ◌∙◌, ap, ap₂, subst, Bool, true, false, List, []}
use Rattle.std.proofs.Common.{◌∷◌, ◌++◌}
use Rattle.std.proofs.Common.{append-nil, length, length-append, drop, Option, Some, None}
use Rattle.std.specs.Prelude.{IfSome}
use Rattle.std.proofs.Math.Seq.{drop-append_seam, drop-length}
use Rattle.std.proofs.lemmas.Bool.Decides.{nat_tests}
use Rattle.image_text.specs.image_map.declared.parts.RingPlaces.{RingPlaces}
use Rattle.fram_board.specs.declared.events.Heard.{Heard}
use Rattle.fram_board.specs.declared.events.Heard.TheVariants as heard
use Rattle.fram_board.specs.declared.board.NextStep.{NextStep}
use Rattle.fram_board.specs.declared.board.Stepped.{Stepped}
use Rattle.fram_board.specs.Gate.{is_decide, is_done}
use Rattle.fram_board.specs.Board.{BoardValue, PowerState, performed, at_boundary}
use Rattle.fram_board.specs.Run.{Moment, kind_of, moment_of, power_up_of, word_list}
use Rattle.board_run.specs.History.{History, word_in, noted}
use Rattle.board_run.specs.Events.{Hand, HandEnd, ChangesHead, handed, handed_all, head_of, reads_of, head_ends, is_return, return_ends}
use Rattle.board_run.specs.Events.{hand_behind}
use Rattle.board_run.specs.Stepwise.{ring_of, answer_of_ring, events_in}
use Rattle.board_run.proofs.Interface.{after_map}
use Rattle.pair_run.specs.declared.listener.Listener.{Listener}
use Rattle.pair_run.specs.declared.listener.Progress.{Progress}
use Rattle.pair_run.specs.Consuming.{Consuming, answers_behind, gate_behind, consuming_anew, consuming_in}
use Rattle.pair_run.specs.Consuming.{consuming_behind}
use Rattle.pair_run.specs.Lines.{PairKnown, accepted_between, known_behind_b}
use Rattle.pair_run.specs.Listening.{with_power, with_power_by, word_behind, consumes_on, consumes, consumes_if, with_step, accepted_word}
use Rattle.pair_run.specs.Listening.{consuming_so, Listens}

-- ---- the hand

-- behind the reads of a step: what the hand holds is the word that was taken last
reads_hold : (x : Heard) (h : Hand) (last : ℕ) → IfSome h.word (λ w. last ≡ w) → IfSome (handed_all (reads_of x) h).word (λ w. word_behind x last ≡ w)
reads_hold heard.Nothing h last holds = holds
reads_hold (heard.Once None) h last holds = tt
reads_hold (heard.Once (Some w)) h last holds = refl
reads_hold (heard.Again taken) h last holds = tt

reads_accept : (x : Heard) (h : Hand) → (handed_all (reads_of x) h).accepted ≡ h.accepted
reads_accept heard.Nothing h = refl
reads_accept (heard.Once taken) h = refl
reads_accept (heard.Again taken) h = refl

all_append : (es fs : List HandEnd) (h : Hand) → handed_all (es ++ fs) h ≡ handed_all fs (handed_all es h)
all_append [] fs h = refl
all_append (e ∷ es) fs h = all_append es fs (handed e h)

-- a change of HEAD, or none
abbrev change_if : Bool → List HandEnd
change_if true = ChangesHead ∷ []
change_if false = []

-- behind the rest of a step
record Behind (g h : Hand) (changes : Bool) (last : ℕ) : Type 0 where
  accepted : h.accepted ≡ (if changes then g.accepted ++ word_list g.word else g.accepted)
  word : IfSome g.word (λ w. last ≡ w) → IfSome h.word (λ w. last ≡ w)

ends_behind : (changes returns : Bool) (g : Hand) (last : ℕ) → Behind g (handed_all (change_if changes ++ return_ends returns) g) changes last
ends_behind true true g last = record { accepted = refl; word = λ h. tt }
ends_behind true false g last = record { accepted = refl; word = λ h. tt }
ends_behind false true g last = record { accepted = refl; word = λ h. tt }
ends_behind false false g last = record { accepted = refl; word = λ h. h }

change_is : (test : Bool) → (if test then [] else ChangesHead ∷ []) ≡ change_if (if test then false else true)
change_is true = refl
change_is false = refl

head_changes : Option ℕ → List ℕ → List ℕ → Bool
head_changes None before after = false
head_changes (Some head) before after = if word_in after head == word_in before head then false else true

head_ends_are : (head : Option ℕ) (before after : List ℕ) → head_ends head before after ≡ change_if (head_changes head before after)
unfolding head_changes
head_ends_are None before after = refl
head_ends_are (Some head) before after = change_is (word_in after head == word_in before head)

-- the words that are accepted: one, where there are more behind
one_accepted : (changes : Bool) (xs : List ℕ) (o : Option ℕ) (last : ℕ) → IfSome o (λ w. last ≡ w)
    → (if changes then xs ++ word_list o else xs)
    ≡ xs ++ word_list (if nat_lt (length xs) (length (if changes then xs ++ word_list o else xs)) then Some last else None)
one_accepted true xs (Some w) last is =
    let more : nat_lt (length xs) (length (xs ++ w ∷ [])) ≡ true = grind (arith, nat_tests, length-append) in
    ap (λ v. xs ++ v ∷ []) (sym is) ∙ ap (λ b. xs ++ word_list (if b then Some last else None)) (sym more)
one_accepted true xs None last is =
    let none : nat_lt (length xs) (length (xs ++ [])) ≡ false = grind (arith, nat_tests, length-append) in
    ap (λ b. xs ++ word_list (if b then Some last else None)) (sym none)
one_accepted false xs o last is =
    let none : nat_lt (length xs) (length xs) ≡ false = grind (arith, nat_tests) in
    sym (append-nil xs) ∙ ap (λ b. xs ++ word_list (if b then Some last else None)) (sym none)

-- the hand behind a step
record HandStep (head : Option ℕ) (m : Moment) (heard_of : Heard) (h : Hand) (last : ℕ) : Type 0 where
  pub accepted : let behind = hand_behind head m h in
      behind.accepted ≡ h.accepted ++ word_list (if nat_lt (length h.accepted) (length behind.accepted) then Some (word_behind heard_of last) else None)
  pub word : IfSome (hand_behind head m h).word (λ w. word_behind heard_of last ≡ w)

hand_step : (head : Option ℕ) (b : BoardValue) (n : NextStep) (done : Stepped) (h : Hand) (last : ℕ) → IfSome h.word (λ w. last ≡ w)
    → HandStep head (moment_of b n done) done.heard h last
unfolding hand_behind
hand_step head b n done h last holds =
    let after = (at_boundary (performed b n).board).fram in
    let g = handed_all (reads_of done.heard) h in
    let changes = head_changes head b.fram after in
    let returns = is_return (kind_of n) in
    let is : handed_all (reads_of done.heard ++ (head_ends head b.fram after ++ return_ends returns)) h
    ≡ handed_all (change_if changes ++ return_ends returns) g =
    all_append (reads_of done.heard) (head_ends head b.fram after ++ return_ends returns) h
    ∙ ap (λ es. handed_all (es ++ return_ends returns) g) (head_ends_are head b.fram after) in
    let behind = ends_behind changes returns g (word_behind done.heard last) in
    let held = reads_hold done.heard h last holds in
    let xs = h.accepted in
    let all : (handed_all (change_if changes ++ return_ends returns) g).accepted ≡ (if changes then xs ++ word_list g.word else xs) =
    behind.accepted ∙ ap (λ ys. if changes then ys ++ word_list g.word else ys) (reads_accept done.heard h) in
    let P : Hand → Type 0 = λ x. x.accepted ≡ xs ++ word_list (if nat_lt (length xs) (length x.accepted) then Some (word_behind done.heard last) else None) in
    record {
      accepted = subst P (sym is) (all ∙ one_accepted changes xs g.word (word_behind done.heard last) held
          ∙ ap (λ ys. xs ++ word_list (if nat_lt (length xs) (length ys) then Some (word_behind done.heard last) else None)) (sym all));
      word = subst (λ x. IfSome x.word (λ w. word_behind done.heard last ≡ w)) (sym is) (behind.word held);
    }

-- ---- the answers

so_by : (d e : Bool) (x y z : Listener) → consuming_so (if d then x else if e then y else z) ≡
    (if d then consuming_so x else if e then consuming_so y else consuming_so z)
so_by true e x y z = refl
so_by false true x y z = refl
so_by false false x y z = refl

-- with a ring, what is kept of the answers behind a step is what they are
ring_step : (ring : RingPlaces) (p : Progress) (l : Listener) (gate now before after : ℕ) → p.gate_before ≡ gate → p.gate ≡ now → l.events ≡ before
    → p.events ≡ after
    → consuming_so (consumes ring.answer p l) ≡ gate_behind gate now (consuming_so l) (answers_behind ring p.done.wrote before after (consuming_so l))
ring_step ring p l gate now before after is_gate is_now is_before is_after =
    so_by (is_done p.gate_before p.gate) (is_decide p.gate_before p.gate) _ _ _
    ∙ ap₂ (λ g n. gate_behind g n (consuming_so l) (answers_behind ring p.done.wrote l.events p.events (consuming_so l))) is_gate is_now
    ∙ ap₂ (λ x y. gate_behind gate now (consuming_so l) (answers_behind ring p.done.wrote x y (consuming_so l))) is_before is_after

pub either : (P : Listener → Type 0) (d e : Bool) (x y z : Listener) → P x → P y → P z → P (if d then x else if e then y else z)
either P true e x y z h g f = h
either P false true x y z h g f = g
either P false false x y z h g f = f

-- the rest of what is kept
record Rest (p : Progress) (l x : Listener) : Type 0 where
  place : x.answer_place ≡ l.answer_place
  word : x.word ≡ l.word
  events : x.events ≡ p.events

consumes_rest : (place : ℕ) (p : Progress) (l : Listener) → Rest p l (consumes place p l)
consumes_rest place p l =
    let z : Rest p l (consumes_on place p l) = record { place = refl; word = refl; events = refl } in
    either (Rest p l) (is_done p.gate_before p.gate) (is_decide p.gate_before p.gate) _ _ _
    (record { place = refl; word = refl; events = refl }) (record { place = refl; word = refl; events = refl }) z

-- what a step is told as
pub record IsProgress (p : Progress) (k : PairKnown) (m : Moment) (done : Stepped) : Type 0 where
  pub done_is : p.done ≡ done
  pub accepts : p.accepts ≡ nat_lt (length k.hand.accepted) (length (hand_behind (head_of k.b.map) m k.hand).accepted)
  pub before : p.gate_before ≡ k.b.gate
  pub gate : p.gate ≡ (noted k.b m).gate
  pub events : p.events ≡ events_in (ring_of k.b.map) m.after.fram

-- the map stays
pub map_stays : (h : History) (m : Moment) → (noted h m).map ≡ h.map
map_stays h m = after_map h (m ∷ [])

-- what is kept behind a step, by the ring
record KeptBehind (l x : Listener) (ring : Option RingPlaces) (fram : List ℕ) (c : Consuming) (last : ℕ) : Type 0 where
  pub place : x.answer_place ≡ answer_of_ring ring
  pub events : x.events ≡ events_in ring fram
  pub word : x.word ≡ last
  pub consuming : consuming_so x ≡ c

module _ (k : PairKnown) (b : BoardValue) (n : NextStep) (done : Stepped) (l : Listener) (p : Progress) (listens : Listens l k b.fram)
    (progress : IsProgress p k (moment_of b n done) done) where
  abbrev made : Moment
  made = moment_of b n done

  abbrev after : List ℕ
  after = (at_boundary (performed b n).board).fram

  abbrev taken : Listener
  taken = record l { word = word_behind p.done.heard l.word }

  kept_by : (ring : Option RingPlaces) → ring_of k.b.map ≡ ring
      → KeptBehind l (consumes_if (answer_of_ring ring) p taken) ring after (consuming_in ring k.b.gate made (noted k.b made).gate k.consuming)
      (word_behind p.done.heard l.word)
  kept_by None is = record {
    place = listens.place ∙ ap answer_of_ring is;
    events = listens.events ∙ ap (λ r. events_in r b.fram) is;
    word = refl;
    consuming = listens.consuming;
  }
  kept_by (Some ring) is =
      let rest = consumes_rest ring.answer p taken in
      let before = listens.events ∙ ap (λ r. events_in r b.fram) is in
      let now = progress.events ∙ ap (λ r. events_in r after) is in
      record {
        place = rest.place ∙ listens.place ∙ ap answer_of_ring is;
        events = rest.events ∙ now;
        word = rest.word;
        consuming = ring_step ring p taken k.b.gate (noted k.b made).gate (word_in b.fram ring.event_count) (word_in after ring.event_count)
            progress.before progress.gate before now
            ∙ ap (λ d. gate_behind k.b.gate (noted k.b made).gate (consuming_so l)
            (answers_behind ring d.wrote (word_in b.fram ring.event_count) (word_in after ring.event_count) (consuming_so l))) progress.done_is
            ∙ ap (λ c. gate_behind k.b.gate (noted k.b made).gate c
            (answers_behind ring done.wrote (word_in b.fram ring.event_count) (word_in after ring.event_count) c)) listens.consuming;
      }

  stepped_hand : HandStep (head_of k.b.map) made done.heard k.hand l.word
  stepped_hand = hand_step (head_of k.b.map) b n done k.hand l.word listens.word

  -- it listens on
  pub step_listens : Listens (with_step p l) (known_behind_b k made) after
  unfolding consuming_behind
  step_listens =
      let ring = ring_of k.b.map in
      let kept : KeptBehind l (with_step p l) ring after (consuming_in ring k.b.gate made (noted k.b made).gate k.consuming)
      (word_behind p.done.heard l.word) =
      subst (λ o. KeptBehind l (consumes_if o p taken) ring after (consuming_in ring k.b.gate made (noted k.b made).gate k.consuming)
      (word_behind p.done.heard l.word)) (sym listens.place) (kept_by ring refl) in
      let same = map_stays k.b made in
      let last : (with_step p l).word ≡ word_behind done.heard l.word = kept.word ∙ ap (λ d. word_behind d.heard l.word) progress.done_is in
      record {
        place = kept.place ∙ ap (λ m. answer_of_ring (ring_of m)) (sym same);
        events = kept.events ∙ ap (λ m. events_in (ring_of m) after) (sym same);
        word = subst (λ v. IfSome (hand_behind (head_of k.b.map) made k.hand).word (λ w. v ≡ w)) (sym last) stepped_hand.word;
        consuming = kept.consuming;
      }

  -- and the word that is accepted is the one that it answers
  pub step_accepts : accepted_between k.hand (hand_behind (head_of k.b.map) made k.hand) ≡ word_list (accepted_word p l)
  step_accepts =
      let hand = hand_behind (head_of k.b.map) made k.hand in
      let told = stepped_hand.accepted in
      let more = word_list (if nat_lt (length k.hand.accepted) (length hand.accepted) then Some (word_behind done.heard l.word) else None) in
      ap (drop (length k.hand.accepted)) told
      ∙ drop-append_seam k.hand.accepted more
      ∙ ap₂ (λ t d. word_list (if t then Some (word_behind d.heard l.word) else None)) (sym progress.accepts) (sym progress.done_is)

-- ---- a power-up

power_kept : (ring : Option RingPlaces) (l : Listener) (k : PairKnown) (b : BoardValue) (q : PowerState) (now : ℕ) → consuming_so l ≡ k.consuming
    → consuming_so (with_power_by (answer_of_ring ring) l) ≡ consuming_in ring k.b.gate (power_up_of b q) now k.consuming
power_kept None l k b q now e = e
power_kept (Some ring) l k b q now e = ap consuming_anew e

power_rest : (o : Option ℕ) (l : Listener) → ((with_power_by o l).answer_place ≡ l.answer_place) × ((with_power_by o l).word ≡ l.word)
    × ((with_power_by o l).events ≡ l.events)
power_rest None l = (refl, refl, refl)
power_rest (Some place) l = (refl, refl, refl)

-- a hand that loses what it holds
lost_hand : (h : Hand) (head : Option ℕ) (b : BoardValue) (q : PowerState) → ((hand_behind head (power_up_of b q) h).accepted ≡ h.accepted)
    × ((hand_behind head (power_up_of b q) h).word ≡ None)
unfolding hand_behind
lost_hand h head b q = (refl, refl)

pub power_listens : (l : Listener) (k : PairKnown) (b : BoardValue) (q : PowerState) → Listens l k b.fram
    → Listens (with_power l) (known_behind_b k (power_up_of b q)) b.fram
unfolding consuming_behind
power_listens l k b q listens =
    let ring = ring_of k.b.map in
    let up = power_up_of b q in
    let rest = power_rest l.answer_place l in
    let same = map_stays k.b up in
    let lost = lost_hand k.hand (head_of k.b.map) b q in
    record {
      place = rest.0 ∙ listens.place ∙ ap (λ m. answer_of_ring (ring_of m)) (sym same);
      events = rest.2 ∙ listens.events ∙ ap (λ m. events_in (ring_of m) b.fram) (sym same);
      word = subst (λ o. IfSome o (λ w. (with_power l).word ≡ w)) (sym lost.1) tt;
      consuming = ap (λ o. consuming_so (with_power_by o l)) listens.place
          ∙ power_kept ring l k b q (noted k.b up).gate listens.consuming;
    }

-- A is told of nothing then
pub power_accepts : (k : PairKnown) (b : BoardValue) (q : PowerState)
    → accepted_between k.hand (hand_behind (head_of k.b.map) (power_up_of b q) k.hand) ≡ []
power_accepts k b q =
    ap (drop (length k.hand.accepted)) (lost_hand k.hand (head_of k.b.map) b q).0 ∙ drop-length k.hand.accepted

-- and no word more is accepted
pub power_keeps_words : (k : PairKnown) (b : BoardValue) (q : PowerState) → (known_behind_b k (power_up_of b q)).hand.accepted ≡ k.hand.accepted
power_keeps_words k b q = (lost_hand k.hand (head_of k.b.map) b q).0

-- power that comes up twice is as once
pub twice_powered : (l : Listener) → with_power (with_power l) ≡ with_power l
twice_powered l = by_place l.answer_place refl
  where
    by_place : (o : Option ℕ) → l.answer_place ≡ o → with_power (with_power l) ≡ with_power l
    by_place None e = ap with_power (ap (λ o. with_power_by o l) e)
    by_place (Some place) e =
        let once : with_power l ≡ with_power_by (Some place) l = ap (λ o. with_power_by o l) e in
        ap with_power once ∙ ap (λ o. with_power_by o (with_power_by (Some place) l)) e ∙ sym once
