-- The answers of a run's transitions beside the events that were accepted.
use Rattle.image_reports.proofs.Names.{◌≡◌, ℕ, refl, sym, ap, ap₂, ◌∙◌, subst, arith, Bool, true, false, if◌then◌else◌, ◌==◌, List, [], ◌∷◌, ◌++◌, append-nil}
use Rattle.image_reports.proofs.Names.{Option, Some, None, MapValue, Moment, PowerUp}
use Rattle.std.specs.Prelude.{flat_map, map, option_map}
use Rattle.std.proofs.lemmas.Grind.{flat_map-append}
use Rattle.std.proofs.lemmas.List.{map-append}
use Rattle.event_places.specs.Places.{head_place, tail_place, sent_place}
use Rattle.msp_step.specs.alp_words.Words.{word_difference}
use Rattle.image_map.specs.declared.parts.RingPlaces.{RingPlaces}
use Rattle.fram_board.specs.Board.{BoardValue}
use Rattle.fram_board.specs.Run.{Action, Execute}
use Rattle.board_run.specs.History.{History, is_decide, is_done, word_in, noted}
use Rattle.board_run.specs.Events.{head_of}
use Rattle.source_maps.specs.Maps.{event_ring}
use Rattle.source_runs.specs.Tells.{Answers, answer_by, answers_gated, answers_behind, CommittedAttempt, attempts_by, attempts_of}
use Rattle.event_orders.specs.Answers.{not_zeros, AnswersInOrder}
use Rattle.event_orders.specs.Waiting.{words_from, first_index, waiting_in}

-- ---- a ring that begins with zeros has no word

either_zero : (c : Bool) (x y : ℕ) → x ≡ 0 → y ≡ 0 → (if c then x else y) ≡ 0
either_zero true x y a b = a
either_zero false x y a b = b

pub none_waits : (gate : ℕ) (f : ℕ → ℕ) → f head_place ≡ 0 → f tail_place ≡ 0 → f sent_place ≡ 0 → waiting_in gate f ≡ []
none_waits gate f head tail sent =
    let i : first_index gate f ≡ 0 = either_zero (f gate == 1) (f sent_place) (f tail_place) sent tail in
    let n : word_difference (f head_place) (first_index gate f) ≡ 0 = omega (arith, head, i) in
    ap (words_from f (first_index gate f)) n

-- where the source takes events HEAD is where the map says
pub head_named : (events : Bool) (ring : Option RingPlaces) → events ≡ true → ring ≡ (if events then Some event_ring else None)
    → (m : MapValue) → m.ring ≡ ring → head_of (Some m) ≡ Some head_place
head_named events ring on is m same =
    let R : Option RingPlaces → Type 0 = λ o. option_map (λ (r : RingPlaces). r.head) o ≡ Some head_place in
    subst R (sym (same ∙ is ∙ ap (λ (c : Bool). if c then Some event_ring else None) on)) refl

-- ---- without a ring no transition has an answer

abbrev joined : List CommittedAttempt → List ℕ
joined attempts = flat_map (λ (l : List ℕ). l) (map (λ (a : CommittedAttempt). a.answers) attempts)

joined-append : (xs ys : List CommittedAttempt) → joined (xs ++ ys) ≡ joined xs ++ joined ys
joined-append xs ys =
    ap (flat_map (λ (l : List ℕ). l)) (map-append (λ (a : CommittedAttempt). a.answers) xs ys)
    ∙ flat_map-append (λ (l : List ℕ). l) (map (λ (a : CommittedAttempt). a.answers) xs) (map (λ (a : CommittedAttempt). a.answers) ys)

-- there were none so far
record NoneSo (a : Answers) : Type 0 where
  since : a.since ≡ []
  decided : a.decided ≡ []

ringless : (ring : Option RingPlaces) (wrote : Option ℕ) (fram : List ℕ) → ring ≡ None → answer_by ring wrote fram ≡ []
ringless ring wrote fram none = ap (λ (o : Option RingPlaces). answer_by o wrote fram) none

gated : (was now : ℕ) (since : List ℕ) (a : Answers) → since ≡ [] → NoneSo a → NoneSo (answers_gated was now since a)
gated was now since a none so = by (is_done was now) (is_decide was now)
  where
    by : (done decide : Bool)
        → NoneSo (if done then record a { since = [] } else record { since = since; decided = if decide then since else a.decided })
    by true decide = record { since = refl; decided = so.decided }
    by false true = record { since = none; decided = none }
    by false false = record { since = none; decided = so.decided }

module _ (m : MapValue) (none : m.ring ≡ None) where
  behind : (h : History) (o : Action) (b : BoardValue) (a : Answers) → NoneSo a → NoneSo (answers_behind m h o b a)
  behind h PowerUp b a so = record { since = refl; decided = so.decided }
  behind h (Execute kind done offered) b a so =
      gated h.gate (word_in b.fram m.words.gate) (a.since ++ answer_by m.ring done.wrote b.fram) a
      (ap₂ (λ xs ys. xs ++ ys) so.since (ringless m.ring done.wrote b.fram none)) so

  one : (h : History) (a : Answers) (o : Action) (b : BoardValue) → NoneSo a → joined (attempts_by m h a o b) ≡ []
  one h a PowerUp b so = refl
  one h a (Execute kind done offered) b so = by (is_done h.gate (word_in b.fram m.words.gate))
    where
      by : (c : Bool) → joined (if c then record { span = record { from = h.span_from; to = h.span_to }; answers = a.decided } ∷ [] else []) ≡ []
      by true = append-nil a.decided ∙ so.decided
      by false = refl

  pub none_answered : (h : History) (a : Answers) (ms : List Moment) → a.since ≡ [] → a.decided ≡ [] → joined (attempts_of m h a ms) ≡ []
  none_answered h a [] since decided = refl
  none_answered h a (x ∷ xs) since decided =
      let so : NoneSo a = record { since = since; decided = decided } in
      let next = answers_behind m h x.action x.after a in
      let more = behind h x.action x.after a so in
      joined-append (attempts_by m h a x.action x.after) (attempts_of m (noted h x) next xs)
      ∙ ap₂ (λ ys zs. ys ++ zs) (one h a x.action x.after so) (none_answered (noted h x) next xs more.since more.decided)

-- so they are in order beside any words
pub none_in_order : (answers : List (List ℕ)) (words : List ℕ) → flat_map (λ (l : List ℕ). l) answers ≡ [] → AnswersInOrder answers words
none_in_order answers words none = record { waiting = not_zeros words; joined = ap (λ l. not_zeros l ++ not_zeros words) none }
