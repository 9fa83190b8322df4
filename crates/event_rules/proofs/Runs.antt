-- The word in hand over whole runs.
use Rattle.std.proofs.Common.{◌≡◌, ◌<◌, arith, refl, sym, ap, ◌∙◌, subst, inl, inr, List, [], ◌∷◌, ◌++◌, Option, Some, None}
use Rattle.event_places.specs.Places.{handler_place, head_place}
use Rattle.msp_step.specs.Registers.{registers_of}
use Rattle.fram_board.specs.declared.events.Heard.TheVariants as heard
use Rattle.fram_board.specs.Board.{BoardValue, PowerState}
use Rattle.fram_board.specs.Run.{Moment, power_up_of}
use Rattle.board_run.specs.Events.{Hand, no_hand, losing, hand_behind, hand_after}
use Rattle.machine_effects.specs.Runs.{last_board}
use Rattle.machine_effects.proofs.Interface.{powered_heard}
use Rattle.event_handler.specs.Handler.{Stage}
use Rattle.program_view.specs.Stands.{StandsAs, AtCode, InHandler, stage_of}
use Rattle.program_view.proofs.Interface.{handler_is_high}
use Rattle.crash_rules.specs.History.{History, behind_boot}
use Rattle.crash_rules.specs.Runs.{Program}
use Rattle.run_charges.specs.Moments.{AreMoments}
use Rattle.run_charges.specs.Charges.{AreInstructionMoments, observed}
use Rattle.run_charges.specs.Fronts.{ChargeFront, board_powered, board_behind, board_behind_all, moments_of, AreChargesFrom}
use Rattle.run_charges.proofs.Interface.{PlacedProgram, MoveOn, Machine, silent_behind, Ready, ready_on, reach, ready_behind, last_behind, front_charges}
use Rattle.run_charges.proofs.Interface.{run_front}
use Rattle.run_charges.proofs.Interface.{placed_program, ready_there, programs_run}
use Rattle.event_rules.specs.Laws.{KeepsHand, EachKeepsHand, HandsAreKept, WaitsInTheHandler}
use Rattle.event_rules.proofs.Hands.{held, moves_hand}

abbrev pub after : List Moment → Hand → Hand
after ms h = hand_after (Some head_place) ms h

pub after-append : (ms ns : List Moment) (h : Hand) → after (ms ++ ns) h ≡ after ns (after ms h)
after-append [] ns h = refl
after-append (m ∷ ms) ns h = after-append ms ns (hand_behind (Some head_place) m h)

both_keep : (ms ns : List Moment) (h : Hand) → EachKeepsHand ms h → EachKeepsHand ns (after ms h) → EachKeepsHand (ms ++ ns) h
both_keep [] ns h a b = b
both_keep (m ∷ ms) ns h a b = (a.0, both_keep ms ns (hand_behind (Some head_place) m h) a.1 b)

-- steps of a charge
record Over (ms : List Moment) (h : Hand) (t : Option (BoardValue × Stage)) : Type 0 where
  each : EachKeepsHand ms h
  holds : (after ms h).word ≡ held t

steps_keep : (on : PlacedProgram) (b : BoardValue) (ms : List Moment) (s t : Option (BoardValue × Stage)) → MoveOn on b ms s t → AreMoments b ms
    → AreInstructionMoments ms → b.line.heard ≡ heard.Nothing → (h : Hand) → h.word ≡ held s → Over ms h t
steps_keep on b [] s t moves are is silent h holds = record { each = tt; holds = holds ∙ ap held moves }
steps_keep on b (m ∷ ms) s t moves are is silent h holds =
    let here : m.before.line.heard ≡ heard.Nothing = subst (λ (y : BoardValue). y.line.heard ≡ heard.Nothing) (sym are.0.same) silent in
    let one = moves_hand on m.before m is.0 here h s moves.0 moves.1 are.1 holds in
    let rest = steps_keep on m.after ms moves.0 t moves.2 are.2 is.1 (silent_behind m.before m are.1) (hand_behind (Some head_place) m h) one.holds in
    record { each = (one.keeps, rest.each); holds = rest.holds }

-- a power-up loses what is in hand
module _ (b : BoardValue) (p : PowerState) (h : Hand) where
  pub power_up_loses : hand_behind (Some head_place) (power_up_of b p) h ≡ losing h
  unfolding hand_behind
  power_up_loses = refl

  power_up_keeps : KeepsHand (power_up_of b p) h (hand_behind (Some head_place) (power_up_of b p) h)
  power_up_keeps = record { lost = inr tt; accepted = inl (ap (λ (k : Hand). k.accepted) power_up_loses) }

  pub power_up_empties : (hand_behind (Some head_place) (power_up_of b p) h).word ≡ None
  power_up_empties = ap (λ (k : Hand). k.word) power_up_loses

module _ (on : PlacedProgram) where
  -- where the handler doesn't run none is held
  none_held : (b : BoardValue) (x : Machine on b []) → registers_of b.cpu 0 < handler_place → held (stage_of x.stands) ≡ None
  none_held b x low = by x.stands
    where
      by : (st : StandsAs b x.u) → held (stage_of st) ≡ None
      by (AtCode shows) = refl
      by (InHandler from at shows interrupted inside) = let high = handler_is_high from at b inside in absurd (omega (arith, low, high))

  record OverCharges (b : BoardValue) (fs : List ChargeFront) (hand : Hand) : Type 0 where
    each : EachKeepsHand (moments_of fs) hand
    empty : registers_of (board_behind_all b fs).cpu 0 < handler_place → (after (moments_of fs) hand).word ≡ None

  charges_keep : (b : BoardValue) (h : History) (fs : List ChargeFront) → Ready on b h → AreChargesFrom b fs → (hand : Hand)
      → (registers_of b.cpu 0 < handler_place → hand.word ≡ None) → OverCharges b fs hand
  charges_keep b h [] ready all hand empty = record { each = tt; empty = empty }
  charges_keep b h (f ∷ fs) ready all hand empty =
      let c = all.0 in
      let ms = f.instructions in
      let start = board_powered f in
      let here = ready_on on b f.before h c.follows ready in
      let k = observed on.marks ms (behind_boot h) in
      let own = reach on f.before h here f.start c.start ms c.instructions c.moments in
      let up = hand_behind (Some head_place) (power_up_of f.before f.start) hand in
      let steps = steps_keep on start ms None (stage_of own.end.stands) own.moves c.moments c.instructions (powered_heard f.before f.start) up
      (power_up_empties f.before f.start hand) in
      let low : registers_of (board_behind f).cpu 0 < handler_place → (after ms up).word ≡ None =
      λ l. steps.holds ∙ none_held (board_behind f) own.end l in
      let rest = charges_keep (board_behind f) k fs (ready_behind on f.before h here f.start c.start ms c.instructions c.moments) all.1 (after ms up) low in
      record {
        each = (power_up_keeps f.before f.start hand, both_keep ms (moments_of fs) up steps.each rest.each);
        empty = λ l. ap (λ (y : Hand). y.word) (after-append ms (moments_of fs) up) ∙ rest.empty l;
      }

pub hands_are_kept : (c : Program) → HandsAreKept c
hands_are_kept c cs b r ms rest run e marks h stands =
    let on = placed_program c marks b h stands in
    let ready = ready_there c marks b h stands cs r run in
    let all = front_charges b ms (run_front cs b r ms rest (programs_run c cs b r run marks h stands) e) in
    subst (λ (l : List Moment). EachKeepsHand l no_hand) (sym all.moments) (charges_keep on b h all.charges ready all.follow no_hand (λ l. refl)).each

pub waits_in_the_handler : (c : Program) → WaitsInTheHandler c
waits_in_the_handler c cs b r ms rest run e marks h stands low =
    let on = placed_program c marks b h stands in
    let ready = ready_there c marks b h stands cs r run in
    let all = front_charges b ms (run_front cs b r ms rest (programs_run c cs b r run marks h stands) e) in
    let there : last_board b ms ≡ board_behind_all b all.charges = ap (last_board b) all.moments ∙ last_behind b all.charges in
    ap (λ (l : List Moment). (after l no_hand).word) all.moments
    ∙ (charges_keep on b h all.charges ready all.follow no_hand (λ l. refl)).empty (subst (λ (y : BoardValue). registers_of y.cpu 0 < handler_place) there low)
