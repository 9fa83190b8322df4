-- The moments of a run as charges.
use Rattle.std.proofs.Common.{◌≡◌, refl, sym, ap, ◌∙◌, subst, List, [], ◌∷◌, ◌++◌}
use Rattle.fram_board.specs.Board.{BoardValue, PowerState, powered}
use Rattle.fram_board.specs.Steps.{IsPowerState}
use Rattle.fram_board.specs.Run.{Action, PowerUp, Execute, Moment, power_up_of, RunOutcome, BoardCharge, Run, Over, Next, Last}
use Rattle.machine_effects.specs.Runs.{last_board}
use Rattle.run_charges.specs.Charges.{IsInstruction, AreInstructionMoments}
use Rattle.run_charges.specs.Fronts.{ChargeFront, moments_of, AreChargesFrom}
use Rattle.run_charges.specs.Moments.{Follows, IsMomentFrom, PowersUp, Instructs, Serves, AreMoments, BeginWithPower, IsFront}
use Rattle.run_charges.specs.Laws.{IsProgramRun, IsOfCharges, FrontsAreCharges}
use Rattle.run_charges.proofs.Moments.{front_moments}

-- moments as instructions of a charge that is under way, and then charges
record Parts (b : BoardValue) (ms : List Moment) : Type 0 where
  pub before : List Moment
  pub charges : List ChargeFront
  pub split : ms ≡ before ++ moments_of charges
  pub instructions : AreInstructionMoments before
  pub moments : AreMoments b before
  pub follow : AreChargesFrom (last_board b before) charges

-- a power-up of a board that follows this one
power_up_part : (b c : BoardValue) (ms : List Moment) → Follows b c → (p : PowerState) → IsPowerState p → Parts (powered c p) ms
    → Parts b (power_up_of c p ∷ ms)
power_up_part b c ms follows p ok rest =
    record {
      before = [];
      charges = record { before = c; start = p; instructions = rest.before } ∷ rest.charges;
      split = ap (λ l. power_up_of c p ∷ l) rest.split;
      instructions = tt;
      moments = tt;
      follow = (record { follows = follows; start = ok; instructions = rest.instructions; moments = rest.moments }, rest.follow);
    }

-- a step of the charge that is under way
step_part : (b : BoardValue) (m : Moment) (ms : List Moment) → IsInstruction m.action → AreMoments b (m ∷ []) → Parts m.after ms → Parts b (m ∷ ms)
step_part b m ms is one rest = record {
  before = m ∷ rest.before;
  charges = rest.charges;
  split = ap (λ l. m ∷ l) rest.split;
  instructions = (is, rest.instructions);
  moments = (one.0, one.1, rest.moments);
  follow = rest.follow;
}

one_part : (b c : BoardValue) (m : Moment) (ms : List Moment) → Follows b c → IsMomentFrom c m → AreMoments b (m ∷ []) → Parts m.after ms
    → Parts b (m ∷ ms)
one_part b c m ms follows (PowersUp p ok e) one rest =
    let P : Moment → Type 0 = λ x. Parts x.after ms → Parts b (x ∷ ms) in subst P (sym e) (power_up_part b c ms follows p ok) rest
one_part b c m ms follows (Instructs i done at a own e) one rest = step_part b m ms (subst (λ (x : Moment). IsInstruction x.action) (sym e) tt) one rest
one_part b c m ms follows (Serves n done next a served e) one rest = step_part b m ms (subst (λ (x : Moment). IsInstruction x.action) (sym e) tt) one rest

parts_of : (b : BoardValue) (ms : List Moment) → AreMoments b ms → Parts b ms
parts_of b [] h = record { before = []; charges = []; split = refl; instructions = tt; moments = tt; follow = tt }
parts_of b (m ∷ ms) h = one_part b m.before m ms h.0 h.1 (h.0, h.1, tt) (parts_of m.after ms h.2)

heads : (x y : Moment) (xs ys : List Moment) → x ∷ xs ≡ y ∷ ys → x ≡ y
heads x y xs ys e = cc

begins_so : (cs : List BoardCharge) (b : BoardValue) (r : RunOutcome) (ms rest : List Moment) → Run cs b r → r.moments ≡ ms ++ rest → BeginWithPower ms
begins_so cs b r [] rest h e = tt
begins_so cs b r (m ∷ ms) rest (Over _) e = absurd cc
begins_so cs b r (m ∷ ms) rest (Next c ds _ ns end next h k) e =
    sym (ap (λ x. x.action) (heads (power_up_of b c.start) m (ns ++ next.moments) (ms ++ rest) e))
begins_so cs b r (m ∷ ms) rest (Last c ds _ ns stop end h) e =
    sym (ap (λ x. x.action) (heads (power_up_of b c.start) m ns (ms ++ rest) e))

pub no_instruction : (a : Action) → a ≡ PowerUp → IsInstruction a → ⊥
no_instruction PowerUp e h = h
no_instruction (Execute kind done offered) e h = absurd cc

nothing_before : (ms before behind : List Moment) → ms ≡ before ++ behind → AreInstructionMoments before → BeginWithPower ms → before ≡ []
nothing_before ms [] behind e h p = refl
nothing_before [] (x ∷ xs) behind e h p = absurd cc
nothing_before (m ∷ ms) (x ∷ xs) behind e h p =
    absurd (no_instruction x.action (sym (ap (λ y. y.action) (heads m x ms (xs ++ behind) e)) ∙ p) h.0)

whole_charges : (b : BoardValue) (ms : List Moment) → Parts b ms → BeginWithPower ms → IsOfCharges b ms
whole_charges b ms p h =
    let none = nothing_before ms p.before (moments_of p.charges) p.split p.instructions h in
    let P : List Moment → Type 0 = λ l. AreChargesFrom (last_board b l) p.charges in
    record { charges = p.charges; moments = p.split ∙ ap (λ l. l ++ moments_of p.charges) none; follow = subst P none p.follow }

-- the moments of a front are those of charges
pub front_charges : (b : BoardValue) (ms : List Moment) → IsFront b ms → IsOfCharges b ms
front_charges b ms f = whole_charges b ms (parts_of b ms f.moments) f.begins

-- each front of a program's run is one
pub run_front : (cs : List BoardCharge) (b : BoardValue) (r : RunOutcome) (ms rest : List Moment) → IsProgramRun cs b r
    → r.moments ≡ ms ++ rest → IsFront b ms
run_front cs b r ms rest h e = record {
  whole = h.of_words.whole;
  words = h.of_words.words;
  moments = front_moments b r ms rest h.moments e;
  begins = begins_so cs b r ms rest h.of_words.run e;
}

pub fronts_are_charges : FrontsAreCharges
fronts_are_charges cs b r ms rest h e = front_charges b ms (run_front cs b r ms rest h e)
