-- The handler takes 48 cycles at most for each of its acceptances, in 16 steps at most.
use Rattle.std.proofs.Common.{◌≡◌, ◌+◌, ℕ, suc, refl, sym, ap, ◌∙◌, subst, arith, Bool, true, false, if◌then◌else◌, List, [], ◌∷◌, ◌++◌}
use Rattle.fram_board.specs.Board.{BoardValue}
use Rattle.fram_board.specs.Run.{Moment}
use Rattle.machine_effects.specs.Runs.{action_cycles}
use Rattle.crash_rules.specs.History.{History, behind_boot}
use Rattle.crash_rules.specs.Runs.{Program}
use Rattle.run_charges.specs.View.{is_handlers}
use Rattle.run_charges.specs.Charges.{observed}
use Rattle.run_charges.specs.Fronts.{ChargeFront, board_behind, moments_of, AreChargesFrom, handler_cycles, handler_steps, acceptances}
use Rattle.run_charges.specs.Laws.{HandlerIsBrief, HandlersAreBrief}
use Rattle.run_charges.proofs.Charges.{front_charges, run_front}
use Rattle.run_charges.proofs.Running.{PlacedProgram}
use Rattle.run_charges.proofs.Programs.{Ready, ready_on, reach, ready_behind}
use Rattle.run_charges.proofs.Fronts.{placed_program, ready_there, programs_run}

cycles_if : (c : Bool) (n a b : ℕ) → (if c then n + (a + b) else a + b) ≡ (if c then n + a else a) + b
cycles_if true n a b = omega arith
cycles_if false n a b = refl

steps_if : (c : Bool) (a b : ℕ) → (if c then suc (a + b) else a + b) ≡ (if c then suc a else a) + b
steps_if true a b = omega arith
steps_if false a b = refl

cycles-append : (ms ns : List Moment) → handler_cycles (ms ++ ns) ≡ handler_cycles ms + handler_cycles ns
cycles-append [] ns = omega arith
cycles-append (m ∷ ms) ns =
    ap (λ k. if is_handlers m then action_cycles m.action + k else k) (cycles-append ms ns)
    ∙ cycles_if (is_handlers m) (action_cycles m.action) (handler_cycles ms) (handler_cycles ns)

steps-append : (ms ns : List Moment) → handler_steps (ms ++ ns) ≡ handler_steps ms + handler_steps ns
steps-append [] ns = omega arith
steps-append (m ∷ ms) ns =
    ap (λ k. if is_handlers m then suc k else k) (steps-append ms ns) ∙ steps_if (is_handlers m) (handler_steps ms) (handler_steps ns)

acceptances-append : (ms ns : List Moment) → acceptances (ms ++ ns) ≡ acceptances ms + acceptances ns
acceptances-append [] ns = omega arith
acceptances-append (m ∷ ms) ns = let more = acceptances-append ms ns in omega (arith, more)

both_brief : (ms ns : List Moment) → HandlerIsBrief ms → HandlerIsBrief ns → HandlerIsBrief (ms ++ ns)
both_brief ms ns h k =
    let c = cycles-append ms ns in
    let s = steps-append ms ns in
    let a = acceptances-append ms ns in
    let h1 = h.cycles in
    let h2 = h.steps in
    let k1 = k.cycles in
    let k2 = k.steps in
    record { cycles = omega (arith, c, a, h1, k1); steps = omega (arith, s, a, h2, k2) }

module _ (on : PlacedProgram) where
  charges_brief : (b : BoardValue) (h : History) (fs : List ChargeFront) → Ready on b h → AreChargesFrom b fs → HandlerIsBrief (moments_of fs)
  charges_brief b h [] ready all = record { cycles = omega arith; steps = omega arith }
  charges_brief b h (f ∷ fs) ready all =
      let c = all.0 in
      let ms = f.instructions in
      let here = ready_on on b f.before h c.follows ready in
      let k = observed on.marks ms (behind_boot h) in
      let own = reach on f.before h here f.start c.start ms c.instructions c.moments in
      let first = own.cycles in
      let second = own.steps in
      let brief : HandlerIsBrief ms = record { cycles = omega (arith, first); steps = omega (arith, second) } in
      let rest = charges_brief (board_behind f) k fs (ready_behind on f.before h here f.start c.start ms c.instructions c.moments) all.1 in
      let both = both_brief ms (moments_of fs) brief rest in
      let x = both.cycles in
      let y = both.steps in
      record { cycles = omega (arith, x); steps = omega (arith, y) }

-- so it is over each front of a run
pub handlers_are_brief : (c : Program) → HandlersAreBrief c
handlers_are_brief c cs b r ms rest run e marks h stands =
    let on = placed_program c marks b h stands in
    let ready = ready_there c marks b h stands cs r run in
    let all = front_charges b ms (run_front cs b r ms rest (programs_run c cs b r run marks h stands) e) in
    subst HandlerIsBrief (sym all.moments) (charges_brief on b h all.charges ready all.follow)
