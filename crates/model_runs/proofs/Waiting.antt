-- Where no moment is the handler's, each event that arose in a run waits in EVENT, or was lost there.
use Rattle.std.proofs.Common.{◌≡◌, ℕ, ◌+◌, nat_le, refl, sym, ap, ◌∙◌, subst, arith, true, false, if◌then◌else◌, List, [], ◌∷◌, Option, Some, None}
use Rattle.fram_board.specs.Events.{EventLine, words_in, port_behind, arising, arising_due, line_behind_step}
use Rattle.fram_board.specs.Board.{BoardValue}
use Rattle.fram_board.specs.Run.{Moment}
use Rattle.machine_effects.specs.Runs.{last_board}
use Rattle.run_charges.specs.View.{NoneServes, is_handlers}
use Rattle.run_charges.specs.Moments.{IsMomentFrom, PowersUp, Instructs, Serves, AreMoments}

-- each event that arose waits in the port, or was lost there
abbrev pub AreWaiting : EventLine → Type 0
AreWaiting q = q.arisen ≡ q.missed + words_in q.port

one_waits : (w : ℕ) (port : Option ℕ) → words_in (port_behind w port) ≡ 1
one_waits w (Some v) = refl
one_waits w None = refl

arising_wait : (w : ℕ) (coming : List (ℕ × ℕ)) (q : EventLine) → AreWaiting q → AreWaiting (arising w coming q)
arising_wait w coming q h = let one = one_waits w q.port in omega (arith, h, one)

due_wait : (es : List (ℕ × ℕ)) (q : EventLine) → AreWaiting q → AreWaiting (arising_due es q)
due_wait [] q h = h
due_wait (e ∷ es) q h =
    elim (nat_le e.0 q.made) as (λ b. AreWaiting (if b then arising_due es (arising e.1 es q) else q)) [
      | true ↦ due_wait es (arising e.1 es q) (arising_wait e.1 es q h)
      | false ↦ h
    ]

moment_waits : (b : BoardValue) (m : Moment) → AreWaiting b.line → IsMomentFrom b m → is_handlers m ≡ false → AreWaiting m.after.line
moment_waits b m h (PowersUp p ok e) none =
    let P : Moment → Type 0 = λ y. AreWaiting y.after.line in
    subst P (sym e) (due_wait b.line.coming _ (let all : b.line.arisen ≡ b.line.missed + words_in b.line.port + 0 = omega (arith, h) in all))
moment_waits b m h (Instructs i done c a own e) none =
    let P : Moment → Type 0 = λ y. AreWaiting y.after.line in
    let Q : EventLine → Type 0 = λ q. AreWaiting (line_behind_step q) in
    subst P (sym e) (subst Q (sym own.line) (due_wait b.line.coming _ h))
moment_waits b m h (Serves n done next a served e) none =
    let no : true ≡ false = sym served.handlers ∙ ap is_handlers (sym e) ∙ none in absurd cc

-- and so it is behind such moments
pub moments_wait : (b : BoardValue) (ms : List Moment) → AreWaiting b.line → AreMoments b ms → NoneServes ms → AreWaiting (last_board b ms).line
moments_wait b [] h are none = h
moments_wait b (m ∷ ms) h are none =
    let P : BoardValue → Type 0 = λ y. AreWaiting y.line in
    moments_wait m.after ms (moment_waits m.before m (subst P (sym are.0.same) h) are.1 none.0) are.2 none.1
