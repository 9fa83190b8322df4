-- A line on which nothing is to come, and the count of steps.
use Rattle.std.proofs.Common.{◌≡◌, ◌+◌, ◌<◌, arith, ℕ, refl, ◌∙◌, sym, ap, List, [], ◌∷◌, length}
use Rattle.fram_board.specs.declared.events.Heard.TheVariants as heard
use Rattle.fram_board.specs.Events.{EventLine, arising_due, arrived, step_counted, line_behind_step}

none_arises : (es : List (ℕ × ℕ)) (q : EventLine) → length es ≡ 0 → arising_due es q ≡ q
none_arises [] q none = refl
none_arises (e ∷ es) q none = absurd (omega arith)

none_counts : (es : List (ℕ × ℕ)) (n : ℕ) → length es ≡ 0 → step_counted es n ≡ n
none_counts [] n none = refl
none_counts (e ∷ es) n none = absurd (omega arith)

-- where none is to come nothing arises
pub none_comes : (q : EventLine) → length q.coming ≡ 0 → arrived q ≡ q
none_comes q none = none_arises q.coming q none

-- and a step counts nothing
pub quiet_step : (q : EventLine) → length q.coming ≡ 0 → line_behind_step q ≡ record q { heard = heard.Nothing }
quiet_step q none =
    none_arises q.coming (record q { heard = heard.Nothing; made = step_counted q.coming q.made }) none
    ∙ ap {B = EventLine} (λ n. record q { heard = heard.Nothing; made = n }) (none_counts q.coming q.made none)

-- so where nothing was read either it is as before
pub quiet_line : (q : EventLine) → q.heard ≡ heard.Nothing → length q.coming ≡ 0 → line_behind_step q ≡ q
quiet_line q unheard none = quiet_step q none ∙ ap {B = EventLine} (λ h. record q { heard = h }) (sym unheard)

-- where one is to come each step is counted
pub one_counted : (es : List (ℕ × ℕ)) (n : ℕ) → 0 < length es → n < 0xFFFFFFFF → step_counted es n ≡ n + 1
one_counted [] n some low = absurd (omega arith)
one_counted (e ∷ es) n some low = grind arith

-- up to the last that counts
pub none_counted : (es : List (ℕ × ℕ)) (n : ℕ) → n ≡ 0xFFFFFFFF → step_counted es n ≡ n
none_counted [] n is = refl
none_counted (e ∷ es) n is = grind arith
