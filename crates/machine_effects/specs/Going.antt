-- Any machine whose steps make effects: its steps one after another.
use Rattle.std.specs.Prelude.{◌≡◌, ℕ, zero, suc, ◌+◌, List, [], ◌++◌}
use Rattle.fram_board.specs.Effects.{Effect}

-- one step: it goes on, with effects and cycles, to a state; or it stops, with the effects that were made before it stopped
-- and the price in cycles of the instruction that stopped, 0 where there was none
pub data StepOutcome (S X : Type 0) : Type 0 where
  Goes : (effects : List Effect) → (cycles : ℕ) → (next : S) → StepOutcome S X
  Stops : (effects : List Effect) → (price : ℕ) → (stop : X) → StepOutcome S X

-- a step with these effects in front
abbrev pub step_behind : {S X : Type 0} → List Effect → StepOutcome S X → StepOutcome S X
step_behind es (Goes fs c s) = Goes (es ++ fs) c s
step_behind es (Stops fs price stop) = Stops (es ++ fs) price stop

-- where a machine is after some steps: at a state, or halted by a stop at this price
pub data Status (S X : Type 0) : Type 0 where
  At : (state : S) → Status S X
  Halted : (price : ℕ) → (stop : X) → Status S X

-- what some steps made and took, and where they led
pub record Stretch (S X : Type 0) : Type 0 where
  pub effects : List Effect
  pub cycles : ℕ
  pub status : Status S X

-- a stretch from its parts
abbrev pub stretch : {S X : Type 0} → List Effect → ℕ → Status S X → Stretch S X
stretch es c status = record { effects = es; cycles = c; status = status }

-- a stretch with these effects and cycles in front
abbrev pub after_effects : {S X : Type 0} → List Effect → ℕ → Stretch S X → Stretch S X
after_effects es c r = record { effects = es ++ r.effects; cycles = c + r.cycles; status = r.status }

-- a step and what follows it; a machine that stopped stays so, and spent nothing on it
abbrev pub continued : {S X : Type 0} → StepOutcome S X → (S → Stretch S X) → Stretch S X
continued (Goes es c s) next = after_effects es c (next s)
continued (Stops es price stop) next = stretch es 0 (Halted price stop)

-- so many steps
abbrev pub going : {S X : Type 0} → (S → StepOutcome S X) → ℕ → S → Stretch S X
going step zero s = stretch [] 0 (At s)
going step (suc n) s = continued (step s) (going step n)

-- n steps from s make exactly these effects in so many cycles, and lead to t
pub record Leads {S X : Type 0} (step : S → StepOutcome S X) (n : ℕ) (es : List Effect) (c : ℕ) (s t : S) : Type 0 where
  pub by : (k : ℕ) → going step (n + k) s ≡ after_effects es c (going step k t)

-- n steps from s are made, in so many cycles, and the next one stops at this price; the effects are those of all of it
pub record Stalls {S X : Type 0} (step : S → StepOutcome S X) (n : ℕ) (es : List Effect) (c : ℕ) (s : S) (price : ℕ) (stop : X) : Type 0 where
  pub by : (k : ℕ) → going step (n + suc k) s ≡ stretch es c (Halted price stop)
