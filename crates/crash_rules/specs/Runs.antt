-- Runs of a machine whose power is cut: charges of any number of steps, from any boards that a power-up leaves.
use Rattle.std.specs.Prelude.{◌≡◌, ℕ, ◌+◌, ◌-◌, ◌<◌, ◌≤◌, ◌⊎◌, Bool, true, false, List, [], ◌∷◌}
use Rattle.machine_effects.specs.msp_step.declared.machine.Stop.TheVariants as stop
use Rattle.machine_effects.specs.fram_board.Effects.{Effect}
use Rattle.machine_effects.specs.World.{World}
use Rattle.machine_effects.specs.Inputs.{SeeWords}
use Rattle.machine_effects.specs.Going.{Goes, Stops, At, going, Leads, Stalls}
use Rattle.machine_effects.specs.Machine.{MachineBoard, MachineOutcome}
use Rattle.machine_effects.specs.Changes.{ChangesByEffects}
use Rattle.crash_rules.specs.Model.{Model, Marks, ProgramEffects, program_effects, Inputs, InputsAreWords, bound, with_commit, attempt_from}
use Rattle.crash_rules.specs.History.{History, observe, behind_boot}

-- code that runs on the machine
pub record Program : Type 1 where
  pub step : MachineBoard → MachineOutcome
  pub IsPoweredUp : MachineBoard → Type 0  -- boards that a power-up leaves
  pub AtStart : MachineBoard → Type 0  -- boards behind a done

-- boards from which the script is to be done, behind a boot or a done
abbrev pub AtEntry : Program → Bool → MachineBoard → Type 0
AtEntry c true b = c.IsPoweredUp b
AtEntry c false b = c.AtStart b

-- these effects are made whole within so many cycles, and those that the inputs taken delay them: to the start behind a done
pub record MakesAll (c : Program) (delay : Inputs → ℕ) (most steps cycles : ℕ) (es : List Effect) (s : MachineBoard) : Type 0 where
  pub end : MachineBoard
  pub within : cycles + delay end.inputs ≤ most + delay s.inputs
  pub leads : Leads c.step steps es cycles s end
  pub at_start : c.AtStart end

-- they are made up to an instruction that wants a reading which isn't left, whose price is within those cycles too
pub record MakesShort (c : Program) (delay : Inputs → ℕ) (most steps cycles : ℕ) (es : List Effect) (s : MachineBoard) : Type 0 where
  pub price : ℕ
  pub within : cycles + price ≤ most + delay s.inputs
  pub stalls : Stalls c.step steps es cycles s price stop.NoReading

-- from a board a program's effects are made
pub record Makes (c : Program) (delay : Inputs → ℕ) (most : ℕ) (p : ProgramEffects) (s : MachineBoard) : Type 0 where
  pub steps : ℕ
  pub cycles : ℕ
  pub ends : p.ends ≡ true → MakesAll c delay most steps cycles p.effects s
  pub lacks : p.ends ≡ false → MakesShort c delay most steps cycles p.effects s

-- an instruction takes a cycle at least, also one that wants a reading
abbrev pub TakesCycles : MachineOutcome → Type 0
TakesCycles (Goes es c t) = 0 < c
TakesCycles (Stops es price e) = e ≡ stop.NoReading → 0 < price

-- what the code owes
pub record ProgramLaws {St : Type 0} (m : Model St) (c : Program) : Type 0 where
  pub changes : (s : MachineBoard) → ChangesByEffects s (c.step s)
  pub takes_cycles : (s : MachineBoard) → TakesCycles (c.step s)
  pub makes_boot : (s : St) (x : World) (b : MachineBoard) → c.IsPoweredUp b → b.fram ≡ x.fram → InputsAreWords b.inputs → m.Undecided s x
      → Makes c m.delay (m.task_cost (m.task_number s)) (with_commit m b.fram b.inputs (attempt_from m true b.fram b.inputs)) b
  pub makes_attempt : (s : St) (x : World) (b : MachineBoard) → c.AtStart b → b.fram ≡ x.fram → InputsAreWords b.inputs → m.Settled s x
      → Makes c m.delay (m.task_cost (m.task_number s)) (with_commit m b.fram b.inputs (m.attempt b.fram b.inputs)) b
  -- a commit that a task decided is within the task's own cost
  pub makes_decided : (s next : St) (x : World) (b : MachineBoard) → c.IsPoweredUp b → b.fram ≡ x.fram → m.Decided s next x
      → Makes c m.delay (m.task_cost (m.task_number s)) (program_effects (m.commit b.fram b.inputs) true) b
  -- any that is pending is within the bound
  pub makes_commit : (to : St) (x : World) (b : MachineBoard) → c.IsPoweredUp b → b.fram ≡ x.fram → m.Committing to x
      → Makes c m.delay (bound m) (program_effects (m.commit b.fram b.inputs) true) b

-- a charge: the board that its power-up left, and how many steps were made
pub record Charge : Type 0 where
  pub powered : MachineBoard
  pub steps : ℕ

-- a machine that a power-up left, from one before it: FRAM and the readings that are left are as they were. The looks of its charge are any
pub record IsPoweredFrom (s p : MachineBoard) : Type 0 where
  pub fram : p.fram ≡ s.fram
  pub readings : p.inputs.readings ≡ s.inputs.readings
  pub looks : SeeWords p.inputs.looks

-- charges that lead from a board to a board, and the histories before and behind them
abbrev pub Charged : Program → Marks → MachineBoard → History → List Charge → MachineBoard → History → Type 0
Charged c marks s h [] t k = (t ≡ s) × (k ≡ h)
Charged c marks s h (e ∷ es) t k = c.IsPoweredUp e.powered × IsPoweredFrom s e.powered
    × ((q : MachineBoard) × ((going c.step e.steps e.powered).status ≡ At q)
    × Charged c marks q (observe marks (going c.step e.steps e.powered).effects (behind_boot h)) es t k)

-- a charge of which so much is left can't pay for what comes next
abbrev pub IsSpent : ℕ → MachineOutcome → Type 0
IsSpent left (Goes es c t) = (left ≡ 0) ⊎ (left < c)
IsSpent left (Stops es price e) = (left ≡ 0) ⊎ (left < price)

-- a charge of so many cycles that is spent behind so many steps, at this board
pub record Spends (step : MachineBoard → MachineOutcome) (amount steps : ℕ) (s t : MachineBoard) : Type 0 where
  pub status : (going step steps s).status ≡ At t
  pub within : (going step steps s).cycles ≤ amount
  pub spent : IsSpent (amount - (going step steps s).cycles) (step t)

-- a charge of so many cycles that is spent from a board on
pub record IsSpentFrom (step : MachineBoard → MachineOutcome) (amount : ℕ) (s : MachineBoard) : Type 0 where
  pub steps : ℕ
  pub end : MachineBoard
  pub spends : Spends step amount steps s end
