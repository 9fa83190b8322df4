-- What calls cost, where the bodies in them go by where their code begins.
use Rattle.std.proofs.Common.{◌≡◌, ℕ, [], List}
use Rattle.word_code.specs.array_versions.Program.{Step, Test, Program, truth, choose, repeat, call, holds, compares, both, either, fails}
use Rattle.word_code.specs.array_versions.Program.{nothing, step, step_filled, test_filled, filled}
use Rattle.code_paths.specs.Paths.{capped}
use Rattle.code_costs.specs.Dearest.{block_most}
use Rattle.dearest_ways.specs.declared.calls.CallCost.{CallCost}
use Rattle.dearest_ways.specs.Calls.{cost_at, StepCallsCost, TestCallsCost, CallsCost}

-- the body of each function costs what its calls cost
abbrev pub BodiesCost : List CallCost → (ℕ → Program) → Type 0
BodiesCost calls bodies = (entry : ℕ) → cost_at calls entry ≡ capped (block_most [] (bodies entry) 0)

mutual
  step_cost : (calls : List CallCost) (bodies : ℕ → Program) → BodiesCost calls bodies → (s : Step) → StepCallsCost calls (step_filled bodies s)
  step_cost calls bodies h (truth t) = test_cost calls bodies h t
  step_cost calls bodies h (choose t p q) = (test_cost calls bodies h t, filled_cost calls bodies h p, filled_cost calls bodies h q)
  step_cost calls bodies h (repeat n from below p) = filled_cost calls bodies h p
  step_cost calls bodies h (call entry frame first count body) = h entry
  step_cost calls bodies h _ = tt

  test_cost : (calls : List CallCost) (bodies : ℕ → Program) → BodiesCost calls bodies → (t : Test) → TestCallsCost calls (test_filled bodies t)
  test_cost calls bodies h (holds p) = filled_cost calls bodies h p
  test_cost calls bodies h (compares c p) = filled_cost calls bodies h p
  test_cost calls bodies h (both t u) = (test_cost calls bodies h t, test_cost calls bodies h u)
  test_cost calls bodies h (either t u) = (test_cost calls bodies h t, test_cost calls bodies h u)
  test_cost calls bodies h (fails t) = test_cost calls bodies h t

  pub filled_cost : (calls : List CallCost) (bodies : ℕ → Program) → BodiesCost calls bodies → (p : Program) → CallsCost calls (filled bodies p)
  filled_cost calls bodies h nothing = tt
  filled_cost calls bodies h (step s p) = (step_cost calls bodies h s, filled_cost calls bodies h p)
