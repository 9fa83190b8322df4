-- What is called costs so much, by where its code begins.
use Rattle.std.specs.Prelude.{◌≡◌, ℕ, ◌==◌, if◌then◌else◌, List, [], ◌∷◌}
use Rattle.word_code.specs.array_versions.Program.{Step, Test, Program, truth, choose, repeat, call, holds, compares, both, either, fails, nothing, step}
use Rattle.code_paths.specs.Paths.{capped}
use Rattle.code_costs.specs.Dearest.{block_most}
use Rattle.dearest_ways.specs.declared.calls.CallCost.{CallCost}

-- by the first of them that begins there; nothing where there is none
abbrev pub cost_at : List CallCost → ℕ → ℕ
cost_at [] entry = 0
cost_at (c ∷ more) entry = if c.entry == entry then c.cycles else cost_at more entry

abbrev mutual
  -- each call of a step costs what the body of its function does at most
  pub StepCallsCost : List CallCost → Step → Type 0
  StepCallsCost calls (truth t) = TestCallsCost calls t
  StepCallsCost calls (choose t taken otherwise) = TestCallsCost calls t × CallsCost calls taken × CallsCost calls otherwise
  StepCallsCost calls (repeat n from below body) = CallsCost calls body
  StepCallsCost calls (call entry frame first count body) = cost_at calls entry ≡ capped (block_most [] body 0)
  StepCallsCost calls _ = Unit {0}

  -- the same of a test
  pub TestCallsCost : List CallCost → Test → Type 0
  TestCallsCost calls (holds p) = CallsCost calls p
  TestCallsCost calls (compares c p) = CallsCost calls p
  TestCallsCost calls (both t u) = TestCallsCost calls t × TestCallsCost calls u
  TestCallsCost calls (either t u) = TestCallsCost calls t × TestCallsCost calls u
  TestCallsCost calls (fails t) = TestCallsCost calls t

  -- the same of each step of a program
  pub CallsCost : List CallCost → Program → Type 0
  CallsCost calls nothing = Unit {0}
  CallsCost calls (step first more) = StepCallsCost calls first × CallsCost calls more
