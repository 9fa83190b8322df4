-- How many readings a word program takes at most.
use Rattle.std.proofs.Common.{◌≡◌, ℕ, ◌+◌, ◌-◌, ◌*◌, max, arith}
use Rattle.array_versions.specs.Program.{Step, Test, Program}
use Rattle.array_versions.specs.Program.{sense, truth}
use Rattle.array_versions.specs.Program.{choose, repeat, call, holds, compares, both, either, fails, nothing, step, joined, behind}

abbrev mutual
  pub step_senses : Step → ℕ
  step_senses sense = 1
  step_senses (truth t) = test_senses t
  step_senses (choose t taken otherwise) = test_senses t + max (senses taken) (senses otherwise)
  step_senses (repeat n from below body) = (below - from) * senses body
  step_senses (call entry frame first count body) = senses body
  step_senses _ = 0

  pub test_senses : Test → ℕ
  test_senses (holds p) = senses p
  test_senses (compares op p) = senses p
  test_senses (both t u) = test_senses t + test_senses u
  test_senses (either t u) = test_senses t + test_senses u
  test_senses (fails t) = test_senses t

  pub senses : Program → ℕ
  senses nothing = 0
  senses (step first more) = step_senses first + senses more

pub senses_joined : (q r : Program) → senses (joined q r) ≡ senses q + senses r
senses_joined nothing r = omega arith
senses_joined (step s q) r = let rest = senses_joined q r in omega (arith, rest)

pub senses_behind : (q : Program) (s : Step) → senses (behind q s) ≡ senses q + step_senses s
senses_behind q s = let all = senses_joined q (step s nothing) in omega (arith, all)
