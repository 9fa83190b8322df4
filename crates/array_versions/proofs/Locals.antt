-- What is asked of each local that a program names.
use Rattle.std.proofs.Common.{ℕ}
use Rattle.array_versions.specs.Program.{Step, Test, Program, number, local, set_local, update_local, truth, choose, repeat, holds, compares, both, either}
use Rattle.array_versions.specs.Program.{fails, nothing, step}
use Rattle.array_versions.specs.Form.{StepEachLocal, TestEachLocal, EachLocal}

module _ (P Q : ℕ → Type 0) (weaker : (n : ℕ) → P n → Q n) where
  mutual
    step_local_as : (first : Step) → StepEachLocal P first → StepEachLocal Q first
    step_local_as (local n) h = weaker n h
    step_local_as (set_local n) h = weaker n h
    step_local_as (update_local op n) h = weaker n h
    step_local_as (truth t) h = test_local_as t h
    step_local_as (choose t taken otherwise) h = (test_local_as t h.0, each_local_as taken h.1, each_local_as otherwise h.2)
    step_local_as (repeat n from below body) h = (weaker n h.0, each_local_as body h.1)
    -- no other step names one: the first clause makes it a proof by cases
    step_local_as (number w) h = tt
    step_local_as _ h = tt

    test_local_as : (t : Test) → TestEachLocal P t → TestEachLocal Q t
    test_local_as (holds p) h = each_local_as p h
    test_local_as (compares op p) h = each_local_as p h
    test_local_as (both t u) h = (test_local_as t h.0, test_local_as u h.1)
    test_local_as (either t u) h = (test_local_as t h.0, test_local_as u h.1)
    test_local_as (fails t) h = test_local_as t h

    -- what is asked of each, so that something weaker holds
    pub each_local_as : (p : Program) → EachLocal P p → EachLocal Q p
    each_local_as nothing h = tt
    each_local_as (step first more) h = (step_local_as first h.0, each_local_as more h.1)
