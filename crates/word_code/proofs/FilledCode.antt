-- The code of a program doesn't look at the bodies of what it calls.
use Rattle.word_code.proofs.Names.{◌≡◌, ℕ, ◌+◌, ◌∷◌, List, [], ◌++◌, refl, ap, ap₂, ◌∙◌, Bool, true, false, not, nat_lt, if◌then◌else◌, flushed, Step, Test}
use Rattle.word_code.proofs.Names.{Program, truth, choose, repeat, call, holds, compares, both, either, fails, nothing, step, size, Bound, Waiting, pass_over}
use Rattle.word_code.proofs.Names.{truth_code, number_code, turns_code, holds_code, compares_code, bound_of, waiting_behind, waiting_after, step_code}
use Rattle.word_code.proofs.Names.{test_code}
use Rattle.word_code.proofs.Names.{steps_code, block_code, stack_set, code_of, routine_code}
use Rattle.array_versions.specs.Program.{step_filled, test_filled, filled}
use Rattle.array_versions.proofs.Interface.{filled_locals}

-- what waits behind it
pub waiting_filled : (b : ℕ → Program) (os : List Waiting) (s : Step) → waiting_behind os (step_filled b s) ≡ waiting_behind os s
waiting_filled b os (truth t) = refl
waiting_filled b os (choose t p q) = refl
waiting_filled b os (repeat n from below p) = refl
waiting_filled b os (call entry frame first count body) = refl
waiting_filled b os _ = refl

pub after_filled : (b : ℕ → Program) (os : List Waiting) (p : Program) → waiting_after os (filled b p) ≡ waiting_after os p
after_filled b os nothing = refl
after_filled b os (step s p) = ap (λ ws. waiting_after ws (filled b p)) (waiting_filled b os s) ∙ after_filled b (waiting_behind os s) p

block_by : (b : ℕ → Program) (bs : List Bound) (p : Program) → steps_code bs [] (filled b p) ≡ steps_code bs [] p
    → block_code bs (filled b p) ≡ block_code bs p
block_by b bs p e = ap₂ (λ ms os. ms ++ flushed os) e (after_filled b [] p)

mutual
  step_code_filled : (b : ℕ → Program) (bs : List Bound) (os : List Waiting) (s : Step) → step_code bs os (step_filled b s) ≡ step_code bs os s
  step_code_filled b bs os (truth t) = ap (λ ms. flushed os ++ (ms ++ truth_code)) (test_code_filled b bs t false 2)
  step_code_filled b bs os (choose t p q) =
      let other = block_code bs q in
      let first = block_code bs p ++ pass_over (size other) in
      ap₂ (λ a o. let ms = a ++ pass_over (size o) in flushed os ++ (test_code bs (test_filled b t) false (size ms) ++ (ms ++ o)))
      (block_by b bs p (steps_code_filled b bs [] p))
      (block_by b bs q (steps_code_filled b bs [] q)) ∙ ap (λ ms. flushed os ++ (ms ++ (first ++ other))) (test_code_filled b bs t false (size first))
  step_code_filled b bs os (repeat n from below p) =
      ap (λ ms. flushed os ++ (number_code n from ++ (if nat_lt from below then turns_code n below ms else [])))
      (block_by b (bound_of n below ∷ bs) p (steps_code_filled b (bound_of n below ∷ bs) [] p))
  step_code_filled b bs os (call entry frame first count body) = refl
  step_code_filled b bs os _ = refl

  pub test_code_filled : (b : ℕ → Program) (bs : List Bound) (t : Test) (when : Bool) (d : ℕ) → test_code bs (test_filled b t) when d ≡ test_code bs t when d
  test_code_filled b bs (holds p) when d = ap₂ (λ ms os. ms ++ holds_code os when d) (steps_code_filled b bs [] p) (after_filled b [] p)
  test_code_filled b bs (compares c p) when d = ap₂ (λ ms os. ms ++ compares_code os c when d) (steps_code_filled b bs [] p) (after_filled b [] p)
  test_code_filled b bs (both t u) when d =
      let second = test_code bs u when d in
      let more : ℕ = if not when then d else 0 in
      ap (λ ms. test_code bs (test_filled b t) false (size ms + more) ++ ms) (test_code_filled b bs u when d)
      ∙ ap (λ ms. ms ++ second) (test_code_filled b bs t false (size second + more))
  test_code_filled b bs (either t u) when d =
      let second = test_code bs u when d in
      let more : ℕ = if when then d else 0 in
      ap (λ ms. test_code bs (test_filled b t) true (size ms + more) ++ ms) (test_code_filled b bs u when d)
      ∙ ap (λ ms. ms ++ second) (test_code_filled b bs t true (size second + more))
  test_code_filled b bs (fails t) when d = test_code_filled b bs t (not when) d

  steps_code_filled : (b : ℕ → Program) (bs : List Bound) (os : List Waiting) (p : Program) → steps_code bs os (filled b p) ≡ steps_code bs os p
  steps_code_filled b bs os nothing = refl
  steps_code_filled b bs os (step s p) =
      ap₂ (λ x y. x ++ y) (step_code_filled b bs os s)
      (ap (λ ws. steps_code bs ws (filled b p)) (waiting_filled b os s) ∙ steps_code_filled b bs (waiting_behind os s) p)

pub block_filled : (b : ℕ → Program) (bs : List Bound) (p : Program) → block_code bs (filled b p) ≡ block_code bs p
block_filled b bs p = block_by b bs p (steps_code_filled b bs [] p)

pub code_filled : (b : ℕ → Program) (p : Program) → code_of (filled b p) ≡ code_of p
code_filled b p = ap₂ (λ n ms. stack_set n ++ ms) (filled_locals b p) (block_filled b [] p)

pub routine_filled : (b : ℕ → Program) (p : Program) → routine_code (filled b p) ≡ routine_code p
routine_filled b p = block_filled b [] p
