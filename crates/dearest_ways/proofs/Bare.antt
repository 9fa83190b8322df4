-- The ways of a program don't look at the bodies of what it calls.
use Rattle.std.proofs.Common.{◌≡◌, ℕ, suc, ◌+◌, ◌-◌, ◌++◌, ◌∷◌, [], List, Bool, true, false, not, if◌then◌else◌, refl, sym, ap, ap₂, ◌∙◌, subst}
use Rattle.word_code.specs.declared.bounds.Bound.{Bound}
use Rattle.word_code.specs.declared.waiting.Waiting.{Waiting}
use Rattle.word_code.specs.array_versions.Program.{Step, Test, Program, truth, choose, repeat, call, holds, compares, both, either, fails}
use Rattle.word_code.specs.array_versions.Program.{nothing, step, step_filled, test_filled, filled}
use Rattle.word_code.specs.Code.{owed, holds_code, compares_code, number_code, turn_end, pass_over, size, bound_of, stack_set, waiting_behind, waiting_after}
use Rattle.word_code.specs.Code.{test_code, block_code}
use Rattle.array_versions.proofs.Interface.{filled_locals}
use Rattle.code_paths.specs.Paths.{forward_most}
use Rattle.code_costs.specs.Dearest.{flush_most, turn_most}
use Rattle.code_ways.specs.Choices.{counts_from}
use Rattle.code_ways.specs.Ways.{WayValue, WaysValue, ForksValue, straight_ways, choice_ways, ways_behind, all_turns, forked_ways, both_forks, one_of_forks}
use Rattle.code_ways.specs.Ways.{turned_forks, chosen_ways, most_of}
use Rattle.dearest_ways.specs.declared.calls.CallCost.{CallCost}
use Rattle.dearest_ways.specs.declared.program.DearestWay.{DearestWay}
use Rattle.dearest_ways.specs.Ways.{step_choices, test_choices, program_choices, straight_cost, ended, step_ways, test_forks, ways_further, block_ways}
use Rattle.dearest_ways.specs.Ways.{bare, body_cycles, dearest_way, IsDearestWay}
use Rattle.word_code.proofs.Interface.{waiting_filled, after_filled, test_code_filled, block_filled}

-- ---- how many choices there are

mutual
  step_choices_filled : (b : ℕ → Program) (s : Step) → step_choices (step_filled b s) ≡ step_choices s
  step_choices_filled b (truth t) = test_choices_filled b t
  step_choices_filled b (choose t p q) =
      ap₂ (λ n m. suc (n + m)) (test_choices_filled b t) (ap₂ (λ n m. n + m) (choices_filled b p) (choices_filled b q))
  step_choices_filled b (repeat n from below p) = choices_filled b p
  step_choices_filled b (call entry frame first count body) = refl
  step_choices_filled b _ = refl

  test_choices_filled : (b : ℕ → Program) (t : Test) → test_choices (test_filled b t) ≡ test_choices t
  test_choices_filled b (holds p) = choices_filled b p
  test_choices_filled b (compares c p) = choices_filled b p
  test_choices_filled b (both t u) = ap₂ (λ n m. n + m) (test_choices_filled b t) (test_choices_filled b u)
  test_choices_filled b (either t u) = ap₂ (λ n m. n + m) (test_choices_filled b t) (test_choices_filled b u)
  test_choices_filled b (fails t) = test_choices_filled b t

  choices_filled : (b : ℕ → Program) (p : Program) → program_choices (filled b p) ≡ program_choices p
  choices_filled b nothing = refl
  choices_filled b (step s p) = ap₂ (λ n m. n + m) (step_choices_filled b s) (choices_filled b p)

-- ---- the ways

ended_filled : (b : ℕ → Program) (p : Program) (v w : WaysValue) → v ≡ w → ended (filled b p) v ≡ ended p w
ended_filled b p v w e = ap₂ (λ os ways. ways_behind ways (straight_cost (flush_most os))) (after_filled b [] p) e

-- a choice of this number where these words wait, by the ways of its test and of its two blocks
abbrev chosen : List Waiting → ℕ → ForksValue → WaysValue → WaysValue → WaysValue
chosen os k test held failed =
    ways_behind (straight_cost (flush_most os))
    (chosen_ways test (ways_behind (choice_ways k true) held) (ways_behind (choice_ways k false) failed))

mutual
  step_ways_filled : (b : ℕ → Program) (calls : List CallCost) (bs : List Bound) (os : List Waiting) (k : ℕ) (s : Step)
      → step_ways calls bs os k (step_filled b s) ≡ step_ways calls bs os k s
  step_ways_filled b calls bs os k (truth t) =
      ap (λ test. ways_behind (straight_cost (flush_most os)) (chosen_ways test (straight_ways 5) (straight_ways 3))) (forks_filled b calls bs k t false 2)
  step_ways_filled b calls bs os k (choose t p q) =
      let over = ap size (block_filled b bs q) in
      let passed = ap₂ (λ ms n. size (ms ++ pass_over n)) (block_filled b bs p) over in
      let within = ap (λ n. suc k + n) (test_choices_filled b t) in
      let later = ap₂ (λ n m. n + m) within (choices_filled b p) in
      let far = size (block_code bs (filled b p) ++ pass_over (size (block_code bs (filled b q)))) in
      let asked = test_forks calls bs (suc k) (test_filled b t) false far in
      let test = forks_filled b calls bs (suc k) t false far ∙ ap (test_forks calls bs (suc k) t false) passed in
      let first = suc k + test_choices t in
      let second = first + program_choices p in
      let on = straight_cost (forward_most (pass_over (size (block_code bs q))) 3) in
      let taken = ended_filled b p _ _ (further_filled b calls bs [] (suc k + test_choices (test_filled b t)) (straight_ways 0) p
      ∙ ap (λ n. ways_further calls bs [] n (straight_ways 0) p) within) in
      let held = ap₂ (λ ways n. ways_behind ways (straight_cost (forward_most (pass_over n) 3))) taken over in
      let failed = ended_filled b q _ _ (further_filled b calls bs []
      (suc k + test_choices (test_filled b t) + program_choices (filled b p)) (straight_ways 0) q
      ∙ ap (λ n. ways_further calls bs [] n (straight_ways 0) q) later) in
      ap₂ (chosen os k asked) held failed
      ∙ ap (λ forks. chosen os k forks (ways_behind (ended p (ways_further calls bs [] first (straight_ways 0) p)) on)
      (ended q (ways_further calls bs [] second (straight_ways 0) q))) test
  step_ways_filled b calls bs os k (repeat n from below p) =
      let inner = bound_of n below ∷ bs in
      let set = forward_most (number_code n from) 5 in
      let end = ap (λ ms. turn_most n below (size (ms ++ turn_end n below))) (block_filled b inner p) in
      let body = ended_filled b p _ _ (further_filled b calls inner [] k (straight_ways 0) p) in
      ap₂ (λ ways cycles. ways_behind (straight_cost (flush_most os)) (ways_behind (straight_cost set)
      (all_turns (below - from) (ways_behind ways (straight_cost cycles))))) body end
  step_ways_filled b calls bs os k (call entry frame first count body) = refl
  step_ways_filled b calls bs os k _ = refl

  forks_filled : (b : ℕ → Program) (calls : List CallCost) (bs : List Bound) (k : ℕ) (t : Test) (when : Bool) (d : ℕ)
      → test_forks calls bs k (test_filled b t) when d ≡ test_forks calls bs k t when d
  forks_filled b calls bs k (holds p) when d =
      ap₂ (λ ways os. forked_ways (ways_behind ways (straight_cost (forward_most (holds_code os when d) (8 + owed os)))))
      (further_filled b calls bs [] k (straight_ways 0) p) (after_filled b [] p)
  forks_filled b calls bs k (compares c p) when d =
      ap₂ (λ ways os. forked_ways (ways_behind ways (straight_cost (forward_most (compares_code os c when d) (10 + owed os)))))
      (further_filled b calls bs [] k (straight_ways 0) p) (after_filled b [] p)
  forks_filled b calls bs k (both t u) when d =
      let over = ap (λ ms. size ms + (if not when then d else 0)) (test_code_filled b bs u when d) in
      ap₂ both_forks (forks_filled b calls bs k t false _ ∙ ap (test_forks calls bs k t false) over)
      (forks_filled b calls bs _ u when d ∙ ap (λ n. test_forks calls bs (k + n) u when d) (test_choices_filled b t))
  forks_filled b calls bs k (either t u) when d =
      let over = ap (λ ms. size ms + (if when then d else 0)) (test_code_filled b bs u when d) in
      ap₂ one_of_forks (forks_filled b calls bs k t true _ ∙ ap (test_forks calls bs k t true) over)
      (forks_filled b calls bs _ u when d ∙ ap (λ n. test_forks calls bs (k + n) u when d) (test_choices_filled b t))
  forks_filled b calls bs k (fails t) when d = ap turned_forks (forks_filled b calls bs k t (not when) d)

  further_filled : (b : ℕ → Program) (calls : List CallCost) (bs : List Bound) (os : List Waiting) (k : ℕ) (w : WaysValue) (p : Program)
      → ways_further calls bs os k w (filled b p) ≡ ways_further calls bs os k w p
  further_filled b calls bs os k w nothing = refl
  further_filled b calls bs os k w (step s p) =
      further_filled b calls bs _ _ _ p
      ∙ ap₂ (λ words n. ways_further calls bs words (k + n) (ways_behind w (step_ways calls bs os k (step_filled b s))) p) (waiting_filled b os s)
      (step_choices_filled b s)
      ∙ ap (λ ways. ways_further calls bs (waiting_behind os s) (k + step_choices s) (ways_behind w ways) p) (step_ways_filled b calls bs os k s)

block_ways_filled : (b : ℕ → Program) (calls : List CallCost) (p : Program) → block_ways calls [] 0 (filled b p) ≡ block_ways calls [] 0 p
block_ways_filled b calls p = ended_filled b p _ _ (further_filled b calls [] [] 0 (straight_ways 0) p)

-- ---- the dearest of them

bare_dearest : (calls : List CallCost) (p : Program) → dearest_way calls (bare p) ≡ dearest_way calls p
bare_dearest calls p =
    ap₂ (λ n ways. most_of (ways_behind (straight_cost (forward_most (stack_set n) 2)) ways)) (filled_locals (λ entry. nothing) p)
    (block_ways_filled (λ entry. nothing) calls p)

-- that of a body
pub bare_cycles : (calls : List CallCost) (p : Program) → body_cycles calls (bare p) ≡ body_cycles calls p
bare_cycles calls p = ap (λ ways. (most_of (ways_behind (straight_ways 0) ways)).cycles) (block_ways_filled (λ entry. nothing) calls p)

-- what is the dearest way of a bare program is that of a program with bodies in its calls
pub with_bodies : (w : DearestWay) (calls : List CallCost) (p : Program) → IsDearestWay w calls (bare p) → IsDearestWay w calls p
with_bodies w calls p is =
    let same = bare_dearest calls p in
    let count = choices_filled (λ entry. nothing) p in
    record {
      cycles = is.cycles ∙ ap (λ way. way.cycles) same;
      held = is.held ∙ ap₂ (λ n way. counts_from true 0 n way.taken) count same;
      failed = is.failed ∙ ap₂ (λ n way. counts_from false 0 n way.taken) count same;
    }
