-- The dearest ways through the code of a word program, and the choices that they take. Choices are numbered from 0 on, in the order in which a program has
-- them: a choice before those of its test, then those of what is done where it holds, then those of what is done where it fails.
use Rattle.std.specs.Prelude.{◌≡◌, ℕ, suc, ◌+◌, ◌-◌, Bool, true, false, not, if◌then◌else◌, List, [], ◌∷◌, ◌++◌}
use Rattle.word_code.specs.declared.bounds.Bound.{Bound}
use Rattle.word_code.specs.declared.waiting.Waiting.{Waiting}
use Rattle.word_code.specs.array_versions.Program.{Step, Test, Program, truth, choose, repeat, jump, call, give, holds, compares, both, either, fails}
use Rattle.word_code.specs.array_versions.Program.{nothing, step, filled}
use Rattle.word_code.specs.array_versions.Form.{locals_of}
use Rattle.word_code.specs.Code.{owed, holds_code, compares_code, number_code, turn_end, pass_over, size, bound_of, stack_set, waiting_behind}
use Rattle.word_code.specs.Code.{waiting_after, test_code, block_code}
use Rattle.code_paths.specs.Paths.{capped, forward_most}
use Rattle.code_costs.specs.Dearest.{flush_most, leaf_most, turn_most, call_most, give_most}
use Rattle.code_ways.specs.Choices.{counts_from}
use Rattle.code_ways.specs.Ways.{WayValue, WaysValue, ForksValue, straight_ways, choice_ways, leaving_ways, ways_behind, all_turns, forked_ways, both_forks}
use Rattle.code_ways.specs.Ways.{one_of_forks, turned_forks, chosen_ways, most_of}
use Rattle.dearest_ways.specs.declared.calls.CallCost.{CallCost}
use Rattle.dearest_ways.specs.declared.program.DearestWay.{DearestWay}
use Rattle.dearest_ways.specs.Calls.{cost_at}

-- a program without the bodies of what it calls
abbrev pub bare : Program → Program
bare p = filled (λ entry. nothing) p

-- how many choices there are; those of what is called aren't counted
abbrev mutual
  pub step_choices : Step → ℕ
  step_choices (truth t) = test_choices t
  step_choices (choose t taken otherwise) = suc (test_choices t + (program_choices taken + program_choices otherwise))
  step_choices (repeat n from below body) = program_choices body
  step_choices s = 0

  pub test_choices : Test → ℕ
  test_choices (holds p) = program_choices p
  test_choices (compares c p) = program_choices p
  test_choices (both t u) = test_choices t + test_choices u
  test_choices (either t u) = test_choices t + test_choices u
  test_choices (fails t) = test_choices t

  pub program_choices : Program → ℕ
  program_choices nothing = 0
  program_choices (step first more) = step_choices first + program_choices more

-- code without a choice that costs so much
abbrev pub straight_cost : ℕ → WaysValue
straight_cost cycles = straight_ways (capped cycles)

-- with the pushes of the words that wait behind a block
abbrev pub ended : Program → WaysValue → WaysValue
ended p w = ways_behind w (straight_cost (flush_most (waiting_after [] p)))

abbrev mutual
  -- the ways of a step's code, where calls cost so much, in the bodies of loops with these bounds, where these words wait; its first choice has this number
  pub step_ways : List CallCost → List Bound → List Waiting → ℕ → Step → WaysValue
  step_ways calls bs os k (truth t) =
      ways_behind (straight_cost (flush_most os)) (chosen_ways (test_forks calls bs k t false 2) (straight_ways 5) (straight_ways 3))
  step_ways calls bs os k (choose t taken otherwise) =
      let over = size (block_code bs otherwise) in
      let first = size (block_code bs taken ++ pass_over over) in
      let within = suc k + test_choices t in
      let held = ways_behind (ended taken (ways_further calls bs [] within (straight_ways 0) taken)) (straight_cost (forward_most (pass_over over) 3)) in
      let failed = ended otherwise (ways_further calls bs [] (within + program_choices taken) (straight_ways 0) otherwise) in
      ways_behind (straight_cost (flush_most os))
      (chosen_ways (test_forks calls bs (suc k) t false first) (ways_behind (choice_ways k true) held) (ways_behind (choice_ways k false) failed))
  step_ways calls bs os k (repeat n from below body) =
      let inner = bound_of n below ∷ bs in
      let end = turn_most n below (size (block_code inner body ++ turn_end n below)) in
      let turn = ways_behind (ended body (ways_further calls inner [] k (straight_ways 0) body)) (straight_cost end) in
      ways_behind (straight_cost (flush_most os)) (ways_behind (straight_cost (forward_most (number_code n from) 5)) (all_turns (below - from) turn))
  step_ways calls bs os k (jump to) = ways_behind (straight_cost (flush_most os)) (leaving_ways 3)
  step_ways calls bs os k (call entry frame first count body) = straight_cost (call_most frame count os + cost_at calls entry)
  step_ways calls bs os k give = leaving_ways (capped (give_most os))
  step_ways calls bs os k s = straight_cost (leaf_most bs os s)

  -- those of a test's code that goes over so many words where its truth is this one
  pub test_forks : List CallCost → List Bound → ℕ → Test → Bool → ℕ → ForksValue
  test_forks calls bs k (holds p) when d =
      let os = waiting_after [] p in
      forked_ways (ways_behind (ways_further calls bs [] k (straight_ways 0) p) (straight_cost (forward_most (holds_code os when d) (8 + owed os))))
  test_forks calls bs k (compares c p) when d =
      let os = waiting_after [] p in
      forked_ways (ways_behind (ways_further calls bs [] k (straight_ways 0) p) (straight_cost (forward_most (compares_code os c when d) (10 + owed os))))
  test_forks calls bs k (both t u) when d =
      both_forks (test_forks calls bs k t false (size (test_code bs u when d) + (if not when then d else 0)))
      (test_forks calls bs (k + test_choices t) u when d)
  test_forks calls bs k (either t u) when d =
      one_of_forks (test_forks calls bs k t true (size (test_code bs u when d) + (if when then d else 0)))
      (test_forks calls bs (k + test_choices t) u when d)
  test_forks calls bs k (fails t) when d = turned_forks (test_forks calls bs k t (not when) d)

  -- those of steps, one after another, behind these
  pub ways_further : List CallCost → List Bound → List Waiting → ℕ → WaysValue → Program → WaysValue
  ways_further calls bs os k w nothing = w
  ways_further calls bs os k w (step first more) =
      ways_further calls bs (waiting_behind os first) (k + step_choices first) (ways_behind w (step_ways calls bs os k first)) more

-- those of steps alone
abbrev pub steps_ways : List CallCost → List Bound → List Waiting → ℕ → Program → WaysValue
steps_ways calls bs os k p = ways_further calls bs os k (straight_ways 0) p

-- with no word waiting in front of them or behind them
abbrev pub block_ways : List CallCost → List Bound → ℕ → Program → WaysValue
block_ways calls bs k p = ended p (steps_ways calls bs [] k p)

-- the cycles of the dearest way through the body of a function
abbrev pub body_cycles : List CallCost → Program → ℕ
body_cycles calls p = (most_of (ways_behind (straight_ways 0) (block_ways calls [] 0 p))).cycles

-- the dearest way through the code of a program, by whether it takes events
abbrev pub dearest_way : List CallCost → Program → WayValue
dearest_way calls p = most_of (ways_behind (straight_cost (forward_most (stack_set (locals_of p)) 2)) (block_ways calls [] 0 p))

-- the cycles of the dearest way, and how often it takes each choice of the program, by whether its test holds
pub record IsDearestWay (w : DearestWay) (calls : List CallCost) (p : Program) : Type 0 where
  pub cycles : w.cycles ≡ (dearest_way calls p).cycles
  pub held : w.held.items ≡ counts_from true 0 (program_choices p) (dearest_way calls p).taken
  pub failed : w.failed.items ≡ counts_from false 0 (program_choices p) (dearest_way calls p).taken
