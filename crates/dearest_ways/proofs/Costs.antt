-- The ways of a program cost what its code costs at most.
use Rattle.std.proofs.Common.{◌≡◌, ℕ, suc, ◌+◌, ◌-◌, ◌++◌, ◌∷◌, [], List, Bool, true, false, not, nat_lt, if◌then◌else◌, Option, None, Some, refl, sym, ◌∙◌}
use Rattle.std.proofs.Common.{arith}
use Rattle.word_code.specs.declared.bounds.Bound.{Bound}
use Rattle.word_code.specs.declared.waiting.Waiting.{Waiting}
use Rattle.word_code.specs.array_versions.Program.{Step, Test, Program, number, load, keep, update, local, set_local, update_local, unary, binary, shift, long}
use Rattle.word_code.specs.array_versions.Program.{element, emit_word, list_entry, versioned_read, versioned_write, versioned_update, sense, next_event}
use Rattle.word_code.specs.array_versions.Program.{freeze_events, truth, choose, repeat, store_number, move_word, jump, holds, compares, both, either, fails}
use Rattle.word_code.specs.array_versions.Program.{logged_write, logged_update, call, give, nothing, step}
use Rattle.word_code.specs.array_versions.Form.{locals_of}
use Rattle.word_code.specs.Code.{owed, holds_code, compares_code, number_code, turn_end, pass_over, size, bound_of, stack_set, waiting_behind, waiting_after}
use Rattle.word_code.specs.Code.{test_code, block_code}
use Rattle.code_paths.specs.Paths.{capped, forward_most}
use Rattle.code_costs.specs.Dearest.{flush_most, leaf_most, turn_most, turns_most, step_most, test_most, steps_most, block_most, most_spent}
use Rattle.code_costs.specs.Dearest.{call_most}
use Rattle.code_ways.specs.Ways.{WaysValue, AreWaysOf, AreForksOf, straight_ways, choice_ways, ways_behind}
use Rattle.code_ways.specs.Ways.{WayValue, both_ways, dearer_of, some_way, way_behind, most_of}
use Rattle.code_ways.proofs.Interface.{behind_are, straight_are, choice_are, leaving_are, forked_are, both_are, turned_are, one_are, chosen_are, turns_are}
use Rattle.code_ways.proofs.Interface.{most_is}
use Rattle.dearest_ways.specs.Ways.{straight_cost, step_choices, test_choices, program_choices, step_ways, test_forks, ways_further, steps_ways, block_ways}
use Rattle.dearest_ways.specs.Ways.{dearest_way, body_cycles, ended}
use Rattle.dearest_ways.specs.declared.calls.CallCost.{CallCost}
use Rattle.dearest_ways.specs.Calls.{cost_at, StepCallsCost, TestCallsCost, CallsCost}

none_are : AreWaysOf (λ n. n) (straight_ways 0)
none_are = record { some = tt; cost = λ n. omega arith }

-- a step without choices
leaf_are : (bs : List Bound) (os : List Waiting) (s : Step) → AreWaysOf (λ n. leaf_most bs os s + n) (straight_cost (leaf_most bs os s))
leaf_are bs os s = straight_are (leaf_most bs os s)

ended_are : (bs : List Bound) (p : Program) (w : WaysValue) → AreWaysOf (steps_most bs [] p) w → AreWaysOf (block_most bs p) (ended p w)
ended_are bs p w a =
    behind_are (steps_most bs [] p) (λ n. flush_most (waiting_after [] p) + n) w (straight_cost (flush_most (waiting_after [] p))) a
    (straight_are (flush_most (waiting_after [] p)))

-- a call, by what the body of its function costs
called_are : (own body cost : ℕ) → cost ≡ capped body → AreWaysOf (λ n. own + body + n) (straight_cost (own + cost))
called_are own body cost e = record { some = tt; cost = λ n. omega (arith, e) }

mutual
  step_are : (calls : List CallCost) (bs : List Bound) (os : List Waiting) (k : ℕ) (s : Step) → StepCallsCost calls s
      → AreWaysOf (step_most bs os s) (step_ways calls bs os k s)
  step_are calls bs os k (truth t) c =
      let answers = chosen_are (test_most bs t false 2) (λ n. 5 + n) (λ n. 3 + n) (test_forks calls bs k t false 2) (straight_ways 5) (straight_ways 3)
      (test_are calls bs k t false 2 c) (straight_are 5) (straight_are 3) in
      behind_are (λ n. flush_most os + n) (λ n. test_most bs t false 2 (5 + n) (3 + n)) _ _ (straight_are (flush_most os)) answers
  step_are calls bs os k (choose t taken otherwise) c =
      let over = size (block_code bs otherwise) in
      let first = size (block_code bs taken ++ pass_over over) in
      let on = forward_most (pass_over over) 3 in
      let within = suc k + test_choices t in
      let later = within + program_choices taken in
      let passed = behind_are (block_most bs taken) (λ n. on + n) _ _
      (ended_are bs taken _ (further_are calls bs [] within (λ n. n) (straight_ways 0) taken c.1 none_are)) (straight_are on) in
      let held = behind_are (λ n. n) (λ n. block_most bs taken (on + n)) _ _ (choice_are k true) passed in
      let failed = behind_are (λ n. n) (block_most bs otherwise) _ _ (choice_are k false)
      (ended_are bs otherwise _ (further_are calls bs [] later (λ n. n) (straight_ways 0) otherwise c.2 none_are)) in
      let choice = chosen_are (test_most bs t false first) (λ n. block_most bs taken (on + n)) (block_most bs otherwise)
      (test_forks calls bs (suc k) t false first)
      (ways_behind (choice_ways k true) (ways_behind (block_ways calls bs within taken) (straight_cost on)))
      (ways_behind (choice_ways k false) (block_ways calls bs later otherwise)) (test_are calls bs (suc k) t false first c.0) held failed in
      behind_are (λ n. flush_most os + n) (λ n. test_most bs t false first (block_most bs taken (on + n)) (block_most bs otherwise n)) _ _
      (straight_are (flush_most os)) choice
  step_are calls bs os k (repeat n from below body) c =
      let inner = bound_of n below ∷ bs in
      let end = turn_most n below (size (block_code inner body ++ turn_end n below)) in
      let set = forward_most (number_code n from) 5 in
      let made : ℕ → ℕ = block_most inner body in
      let turn = behind_are made (λ x. end + x) _ _ (ended_are inner body _ (further_are calls inner [] k (λ n. n) (straight_ways 0) body c none_are))
      (straight_are end) in
      let turns = turns_are (λ m. turns_most m made end) (λ x. made (end + x)) (ways_behind (block_ways calls inner k body) (straight_cost end)) (λ x. refl)
      (λ m x. refl) turn (below - from) in
      let begun = behind_are (λ x. set + x) (turns_most (below - from) made end) _ _ (straight_are set) turns in
      behind_are (λ x. flush_most os + x) (λ x. set + turns_most (below - from) made end x) _ _ (straight_are (flush_most os)) begun
  step_are calls bs os k (jump to) c = behind_are (λ n. flush_most os + n) (λ n. 3) _ _ (straight_are (flush_most os)) (leaving_are 3)
  step_are calls bs os k (call entry frame first count body) c = called_are (call_most frame count os) (block_most [] body 0) (cost_at calls entry) c
  step_are calls bs os k give c = record { some = tt; cost = λ n. omega arith }
  step_are calls bs os k (number w) c = leaf_are bs os (number w)
  step_are calls bs os k (load a) c = leaf_are bs os (load a)
  step_are calls bs os k (keep a) c = leaf_are bs os (keep a)
  step_are calls bs os k (update op a) c = leaf_are bs os (update op a)
  step_are calls bs os k (local n) c = leaf_are bs os (local n)
  step_are calls bs os k (set_local n) c = leaf_are bs os (set_local n)
  step_are calls bs os k (update_local op n) c = leaf_are bs os (update_local op n)
  step_are calls bs os k (unary op) c = leaf_are bs os (unary op)
  step_are calls bs os k (binary op) c = leaf_are bs os (binary op)
  step_are calls bs os k (shift op n) c = leaf_are bs os (shift op n)
  step_are calls bs os k (long op) c = leaf_are bs os (long op)
  step_are calls bs os k (element base length) c = leaf_are bs os (element base length)
  step_are calls bs os k (emit_word count buffer) c = leaf_are bs os (emit_word count buffer)
  step_are calls bs os k (list_entry count list home copy words) c = leaf_are bs os (list_entry count list home copy words)
  step_are calls bs os k (versioned_read place list) c = leaf_are bs os (versioned_read place list)
  step_are calls bs os k (versioned_write place list) c = leaf_are bs os (versioned_write place list)
  step_are calls bs os k (versioned_update op place list) c = leaf_are bs os (versioned_update op place list)
  step_are calls bs os k (logged_write place list) c = leaf_are bs os (logged_write place list)
  step_are calls bs os k (logged_update op place list) c = leaf_are bs os (logged_update op place list)
  step_are calls bs os k sense c = leaf_are bs os sense
  step_are calls bs os k next_event c = leaf_are bs os next_event
  step_are calls bs os k freeze_events c = leaf_are bs os freeze_events
  step_are calls bs os k (store_number a w) c = leaf_are bs os (store_number a w)
  step_are calls bs os k (move_word from to) c = leaf_are bs os (move_word from to)

  test_are : (calls : List CallCost) (bs : List Bound) (k : ℕ) (t : Test) (when : Bool) (d : ℕ) → TestCallsCost calls t
      → AreForksOf (test_most bs t when d) (test_forks calls bs k t when d)
  test_are calls bs k (holds p) when d c =
      let os = waiting_after [] p in
      let asked = forward_most (holds_code os when d) (8 + owed os) in
      let made = behind_are (steps_most bs [] p) (λ n. asked + n) _ _ (further_are calls bs [] k (λ n. n) (straight_ways 0) p c none_are)
      (straight_are asked) in
      forked_are (λ n. steps_most bs [] p (asked + n)) (ways_behind (steps_ways calls bs [] k p) (straight_cost asked)) made
  test_are calls bs k (compares o p) when d c =
      let os = waiting_after [] p in
      let asked = forward_most (compares_code os o when d) (10 + owed os) in
      let made = behind_are (steps_most bs [] p) (λ n. asked + n) _ _ (further_are calls bs [] k (λ n. n) (straight_ways 0) p c none_are)
      (straight_are asked) in
      forked_are (λ n. steps_most bs [] p (asked + n)) (ways_behind (steps_ways calls bs [] k p) (straight_cost asked)) made
  test_are calls bs k (both t u) when d c =
      let over = size (test_code bs u when d) + (if not when then d else 0) in
      both_are (test_most bs t false over) (test_most bs u when d) (test_forks calls bs k t false over) (test_forks calls bs (k + test_choices t) u when d)
      (test_are calls bs k t false over c.0) (test_are calls bs (k + test_choices t) u when d c.1)
  test_are calls bs k (either t u) when d c =
      let over = size (test_code bs u when d) + (if when then d else 0) in
      one_are (test_most bs t true over) (test_most bs u when d) (test_forks calls bs k t true over) (test_forks calls bs (k + test_choices t) u when d)
      (test_are calls bs k t true over c.0) (test_are calls bs (k + test_choices t) u when d c.1)
  test_are calls bs k (fails t) when d c =
      turned_are (test_most bs t (not when) d) (test_forks calls bs k t (not when) d) (test_are calls bs k t (not when) d c)

  further_are : (calls : List CallCost) (bs : List Bound) (os : List Waiting) (k : ℕ) (f : ℕ → ℕ) (w : WaysValue) (p : Program) → CallsCost calls p
      → AreWaysOf f w
      → AreWaysOf (λ n. f (steps_most bs os p n)) (ways_further calls bs os k w p)
  further_are calls bs os k f w nothing c a = a
  further_are calls bs os k f w (step first more) c a =
      further_are calls bs (waiting_behind os first) (k + step_choices first) (λ n. f (step_most bs os first n))
      (ways_behind w (step_ways calls bs os k first)) more c.1
      (behind_are f (step_most bs os first) w (step_ways calls bs os k first) a (step_are calls bs os k first c.0))

block_are : (calls : List CallCost) (bs : List Bound) (k : ℕ) (p : Program) → CallsCost calls p
    → AreWaysOf (block_most bs p) (block_ways calls bs k p)
block_are calls bs k p c = ended_are bs p (steps_ways calls bs [] k p) (further_are calls bs [] k (λ n. n) (straight_ways 0) p c none_are)

-- a way behind another has no more cycles than are kept
low_by : (b : Bool) (v w : WayValue) → capped v.cycles ≡ v.cycles → capped w.cycles ≡ w.cycles
    → capped (if b then w else v).cycles ≡ (if b then w else v).cycles
low_by true v w e f = f
low_by false v w e f = e

twice : (n : ℕ) → capped (capped n) ≡ capped n
twice n = omega arith

way_low : (v : WayValue) (g l : Option WayValue) → let w = some_way (dearer_of (both_ways (Some v) g) (both_ways (Some v) l)) in capped w.cycles ≡ w.cycles
way_low v None None = omega arith
way_low v None (Some w) = twice (v.cycles + w.cycles)
way_low v (Some u) None = twice (v.cycles + u.cycles)
way_low v (Some u) (Some w) =
    low_by (nat_lt (capped (v.cycles + u.cycles)) (capped (v.cycles + w.cycles))) (way_behind v u) (way_behind v w) (twice (v.cycles + u.cycles))
    (twice (v.cycles + w.cycles))

-- the dearest way of a block, behind what costs so much
way_costs : (calls : List CallCost) (f : ℕ → ℕ) (set : ℕ) (p : Program) → CallsCost calls p → AreWaysOf f (straight_ways set)
    → (most_of (ways_behind (straight_ways set) (block_ways calls [] 0 p))).cycles ≡ capped (f (block_most [] p 0))
way_costs calls f set p c a =
    let block = block_ways calls [] 0 p in
    let costs = most_is (λ n. f (block_most [] p n)) (ways_behind (straight_ways set) block)
    (behind_are f (block_most [] p) (straight_ways set) block a (block_are calls [] 0 p c)) in
    sym (way_low (record { cycles = set; taken = [] }) block.goes block.leaves) ∙ sym costs

-- the dearest way of a program costs what its code costs at most
pub dearest_costs : (calls : List CallCost) (p : Program) → CallsCost calls p → (dearest_way calls p).cycles ≡ capped (most_spent p)
dearest_costs calls p c =
    let set = forward_most (stack_set (locals_of p)) 2 in
    way_costs calls (λ n. set + n) (capped set) p c (straight_are set)

-- and so does that of a function's body
pub body_costs : (calls : List CallCost) (p : Program) → CallsCost calls p → body_cycles calls p ≡ capped (block_most [] p 0)
body_costs calls p c = way_costs calls (λ n. n) 0 p c none_are
