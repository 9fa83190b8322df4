-- What the code of a word program costs at most, whatever the words are that decide its ways: its dearest way. What follows costs so much; behind a jump
-- nothing does, and behind a return what is behind its call.
use Rattle.std.specs.Prelude.{ℕ, zero, suc, ◌+◌, ◌-◌, ◌*◌, ◌/◌, ◌==◌, max, Bool, true, false, not, nat_le, if◌then◌else◌, List, [], ◌∷◌, ◌++◌}
use Rattle.std.specs.Prelude.{Option, Some, None}
use Rattle.word_code.specs.declared.bounds.Bound.{Bound}
use Rattle.word_code.specs.declared.waiting.Waiting.{Waiting}
use Rattle.word_code.specs.declared.waiting.Waiting.TheVariants as waiting
use Rattle.word_code.specs.array_versions.Program.{Step, Test, Program, binary, truth, choose, repeat, jump, call, give, holds, compares, both, either, fails}
use Rattle.word_code.specs.array_versions.Program.{nothing, step}
use Rattle.word_code.specs.array_versions.Cost.{call_cycles}
use Rattle.word_code.specs.array_versions.Form.{locals_of}
use Rattle.word_code.specs.array_versions.declared.operations.BinaryOperation.TheVariants.{Multiply}
use Rattle.word_code.specs.Code.{owed, power, flushed, holds_code, compares_code, number_code, turn_end, pass_over, size, bound_of, stack_set, waiting_behind}
use Rattle.word_code.specs.Code.{waiting_after}
use Rattle.word_code.specs.Code.{step_code, test_code, block_code}
use Rattle.code_paths.specs.Paths.{forward_most}

-- the pushes of the words that wait, by their code
abbrev pub flush_most : List Waiting → ℕ
flush_most os = forward_most (flushed os) (owed os)

-- how many bits a number has, of so many at most
abbrev pub bits_in : ℕ → ℕ → ℕ
bits_in zero n = 0
bits_in (suc m) n = if n == 0 then 0 else suc (bits_in m (n / 2))

-- a product by the word that waits on top: by a number a turn for each of its bits, and one for 0; a power of two has no turns
abbrev pub by_number_most : Option ℕ → ℕ → ℕ
by_number_most None n = 8 + suc (bits_in 15 (n / 2)) * 9
by_number_most (Some k) n = 152

abbrev pub product_most : List Waiting → ℕ
product_most (waiting.Number n ∷ os) = by_number_most (power n) n
product_most os = 152

-- a step that is no test, no choice, no loop, no jump, no call and no return, whatever its code is: products and quotients, which go by the bits of a word,
-- have the most
abbrev pub any_most : List Waiting → Step → ℕ
any_most os (binary Multiply) = product_most os
any_most os _ = 202

-- and by its code
abbrev pub leaf_most : List Bound → List Waiting → Step → ℕ
leaf_most bs os s = forward_most (step_code bs os s) (any_most os s + owed os)

-- what goes back over so many words: a jump of one word, or further
abbrev pub back_cycles : ℕ → ℕ
back_cycles d = if nat_le d 511 then 2 else 5

-- the end of a turn of so many words, and what goes back
abbrev pub turn_most : ℕ → ℕ → ℕ → ℕ
turn_most n below words = forward_most (turn_end n below) 10 + back_cycles words

-- so many turns, by what one costs with what follows it
abbrev pub turns_most : ℕ → (ℕ → ℕ) → ℕ → ℕ → ℕ
turns_most zero body end next = next
turns_most (suc m) body end next = body (end + turns_most m body end next)

-- a call, beside the body of what it calls
abbrev pub call_most : Option ℕ → ℕ → List Waiting → ℕ
call_most frame count os = call_cycles frame count + owed os

-- a return
abbrev pub give_most : List Waiting → ℕ
give_most os = 5 + owed os

abbrev mutual
  -- the code of a step in the bodies of loops with these bounds, where these words wait
  pub step_most : List Bound → List Waiting → Step → ℕ → ℕ
  step_most bs os (truth t) next = flush_most os + test_most bs t false 2 (5 + next) (3 + next)
  step_most bs os (choose t taken otherwise) next =
      let other = block_code bs otherwise in
      let first = block_code bs taken ++ pass_over (size other) in
      let held = steps_most bs [] taken (flush_most (waiting_after [] taken) + (forward_most (pass_over (size other)) 3 + next)) in
      let failed = steps_most bs [] otherwise (flush_most (waiting_after [] otherwise) + next) in
      flush_most os + test_most bs t false (size first) held failed
  step_most bs os (repeat n from below body) next =
      let inner = bound_of n below ∷ bs in
      let end = turn_most n below (size (block_code inner body ++ turn_end n below)) in
      let made : ℕ → ℕ = λ more. steps_most inner [] body (flush_most (waiting_after [] body) + more) in
      flush_most os + (forward_most (number_code n from) 5 + turns_most (below - from) made end next)
  step_most bs os (jump to) next = flush_most os + 3
  step_most bs os (call entry frame first count body) next =
      call_most frame count os + steps_most [] [] body (flush_most (waiting_after [] body) + 0) + next
  step_most bs os give next = give_most os
  step_most bs os s next = leaf_most bs os s + next

  -- the code of a test that goes over so many words where its truth is this one, by what follows where it holds and where it fails
  pub test_most : List Bound → Test → Bool → ℕ → ℕ → ℕ → ℕ
  test_most bs (holds p) when d held failed =
      let os = waiting_after [] p in steps_most bs [] p (forward_most (holds_code os when d) (8 + owed os) + max held failed)
  test_most bs (compares c p) when d held failed =
      let os = waiting_after [] p in steps_most bs [] p (forward_most (compares_code os c when d) (10 + owed os) + max held failed)
  test_most bs (both t u) when d held failed =
      test_most bs t false (size (test_code bs u when d) + (if not when then d else 0)) (test_most bs u when d held failed) failed
  test_most bs (either t u) when d held failed =
      test_most bs t true (size (test_code bs u when d) + (if when then d else 0)) held (test_most bs u when d held failed)
  test_most bs (fails t) when d held failed = test_most bs t (not when) d failed held

  -- the code of steps, one after another
  pub steps_most : List Bound → List Waiting → Program → ℕ → ℕ
  steps_most bs os nothing next = next
  steps_most bs os (step first more) next = step_most bs os first (steps_most bs (waiting_behind os first) more next)

-- with no word waiting in front of them or behind them
abbrev pub block_most : List Bound → Program → ℕ → ℕ
block_most bs p next = steps_most bs [] p (flush_most (waiting_after [] p) + next)

-- the code of a program
abbrev pub most_spent : Program → ℕ
most_spent p = forward_most (stack_set (locals_of p)) 2 + block_most [] p 0
