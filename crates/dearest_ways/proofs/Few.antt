-- A program has no more choices than words.
use Rattle.std.proofs.Common.{◌≤◌, arith}
use Rattle.word_code.specs.array_versions.Program.{Step, Test, Program, number, load, keep, update, local, set_local, update_local, unary, binary, shift, long}
use Rattle.word_code.specs.array_versions.Program.{element, emit_word, list_entry, versioned_read, versioned_write, versioned_update, sense, next_event}
use Rattle.word_code.specs.array_versions.Program.{freeze_events, truth, choose, repeat, store_number, move_word, jump, holds, compares, both, either, fails}
use Rattle.word_code.specs.array_versions.Program.{logged_write, logged_update, call, give, nothing, step}
use Rattle.word_code.specs.array_versions.Cost.{step_words, test_words, words_of}
use Rattle.dearest_ways.specs.Ways.{step_choices, test_choices, program_choices}

mutual
  step_few : (s : Step) → step_choices s ≤ step_words s
  step_few (truth t) = let h = test_few t in omega (arith, h)
  step_few (choose t taken otherwise) =
      let h = test_few t in
      let first = program_few taken in
      let second = program_few otherwise in
      omega (arith, h, first, second)
  step_few (repeat n from below body) = let h = program_few body in omega (arith, h)
  step_few (jump to) = omega arith
  step_few (number w) = omega arith
  step_few (load a) = omega arith
  step_few (keep a) = omega arith
  step_few (update op a) = omega arith
  step_few (local n) = omega arith
  step_few (set_local n) = omega arith
  step_few (update_local op n) = omega arith
  step_few (unary op) = omega arith
  step_few (binary op) = omega arith
  step_few (shift op n) = omega arith
  step_few (long op) = omega arith
  step_few (element base length) = omega arith
  step_few (emit_word count buffer) = omega arith
  step_few (list_entry count list home copy words) = omega arith
  step_few (versioned_read place list) = omega arith
  step_few (versioned_write place list) = omega arith
  step_few (versioned_update op place list) = omega arith
  step_few (logged_write place list) = omega arith
  step_few (logged_update op place list) = omega arith
  step_few sense = omega arith
  step_few next_event = omega arith
  step_few freeze_events = omega arith
  step_few (store_number a w) = omega arith
  step_few (move_word from to) = omega arith
  step_few (call entry frame first count body) = omega arith
  step_few give = omega arith

  test_few : (t : Test) → test_choices t ≤ test_words t
  test_few (holds p) = let h = program_few p in omega (arith, h)
  test_few (compares c p) = let h = program_few p in omega (arith, h)
  test_few (both t u) = let h = test_few t in let k = test_few u in omega (arith, h, k)
  test_few (either t u) = let h = test_few t in let k = test_few u in omega (arith, h, k)
  test_few (fails t) = test_few t

  pub program_few : (p : Program) → program_choices p ≤ words_of p
  program_few nothing = omega arith
  program_few (step first more) = let h = step_few first in let k = program_few more in omega (arith, h, k)
