-- What the proofs of other crates cite.

-- Values in registers, and jumps.
pub use Rattle.word_code.proofs.Registers.{bytes_even}
pub use Rattle.word_code.proofs.Jumps.{whole_size}
-- The code of a program, and of its parts, is no longer than its words say, and is made of forms of tasks' code: their jumps reach no further
-- than ten bits say.
pub use Rattle.word_code.proofs.Lengths.{code_short, routine_short, inner_takes, pass_takes, test_takes, turn_end_takes}
pub use Rattle.word_code.proofs.UpdateBytes.{inside_bytes, reads_bytes}
-- The code of a word program does what the program does, within the cycles of the way that it takes.
pub use Rattle.word_code.proofs.Whole.{code_does_as_program, code_keeps_to_the_stack, keeps_anywhere}
-- The locals that a program names are below a number where the greatest of them is.
pub use Rattle.word_code.proofs.Locals.{program_below, program_least}
-- The code of a program has each fact that all forms of tasks' code have: they are instructions, and name no word of RAM below the stack.
pub use Rattle.word_code.proofs.CodeTakes.{each-append}
pub use Rattle.word_code.proofs.TaskForms.{code_are, routine_are, code_has, routine_has, code_is_of_task_forms, code_names_ram_from, each_weaker}
-- What the code of each step follows, for what it costs: states and the machine, stretches of code, words that wait, tests and where they go on, and loops.
pub use Rattle.word_code.proofs.Stretches.{Setting, bounds_of, runs_on, nothing_run, so_runs, dearer, dearer_stall}
pub use Rattle.word_code.proofs.Memory.{AreWords, Owns, Keeps, Memory, assigned_same}
pub use Rattle.word_code.proofs.Follows.{StandsFor, HasReturned, FollowsEnd, OnGoesOn, Pays, Reaches, reach_more, then_reach}
pub use Rattle.word_code.proofs.Registers.{Has, Holds, jump_to}
pub use Rattle.word_code.proofs.Operands.{owed_by, owed, owed_kept, load_owed, Describes, dressed, flush_part, top_to_four_part}
pub use Rattle.word_code.proofs.Sides.{Aiming, compare_sides_part, compare_stays, reading_cycles, side_owed}
pub use Rattle.word_code.proofs.Results.{gathered}
pub use Rattle.word_code.proofs.Jumps.{near_is, back_distance, stands_low, Decided, back_part, pass_part}
pub use Rattle.word_code.proofs.Choices.{Fork, fork_at, fork_turned, fork_both, fork_either, Forked, forked_behind, decision_part, zero_test, holds_part}
pub use Rattle.word_code.proofs.Choices.{compares_part}
pub use Rattle.word_code.proofs.Parts.{local_number, jump_part}
pub use Rattle.word_code.proofs.Loops.{raise_part}
pub use Rattle.word_code.proofs.LoopBounds.{Bounded, Spared, spared_so, bounded_with, bounded_on, step_bounded}
pub use Rattle.word_code.proofs.Locals.{at_base, uncalled, uncalled_owns, HasStack, stack_part}
pub use Rattle.word_code.proofs.Whole.{Ready, ready_on, ready_with, ready_popped, turn_ready, Known, known_first, known_second, KnownStep, KnownTest}
pub use Rattle.word_code.proofs.Whole.{KnownProgram, one_pushed, zero_pushed, step_follows, begun}
pub use Rattle.word_code.proofs.Whole.{call_room, call_ready}
-- Calls and returns.
pub use Rattle.word_code.proofs.Calls.{Popped, popped, callee, light_reaches, give_part}
pub use Rattle.word_code.proofs.Frames.{framed_reaches}
-- A product by a number that waits.
pub use Rattle.word_code.proofs.Results.{StepDoes, product_part}
-- The code of a program, of its parts and what waits behind it doesn't look at the bodies of what it calls.
pub use Rattle.word_code.proofs.FilledCode.{waiting_filled, after_filled, test_code_filled, block_filled, code_filled, routine_filled}
