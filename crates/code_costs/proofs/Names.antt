-- The names that the proofs here share, from the rooms below and from this one's specs.
pub use Rattle.std.proofs.Common.{◌≡◌, ℕ, zero, suc, ◌+◌, ◌-◌, ◌*◌, ◌%◌, ◌<◌, ◌≤◌, ◌==◌, max, not, nat_le, nat_lt, Bool, true, false, if◌then◌else◌, List, []}
pub use Rattle.std.proofs.Common.{◌∷◌, ◌++◌, length, Option, Some, None, refl, sym, ap, ◌∙◌, subst, arith, append-nil, eq-eqb, eqb-true, ne_eqb, ◌≢◌, ◌/◌, ◌^◌}
pub use Rattle.std.proofs.lemmas.Bool.Decides.{nat_tests}
pub use Rattle.word_code.proofs.code_forms.Interface.{stands_front, stands_back, forms_bytes-append, form_small}
pub use Rattle.word_code.proofs.array_versions.Interface.{Matches, GoesWell, matches_local, start_matches, step_well, well, whole_ends_soundly, local_words}
pub use Rattle.word_code.proofs.array_versions.Interface.{step_words as words_step, words, Leaves, leaves}
pub use Rattle.word_code.proofs.Interface.{Setting, runs_on, nothing_run, so_runs, dearer, dearer_stall, AreWords, Memory, assigned_same, StandsFor}
pub use Rattle.word_code.proofs.Interface.{FollowsEnd, OnGoesOn, Pays, Reaches, reach_more, then_reach, Has, Holds, jump_to, owed_by, owed, owed_kept}
pub use Rattle.word_code.proofs.Interface.{load_owed, Describes}
pub use Rattle.word_code.proofs.Interface.{dressed, flush_part, top_to_four_part, Aiming, compare_sides_part, compare_stays, reading_cycles, side_owed}
pub use Rattle.word_code.proofs.Interface.{gathered, StepDoes, product_part}
pub use Rattle.word_code.proofs.Interface.{near_is, back_distance, stands_low, Decided, back_part, pass_part, whole_size, Fork, fork_at, fork_turned, fork_both}
pub use Rattle.word_code.proofs.Interface.{fork_either, Forked, forked_behind, decision_part, zero_test, holds_part, compares_part, local_number, jump_part}
pub use Rattle.word_code.proofs.Interface.{raise_part, Bounded, Spared, spared_so, bounded_with, bounded_on, step_bounded, HasStack, stack_part, Ready}
pub use Rattle.word_code.proofs.Interface.{ready_on}
pub use Rattle.word_code.proofs.Interface.{ready_with, ready_popped, turn_ready, Known, known_first, known_second, KnownStep, KnownTest, KnownProgram}
pub use Rattle.word_code.proofs.Interface.{one_pushed}
pub use Rattle.word_code.proofs.Interface.{zero_pushed, step_follows, begun, Owns, bounds_of, at_base, uncalled, uncalled_owns, HasReturned}
pub use Rattle.word_code.proofs.Interface.{popped, callee, light_reaches, framed_reaches, give_part, call_room, call_ready}
pub use Rattle.word_code.specs.array_versions.fram_board.Effects.{Effect}
pub use Rattle.word_code.specs.code_forms.Forms.{IsInStack, Core, Form, Jump, Skip, Branch, form_bytes, instruction_of, R4, IsKept}
pub use Rattle.word_code.specs.code_forms.Code.{Stands, forms_bytes, IsTidy, rules_of, RunsWithin as Runs, StarvesWithin as Starves}
pub use Rattle.word_code.specs.code_forms.Placed.{placed, instructions}
pub use Rattle.word_code.specs.array_versions.Program.{Step, Test, Program, number, truth, choose, repeat, jump, holds, compares, both, either, fails}
pub use Rattle.word_code.specs.array_versions.Program.{nothing, step, call, give, unary, binary, long}
pub use Rattle.word_code.specs.array_versions.declared.operations.UnaryOperation.{UnaryOperation}
pub use Rattle.word_code.specs.array_versions.declared.operations.UnaryOperation.TheVariants.{Negate, Complement}
pub use Rattle.word_code.specs.array_versions.declared.operations.BinaryOperation.{BinaryOperation}
pub use Rattle.word_code.specs.array_versions.declared.operations.BinaryOperation.TheVariants.{Multiply, Divide, Remainder, Plain}
pub use Rattle.word_code.specs.array_versions.declared.operations.LongOperation.{LongOperation}
pub use Rattle.word_code.specs.array_versions.Behaviour.{WordState, End, GoesOn, Jumps, Gives, Short, Strays, Broken, Behaviour, behind_effects, on_end}
pub use Rattle.word_code.specs.array_versions.Behaviour.{started}
pub use Rattle.word_code.specs.array_versions.Behaviour.{turns, called, called_behind}
pub use Rattle.word_code.specs.array_versions.Behaviour.{step_behaviour, behaviour, then_on, tested, with_stack, with_local, with_top, with_two, way_by_top}
pub use Rattle.word_code.specs.array_versions.Behaviour.{way_by_two, number_pushed, behaves, broken}
pub use Rattle.word_code.specs.array_versions.Form.{Place, start, assigning, Moves, EachTurn, EachStepWay, EachTestWay, EachWay, StepSpares, TestSpares, Spares}
pub use Rattle.word_code.specs.array_versions.Form.{IsWhole, OfWords, EachLocal, IsFormed, locals_of}
pub use Rattle.word_code.specs.array_versions.Cost.{step_cycles, step_spent, unary_cycles, binary_cycles, long_cycles}
pub use Rattle.word_code.specs.array_versions.Operations.{is_true, compare_words}
pub use Rattle.word_code.specs.array_versions.Laws.{IsStateOfWords, EndsInWords, IsSound}
pub use Rattle.word_code.specs.array_versions.declared.operations.Comparison.{Comparison}
pub use Rattle.word_code.specs.declared.bounds.Bound.{Bound}
pub use Rattle.word_code.specs.declared.waiting.Waiting.{Waiting}
pub use Rattle.word_code.specs.Code.{power, flushed, top_of, below_top, kept, top_to_four, compare_form, is_turned, compare_sides, compare_source, holding}
pub use Rattle.word_code.specs.Code.{failing}
pub use Rattle.word_code.specs.Code.{decision, holds_code, compares_code, truth_code, number_code, turn_end, turns_code, jump_back, pass_over, size, bound_of}
pub use Rattle.word_code.specs.Code.{routine_code, light_call, framed_call, give_code}
pub use Rattle.word_code.specs.Code.{stack_base, stack_set, waiting_behind, waiting_after, step_code, test_code, steps_code, block_code, code_of}
pub use Rattle.word_code.specs.array_versions.machine_effects.address_space.Limits.{stack_top}
pub use Rattle.word_code.specs.Laws.{IsEntry, HasJumped, ComesToWithin as ComesTo, StepRoutinesStand, RoutinesStand}
pub use Rattle.word_code.specs.array_versions.machine_effects.Machine.{Code}
pub use Rattle.code_paths.specs.Paths.{forward_most}
pub use Rattle.code_paths.proofs.Interface.{runs_so, starves_so, stands_alone, tidy_alone}
pub use Rattle.code_costs.specs.Dearest.{bits_in, by_number_most, any_most, flush_most, leaf_most, back_cycles, turn_most, turns_most, step_most, test_most}
pub use Rattle.code_costs.specs.Dearest.{steps_most, call_most, give_most}
pub use Rattle.code_costs.specs.Dearest.{block_most, most_spent}
