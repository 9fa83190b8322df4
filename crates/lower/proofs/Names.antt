-- The names that the proofs here share, from the rooms below and from this one's specs.
-- std
pub use Rattle.std.proofs.Common.{Bool, Contains, List, None, Option, Some, [], add-one, ap, append-nil, append_assoc, arith, bit_and, bit_or, bit_xor, drop}
pub use Rattle.std.proofs.Common.{drop-cons, false, if◌then◌else◌, inl, inr, le-leb, le-ltb, le_refl, length, length-append, lt-ltb, map, max, nat_le, nat_lt}
pub use Rattle.std.proofs.Common.{ne_eqb, not, refl, slice_set, subst, suc, sym, true, zero, ℕ, ⊎_elim, ◌%◌, ◌&&◌, ◌*◌, ◌++◌, ◌+◌, ◌-◌, ◌/◌, ◌<◌, ◌==◌, ◌∙◌}
pub use Rattle.std.proofs.Common.{◌∷◌, ◌≡◌, ◌≤◌, ◌⊎◌}
pub use Rattle.std.proofs.Math.Seq.{get_or-append_seam}
pub use Rattle.std.proofs.lemmas.Bool.{and_parts, cases_eq, cases_lt, eqb-true}
pub use Rattle.std.proofs.lemmas.Bool.Decides.{nat_tests}
pub use Rattle.std.proofs.lemmas.List.{drop_all, get_or-set_other, get_or-set_same, get_or_append_left, get_or_past, length-map, length-set, map-append}
pub use Rattle.std.proofs.lemmas.List.Elements.{All-append, All-contains, All-map, All-same, All-weaker, Contains-append_cases, Contains-append_left}
pub use Rattle.std.proofs.lemmas.List.Elements.{Contains-append_right, Contains-get_or}
pub use Rattle.std.proofs.lemmas.List.Quantifiers.{all_pairs_push}
pub use Rattle.std.proofs.lemmas.Nat.{le_or_l, le_or_r}
pub use Rattle.std.specs.Int.Bits.{xor_assoc, xor_self, xor_zero_r}
pub use Rattle.std.specs.List.{AllByRecursion, flat_map}
pub use Rattle.std.specs.Prelude.{option_map}
-- the machine and its memory
pub use Rattle.address_space.specs.Limits.{fram_first, program_end}
pub use Rattle.alp_words.specs.Words.{bit}
pub use Rattle.fram_board.specs.Effects.{Effect, Looked, Offered, Outside, Store, Take}
pub use Rattle.machine_effects.proofs.Interface.{fram_after-append, put_at, put_other, put_same}
pub use Rattle.machine_effects.specs.Inputs.{Inputs, Look, first_look, look_effects, other_looks}
pub use Rattle.memory_map.specs.event_places.Places.{answer_place, count_place, head_place, sent_place, slot_place, tail_place}
pub use Rattle.machine_effects.specs.World.{fram_after, put}
pub use Rattle.memory_map.proofs.Interface.{few_words, first_word, in_order_append, privates_few, some_words, word_even, words_scalar}
pub use Rattle.memory_map.specs.MemoryMap.{MemoryMap, TaskPlace, where_events, word_place}
pub use Rattle.memory_map.specs.Places.{AreInOrder, HasItsPlace, IsLaidOut, copy_regions, end_of, home_region, scalar_words, version_regions}
pub use Rattle.memory_map.specs.Spots.{Element, IsArrayAt, IsCopied, IsElement, IsScalarAt, IsScalarPlace, IsScalarWord, IsSpot, Places, Spot, address_of}
pub use Rattle.memory_map.specs.Spots.{copy, copy_address, copy_in, element, element_address, element_in, private_words, scalar, scalar_address, spot_address}
pub use Rattle.memory_map.specs.Spots.{version, version_address, version_in, words_at}
pub use Rattle.memory_map.specs.declared.place.ArrayCopies.{ArrayCopies}
pub use Rattle.memory_map.specs.Spots.{routine_among, routine_of, routine_places}
pub use Rattle.memory_map.specs.declared.place.PrivateScalar.{PrivateScalar}
pub use Rattle.memory_map.specs.declared.place.RoutinePlace.{RoutinePlace}
pub use Rattle.memory_map.specs.declared.place.Region.{Region}
pub use Rattle.memory_map.specs.declared.place.ScalarWidth.{ScalarWidth}
pub use Rattle.memory_map.specs.declared.place.VariablePlace.{VariablePlace}
pub use Rattle.memory_map.specs.declared.place.VariablePlace.TheVariants.{Array, Scalar}
pub use Rattle.memory_map.specs.declared.words.RuntimeWord.TheVariants.{Base, EmitCount, Gate, ListLength, NextTask, SentBase, Version}
pub use Rattle.runtime_effects.proofs.Interface.{entries_alike, entries_are_few, last_apart, run_behind, run_length, run_longer}
pub use Rattle.runtime_effects.specs.Places.{CopyPair, entries_from, run_pairs, scalar_pairs}
-- sources
pub use Rattle.checked_trees.proofs.Interface.{array_word, assignment_writes, first_writes, local_word, loop_writes, others_write, passed_writes}
pub use Rattle.checked_trees.proofs.Interface.{store_writes, taken_writes}
pub use Rattle.checked_trees.specs.WellFormed.{IsArrayName, IsLocal, IsOfType, IsWordName, WellFormedBlock, WellFormedChoice, WellFormedExpression}
pub use Rattle.checked_trees.specs.WellFormed.{WellFormedStatement, WellFormedValues, values_in}
pub use Rattle.cost_bound.specs.Allowance.{CheckedTask}
pub use Rattle.cost_bound.specs.Counts.{block_count, called_stores, values_count, choice_count, conditions_count, expression_count, is_shared, is_store_to}
pub use Rattle.cost_bound.specs.Counts.{statement_count}
pub use Rattle.cost_bound.specs.Summary.{Summary}
pub use Rattle.cost_bound.specs.Table.{block_price, blocks_price, conditions_price, cycles_column, expression_price, operator_price, statement_price}
pub use Rattle.cost_bound.specs.Table.{called_price, values_price, words_column}
pub use Rattle.path_runs.proofs.Interface.{runs_go_on_along_paths}
pub use Rattle.path_sums.specs.Access.{is_same}
unfoldable pub use Rattle.path_sums.specs.Access.{summary}
pub use Rattle.path_sums.specs.declared.access.AccessSummary.{AccessSummary}
pub use Rattle.path_sums.specs.Sums.{block_sum, choice_sum, statement_sum}
pub use Rattle.source_values.proofs.Interface.{EmitsUpTo, block_up_to, more_turns, scalar_word, statement_up_to, value_keeps}
pub use Rattle.source_values.specs.Statements.{Outcome, and_then, block_emits, choice_emits, if_value, returns, run_block, run_choice, run_statement}
pub use Rattle.source_values.specs.Statements.{conditions_emit, expression_emits, values_emits, short, statement_emits, to_task, with_value}
pub use Rattle.source_values.specs.Values.{Evaluated, Variables, binary_result, binary_value, converted, gives, holds, is_settled, long_binary_value}
pub use Rattle.source_values.specs.Values.{long_difference, long_shift_value, made_of, next_answer, next_reading, reading_of, scalar_value, shift_result}
pub use Rattle.source_values.specs.Values.{shift_value}
pub use Rattle.source_values.specs.Values.{shifted_value, truth_word, two_words, unary_result, unary_value, value_of, with_word, word_at, ◌>>?◌}
pub use Rattle.task_ast.proofs.Interface.{by_one_word, joined_word, width_least}
pub use Rattle.task_ast.specs.Paths.{CheckedBlock, CheckedChoice, CheckedExpression, CheckedFunction, CheckedStatement, CheckedValues}
pub use Rattle.task_ast.specs.Types.{IsOneWord, binary_type, is_long, literal_type, unary_type}
pub use Rattle.task_ast.specs.View.{block_view, statement_of}
pub use Rattle.task_ast.specs.declared.BinaryOperator.{BinaryOperator}
pub use Rattle.task_ast.specs.declared.PlacedOperator.{PlacedOperator}
pub use Rattle.task_ast.specs.declared.SharedDeclaration.{SharedDeclaration}
pub use Rattle.task_ast.specs.declared.ShiftOperator.{ShiftOperator}
pub use Rattle.task_ast.specs.declared.Literal.{Literal}
pub use Rattle.task_ast.specs.declared.ShortCircuitOperator.{ShortCircuitOperator}
pub use Rattle.task_ast.specs.declared.ShortCircuitOperator.TheVariants.{And as BothHold, Or as OneHolds}
pub use Rattle.task_ast.specs.declared.Stmt.{Stmt}
pub use Rattle.task_ast.specs.declared.UnaryOperator.{UnaryOperator}
pub use Rattle.task_ast.specs.declared.WordType.{WordType}
pub use Rattle.task_ast.specs.declared.WordType.TheVariants.{Int, Long, Unsigned}
pub use Rattle.task_ast.specs.declared.names.FunctionName.{FunctionName}
pub use Rattle.task_ast.specs.declared.names.TaskName.{TaskName}
pub use Rattle.task_ast.specs.declared.names.Variable.{Variable}
pub use Rattle.task_ast.specs.declared.names.Variable.TheVariants.{Local, Shared}
pub use Rattle.task_ast.specs.declared.names.VariableName.{VariableName}
pub use Rattle.task_check.specs.Occurrences.{is_refused}
-- word programs
pub use Rattle.array_versions.proofs.Interface.{behaves_by_effects, decided_by_truth, joined_assoc, joined_cycles, joined_go_on, joined_nothing, joined_spend}
pub use Rattle.array_versions.proofs.Interface.{steps_keep_to_words, then_on_assoc, ways_keep_to_cycles}
pub use Rattle.array_versions.specs.Behaviour.{Behaviour, Broken, End, GoesOn, Gives, Jumps, Short, Strays, WordState, at_place, behaves, behaviour}
pub use Rattle.array_versions.specs.Behaviour.{behind_effects}
pub use Rattle.array_versions.specs.Behaviour.{event_index, event_pushed, events_frozen, none_answered, with_looks, word_answered}
pub use Rattle.array_versions.specs.Behaviour.{broken, ends_before, entry_stored, first_stored, goes_on as going_on, is_place, jumped, listed_behind}
pub use Rattle.array_versions.specs.Behaviour.{local_pushed, local_updated, number_pushed, on_end, own_kept, own_place, own_stored, own_updated, pushed}
pub use Rattle.array_versions.specs.Behaviour.{raised, reading_pushed, step_behaviour, stored, strays, tested, then_on, turns, versioned_stored}
pub use Rattle.array_versions.specs.Behaviour.{versioned_updated, way_by_top, way_by_two, with_local, with_readings, with_stack, with_top, word_emitted}
pub use Rattle.array_versions.specs.Behaviour.{behind_call, called, called_behind, parameter_words, with_words, word_listed, word_stored}
pub use Rattle.array_versions.specs.Cost.{binary_cycles, cycles_of, entry_words, spent, spent_by_top, spent_by_two, spent_on, step_cycles, step_spent}
pub use Rattle.array_versions.specs.Cost.{step_words, test_cycles, test_spent, test_words, top_spent, turns_spent, words_of}
pub use Rattle.array_versions.specs.Laws.{EndsByEffects}
pub use Rattle.array_versions.specs.Operations.{all_bits, binary_word, compare_words, is_true, plain_long, plain_word, shift_word, shifted_word, stacked}
pub use Rattle.array_versions.specs.Operations.{unary_word}
pub use Rattle.array_versions.specs.Program.{Program, Step, Test, behind, binary, choose, compares, emit_word, fails, holds as holds_test, joined, jump, keep}
pub use Rattle.array_versions.specs.Program.{freeze_events, list_entry, load, local, long, move_word, next_event, nothing, number, repeat}
pub use Rattle.array_versions.specs.Program.{call, give, sense, shift, step, store_number, truth}
pub use Rattle.array_versions.specs.TaskPrograms.{TaskPrograms, no_programs}
pub use Rattle.variable_places.specs.Places.{local_number}
pub use Rattle.array_versions.specs.Program.{unary, versioned_update, versioned_write}
pub use Rattle.array_versions.specs.View.{step_of, steps_of}
pub use Rattle.array_versions.specs.declared.operations.BinaryOperation.{BinaryOperation}
pub use Rattle.array_versions.specs.declared.operations.BinaryOperation.TheVariants.{Plain}
pub use Rattle.array_versions.specs.declared.operations.Comparison.TheVariants.{CommonBit}
pub use Rattle.array_versions.specs.declared.operations.PlainOperation.{PlainOperation}
pub use Rattle.array_versions.specs.declared.operations.PlainOperation.TheVariants.{And, Or, Subtract, Xor}
pub use Rattle.array_versions.specs.declared.operations.UnaryOperation.TheVariants.{Complement, Negate}
pub use Rattle.array_versions.specs.declared.program.ArrayPlace.{ArrayPlace}
pub use Rattle.array_versions.specs.declared.program.ListPlace.{ListPlace}
pub use Rattle.array_versions.specs.declared.program.WordStep.{WordStep}
pub use Rattle.array_versions.specs.Behaviour.{own_logged, logged_stored, logged_updated}
pub use Rattle.array_versions.specs.Behaviour.{first_logged as logged_before}
pub use Rattle.array_versions.specs.Program.{logged_update, logged_write}
pub use Rattle.array_versions.specs.declared.program.LoggedPlace.{LoggedPlace}
-- undo
pub use Rattle.memory_map.specs.declared.runtime.Logging.{Logging}
pub use Rattle.memory_map.specs.declared.runtime.Logging.TheVariants.{Redo, Undo}
pub use Rattle.undo_effects.specs.Stages.{element_stored, first_logged, word_logged}
-- this room
pub use Rattle.lower.specs.Agreement.{AreFunctions, DidWithin, ExpressionWritesWithin, Functions, Returned, block_writes, code_places, expression_lists}
pub use Rattle.lower.specs.Agreement.{functions_of, locals_from, no_functions, own_by, seen_from}
pub use Rattle.lower.specs.Lowered.{arguments, body_at, call_at, call_count, call_step, has_call, logged_place, own_read, routine_body, own_update, own_write}
pub use Rattle.lower.specs.Lowered.{stored_array}
pub use Rattle.lower.specs.Stores.{Act, AreActs, AreMadeByActs, Did, IsAct, IsPlainStore, act_effects, acts_effects, alone, at_element, to_answer}
pub use Rattle.lower.specs.Stores.{to_buffer, to_element, to_emit_count, to_variable}
pub use Rattle.lower.specs.Spots.{HasRoomBehind, IsRedo, IsUndo}
pub use Rattle.lower.specs.Agreement.{Agrees, AgreesWith, Answering, AsDeclared, BlocksAgree, EndsAs, EndsWith, ExpressionsAgree, HasCopies, HoldEmits}
pub use Rattle.lower.specs.Agreement.{HoldList}
pub use Rattle.lower.specs.Agreement.{IsAnswerStore, IsFit, answered_by, answers_told, at_answer, by_answers, freeze_effects, made_by}
pub use Rattle.lower.specs.Agreement.{HoldVariables, IsArray, IsTaskStore, IsWrittenArray, Left, LongsAgree, Scene, StandsFor, TakesAndStores}
pub use Rattle.lower.specs.Agreement.{TestsAgree, WentOn, at_copy, at_emit_count, at_list_length, at_variable, at_version, bounds, converted_to, element_pair}
pub use Rattle.lower.specs.Agreement.{entry_effects, in_buffer, in_list, own_word, ValuesAgree, transition_effects, truth_of}
pub use Rattle.lower.specs.Events.{AdmitsBlock, AdmitsChoice, AdmitsExpression, AdmitsStatement, AdmitsValues}
pub use Rattle.lower.specs.Lowered.{freezing, Lowering, answer, are_alike, array_place, as_bits, as_long, as_test, as_word, assignment, binary_lowering}
pub use Rattle.lower.specs.Lowered.{element_assignment, element_read, element_setting, element_sides_set, element_step, element_updating, emission, entries}
pub use Rattle.lower.specs.Lowered.{high_address, index_and_value, is_name, is_number, list_place, long_binary_lowering, long_program, long_setting}
pub use Rattle.lower.specs.Lowered.{long_words, long_zero, loop_local, lowered_block, lowered_choice, lowered_expression, lowered_long, lowered_statement}
pub use Rattle.lower.specs.Lowered.{lowered_task, lowered_tasks, lowered_test, lowered_transition, lowering, name_lowering, of_words, one, operand_lowering}
pub use Rattle.lower.specs.Lowered.{read_long, read_step, scalar_assignment, setting, shift_lowering, sides_lowering, sides_set, sides_test, store_step}
pub use Rattle.lower.specs.Lowered.{unary_lowering, update_element_step, update_step, updating, value_test, widened_type, widening, word_program, write_long}
pub use Rattle.lower.specs.Lowered.{doubling, shift_set, write_step, written_array}
pub use Rattle.lower.specs.Operations.{binary_meaning, long_meaning, long_shift, operand_type, plain_operation, shift_operation}
pub use Rattle.lower.specs.Runs.{is_followed_by, longer, run_at, runs_from, runs_of}
pub use Rattle.lower.specs.Seen.{place_seen, places_seen, task_seen}
pub use Rattle.std.proofs.lemmas.List.Elements.{All-cons, All-head, All-nil, All-tail}
pub use Rattle.std.proofs.Common.{◌||◌, eq-eqb}
pub use Rattle.lower.specs.Sizes.{BlocksKeepToCycles, BlocksKeepToWords, BodiesKeep, RoutinesKeep, entry_cycles}
pub use Rattle.lower.specs.Spots.{AreApart, AreDifferent, AreEven, AreListed, Room, listed_of}
pub use Rattle.lower.specs.declared.operations.BinaryMeaning.{BinaryMeaning}
pub use Rattle.lower.specs.declared.operations.BinaryMeaning.TheVariants.{Calculates, CommonBits, Fails, Holds}
pub use Rattle.lower.specs.declared.operations.LongMeaning.{LongMeaning}
pub use Rattle.lower.specs.declared.operations.LongQuestion.{LongQuestion}
pub use Rattle.lower.specs.declared.runs.Run.{Run}
