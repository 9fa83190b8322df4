-- The names that the proofs here share, from the rooms below and from this one's specs.
-- std
pub use Rattle.std.proofs.Common.{Bool, List, None, Option, Some, [], ap, append-nil, append_assoc, arith, eq-eqb, false, get_or, if◌then◌else◌, inl, inr}
pub use Rattle.std.proofs.Common.{length, length-append, map, ne_eqb, not, refl, slice_index_or, slice_set, subst, suc, sym, true, zero, ℕ, ⊎_elim, ◌%◌, ◌&&◌}
pub use Rattle.std.proofs.Common.{◌*◌, ◌++◌, ◌+◌, ◌-◌, ◌/◌, ◌<◌, ◌==◌, ◌∙◌, ◌∷◌, ◌≡◌, ◌≤◌, ◌⊎◌}
pub use Rattle.std.proofs.lemmas.Bool.{and_from, and_parts, cases_Bool, cases_eq, cases_lt, eqb-true, lt-ltb}
pub use Rattle.std.proofs.lemmas.List.{append_cancel_right, get_or-set_other, get_or_past, length-map, length-replicate, length-set}
pub use Rattle.std.proofs.lemmas.Option.{get_or_from_slice_get, slice_get-map, slice_get_cases, slice_get_within}
pub use Rattle.std.specs.List.{AllByRecursion, flat_map}
pub use Rattle.std.specs.Prelude.{Contains, IsSomeAnd, nat_lt, option_map, slice_get, slice_index}
-- the machine
pub use Rattle.memory_map.proofs.Interface.{IsPlaceOfScalar, apart_of, privates_few, scalar_home, scalar_place, words_scalar}
pub use Rattle.memory_map.specs.address_space.Limits.{program_end}
pub use Rattle.memory_map.specs.MemoryMap.{MemoryMap, TaskPlace, where_events, word_place}
pub use Rattle.memory_map.specs.event_places.Places.{answer_place, sent_place}
pub use Rattle.runtime_effects.specs.Needs.{IsEventWord}
pub use Rattle.memory_map.specs.Places.{HasItsPlace, end_of, home_region, scalar_words}
pub use Rattle.memory_map.specs.Spots.{Element, IsCopied, IsElement, IsScalarWord, IsSpot, IsWordOf, Places, Spot, address_of, copy, copy_address, copy_in}
pub use Rattle.memory_map.specs.Spots.{element_address, element_in, home_in, places_of, private_words, scalar, scalar_address, spot_address, version_address}
pub use Rattle.memory_map.specs.Spots.{version_in, words_at}
pub use Rattle.memory_map.specs.declared.place.PrivateScalar.{PrivateScalar}
pub use Rattle.memory_map.specs.declared.place.ScalarWidth.{ScalarWidth}
pub use Rattle.memory_map.specs.declared.place.VariablePlace.{VariablePlace}
pub use Rattle.memory_map.specs.declared.place.VariablePlace.TheVariants.{Array, Scalar}
pub use Rattle.memory_map.specs.declared.words.RuntimeWord.TheVariants.{Base, CurrentTask, EmitCount, Gate, ListLength, NextTask, SentBase, Version}
-- the board
pub use Rattle.fram_board.specs.Effects.{Effect, Looked, Offered, Outside, Store, Take}
pub use Rattle.machine_effects.proofs.Interface.{each_store-append, each_store-back, each_store-front, fram_after-append, put_at, put_other, put_same}
pub use Rattle.machine_effects.proofs.Interface.{looks_taken-append, readings_taken-append, world_after-append}
pub use Rattle.machine_effects.specs.Inputs.{Inputs, InputsAreWords, inputs_taken, no_inputs}
pub use Rattle.machine_effects.specs.World.{EachStore, World, fram_after, looks_taken, put, readings_taken, world_after, world_after_one}
pub use Rattle.runtime_effects.proofs.Interface.{entries_alike, scalar_pairs_count}
pub use Rattle.runtime_effects.specs.Places.{CopyPair, entries_from, listed, run_pairs, scalar_pairs}
pub use Rattle.crash_rules.proofs.Interface.{world_fram}
pub use Rattle.crash_rules.specs.Model.{AttemptContract, Comes, Decides, Ends, HoldsThroughout, IsElsewhere, Lacks, Model, ModelLaws}
pub use Rattle.crash_rules.specs.Model.{RunsShort, answers_at, answers_in, given_by, nothing_given, program_effects, words_stored}
pub use Rattle.stands_for.proofs.Interface.{each_weaker, keeps_the_laws, numbered_starts, put_either, put_words}
pub use Rattle.stands_for.specs.Program.{answer_word}
pub use Rattle.stands_for.specs.Layout.{ArePrivate, HaveRoom, IsAmong, IsCopyWord, IsSharedWord, ProgramPlaces, StateView}
pub use Rattle.stands_for.specs.StandsFor.{CopiesHome, DecidedFrom, EntriesHaveWords, SendsAndCloses, StartedAt, UndecidedAt, VersionsWithin}
-- sources
pub use Rattle.task_ast.specs.Paths.{CheckedChoice, CheckedExpression, CheckedStatement}
pub use Rattle.task_ast.specs.declared.Extent.{Extent}
pub use Rattle.task_ast.specs.declared.SharedDeclaration.{SharedDeclaration}
pub use Rattle.task_ast.specs.declared.WordType.{WordType}
pub use Rattle.task_ast.specs.declared.WordType.TheVariants.{Int, Long, Unsigned}
pub use Rattle.task_ast.specs.declared.names.Variable.{Variable}
pub use Rattle.task_ast.specs.declared.names.Variable.TheVariants.{Local, Shared}
pub use Rattle.lower.proofs.Interface.{is_private_of}
pub use Rattle.cost_bound.specs.Allowance.{CheckedTask, is_written, list_of, scalars_of}
pub use Rattle.cost_bound.specs.Counts.{CheckedBlock, emits_of, stores_of}
pub use Rattle.privatise.specs.Layouts.{AreVariables, IsPlaceOf}
pub use Rattle.source_values.proofs.Interface.{readings_left_over_lem}
pub use Rattle.source_values.specs.Runs.{CheckedProgram, Completion, EndsWell, State, TransitionComes, attempt_of, body_of, completion_of, fresh_attempt}
pub use Rattle.source_values.specs.Runs.{TaskInputs, initial_words, is_long_extent, task_body}
pub use Rattle.source_values.specs.Statements.{Attempt, Outcome, and_then, assigned, assigned_to, assigned_value, block_emits, goes_on, run_block, run_choice}
pub use Rattle.source_values.specs.Statements.{returns, run_statement, short, to_task, turns, with_value, word_of}
pub use Rattle.source_values.specs.Values.{Variables, by_width, converted, holds, type_of, with_word, word_at}
pub use Rattle.path_runs.specs.Laws.{IsScalarIn, IsScalarInChoice, IsScalarInStatement}
pub use Rattle.checked_trees.specs.WellFormed.{IsArrayName, IsLocal, IsOfType, WellFormedBlock, WellFormedChoice, WellFormedStatement}
-- word programs and their code
pub use Rattle.array_versions.proofs.Interface.{StoresWords, behaves_by_effects, stores_words, whole_ends_soundly}
pub use Rattle.array_versions.specs.Behaviour.{Broken, End, GoesOn, Jumps, WordState, behaviour, event_index, started}
pub use Rattle.lower.proofs.Interface.{redo_seen}
pub use Rattle.lower.specs.Agreement.{at_element, own_by}
pub use Rattle.lower.specs.Spots.{IsRedo, IsUndo}
pub use Rattle.memory_map.specs.declared.runtime.Logging.{Logging}
pub use Rattle.memory_map.specs.declared.runtime.Logging.TheVariants.{Redo, Undo}
pub use Rattle.lower.proofs.Interface.{SeenFrom, after_entry, array_read, array_seen, blocks_agree, entered_pairs, few_entries, pairs_of_runs, program_at}
pub use Rattle.lower.proofs.Interface.{row_length, runs_are_few, runs_have_words, runs_pairs, scalar_seen, seen_from, takes_append, tasks_are_admitted}
pub use Rattle.lower.proofs.Interface.{word_other, word_same}
pub use Rattle.lower.specs.Agreement.{AsDeclared, BlocksAgree, Bounds, EndsAs, HasCopies, IsTaskStore, Left, StandsFor, TakesAndStores, at_copy, at_emit_count}
pub use Rattle.lower.specs.Agreement.{at_list_length, at_variable, at_version, element_pair, entry_effects, in_buffer, in_list, own_word, place_length}
pub use Rattle.lower.specs.Agreement.{answered_by, answers_told, at_answer, freeze_effects, transition_effects}
pub use Rattle.lower.specs.Events.{AdmitsBlock}
pub use Rattle.lower.specs.Lowered.{lowered_block}
pub use Rattle.lower.specs.Runs.{runs_of}
pub use Rattle.lower.specs.Seen.{map_seen, some_path_writes}
pub use Rattle.lower.specs.Spots.{AreApart, AreEven, AreListed, HasRoom, Room, listed_of}
-- the runtime of compiled programs
pub use Rattle.boot_runtime.specs.Entries.{entry_of, task_entries}
pub use Rattle.boot_runtime.specs.Listing.{privates_in}
-- compiled sources
pub use Rattle.compiled_model.specs.Needs.{AttemptsStore, LeavesFor, StoresBelow}
pub use Rattle.compiled_model.specs.Parts.{effects_of, has_jumped, model_by, outcome_of, program_parts, redo_model, started_under, task_program, whole_task}
pub use Rattle.compiled_model.specs.Places.{is_private_in, program_places, stays_in_place}
pub use Rattle.compiled_model.specs.View.{are_rows, are_words, shared_word, state_view}
pub use Rattle.layout_facts.proofs.Interface.{addresses_are, among_back, among_either, among_front, among_scalars, contains_at, each_is_one_word}
pub use Rattle.layout_facts.proofs.Interface.{elements_are_stores, elements_stand, found_word, in_place_not_private, in_place_written, lists_have_room}
pub use Rattle.layout_facts.proofs.Interface.{places_are_apart}
pub use Rattle.layout_facts.proofs.Interface.{places_are_as_declared, places_are_declared, privates_are_theirs, rows_fit_places, scalar_declared, scalar_found}
pub use Rattle.layout_facts.proofs.Interface.{scalar_is, scalar_of_seen, scalars_among, shared_words_are_of_variables, task_places_are_apart}
pub use Rattle.layout_facts.proofs.Interface.{task_places_are_even, tasks_have_room, tasks_match, view_has_their_words, word_of_seen, word_pair}
pub use Rattle.layout_facts.proofs.Interface.{words_of_variables_are_shared, written_arrays_have_copies}
pub use Rattle.layout_facts.specs.Facts.{HasLayout, IsTaskAt, task_places, task_room}
-- this crate
pub use Rattle.task_attempts.specs.Laws.{AttemptsStoreBelowCode, CompiledSourcesKeepTheLaws, IsBelowCode, TasksKeepTheirContract, TasksLeaveForTheCommit}
