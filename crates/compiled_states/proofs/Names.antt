-- The names that the proofs here share, from the rooms below and from this one's specs.
-- std
pub use Rattle.std.proofs.Common.{All, Bool, Err, List, None, Option, Some, [], ap, append-nil, ap₂, arith, cond, drop, false, get_or, if◌then◌else◌, inl, inr}
pub use Rattle.std.proofs.Common.{length, length-append, map, not, refl, replicate, subst, suc, sym, take, true, zero, ℕ, ⊎_elim, ◌%◌, ◌&&◌, ◌*◌, ◌++◌, ◌+◌}
pub use Rattle.std.proofs.Common.{◌-◌, ◌/◌, ◌<◌, ◌==◌, ◌||◌, ◌∙◌, ◌∷◌, ◌≡◌, ◌≤◌, ◌⊎◌}
pub use Rattle.std.proofs.lemmas.Bool.{and_from, and_parts, and_right, cases_lt, cond-true, cond_both, eq-eqb, eqb-true, false≢true, le-leb, le-ltb, leb-true}
pub use Rattle.std.proofs.lemmas.Bool.{lt-ltb, ltb-true, ne_eqb, or_cases, or_from, or_left, or_parts, or_right}
pub use Rattle.std.proofs.lemmas.List.{length-map, length-replicate}
pub use Rattle.std.specs.List.{list_all, position_from}
pub use Rattle.std.specs.Prelude.{IfSome, nat_le, nat_lt, slice_get, slice_index, unwrap_or}
-- the machine
pub use Rattle.memory_map.proofs.Interface.{apart_of, even_of, in_order_end, parts_in_fram, words_stand}
pub use Rattle.memory_map.specs.Laws.{AreApart, PartsInFram, WordStands}
pub use Rattle.memory_map.specs.MemoryMap.{MemoryMap, TaskPlace, word_place}
pub use Rattle.memory_map.specs.Places.{AreInOrder, end_of, home_region, scalar_words}
pub use Rattle.memory_map.specs.declared.place.VariablePlace.{VariablePlace}
pub use Rattle.memory_map.specs.declared.place.VariablePlace.TheVariants.{Array, Scalar}
pub use Rattle.memory_map.specs.declared.words.RuntimeWord.{RuntimeWord}
pub use Rattle.memory_map.specs.declared.words.RuntimeWord.TheVariants.{Base, CurrentTask, EmitCount, Gate, ListLength, NextTask, SentBase, Version}
-- traces and images
pub use Rattle.image_map.specs.MapValue.{IsFramWord, MapValue, TaskValue, word_count}
pub use Rattle.image_text.specs.ImageValue.{ImageValue, place_of}
pub use Rattle.state_text.specs.declared.state.State.{State}
-- the board
pub use Rattle.fram_board.specs.Board.{BoardValue, board_outcome, next_number, opened, powered, receiver_after}
pub use Rattle.fram_board.specs.Bus.{BusState, board_bus, is_fram}
pub use Rattle.fram_board.specs.Run.{BoardCharge, ChargeRun, Charges, Executed, Last, Measure, Moment, Next, NoInstruction, Over, Refused, Run, RunOutcome}
pub use Rattle.fram_board.specs.Run.{Spent, Stopped, TooDear, price, run_outcome}
pub use Rattle.fram_board.specs.Saved.{saved}
pub use Rattle.machine_effects.specs.Machine.{IsFram, fram_of}
pub use Rattle.machine_effects.specs.Runs.{last_board}
pub use Rattle.event_places.specs.Places.{is_ring}
pub use Rattle.program_view.specs.View.{steady}
pub use Rattle.program_view.proofs.Interface.{steady_low, steady_off}
pub use Rattle.machine_effects.specs.World.{World}
pub use Rattle.runtime_effects.specs.Places.{CopyPair, entries_from, listed, run_pairs}
pub use Rattle.stands_for.specs.Layout.{IsAmong, IsCopyWord, IsSharedWord, ProgramPlaces}
pub use Rattle.stands_for.specs.StandsFor.{IsAtRest, IsOpen, IsPendingCommit, IsSound, SoundAtRest, SoundPending, VersionsWithin, words_at}
pub use Rattle.run_charges.proofs.Interface.{charge_last}
-- sources
pub use Rattle.task_ast.specs.declared.Extent.{Extent}
pub use Rattle.task_ast.specs.declared.SharedDeclaration.{SharedDeclaration}
pub use Rattle.cost_bound.specs.Allowance.{CheckedProgram, CheckedTask, IsAllowed, greatest, is_written, list_of, place_part, shared_sum_from, task_words}
pub use Rattle.cost_bound.specs.Allowance.{total, version_part, versions_of}
pub use Rattle.cost_bound.specs.declared.allowance.Allow.{Allow}
pub use Rattle.war_analysis.specs.PlanValue.{TaskPlanValue}
pub use Rattle.privatise.specs.Layouts.{IsLayout, IsTaskLayout}
pub use Rattle.privatise.specs.Routines.{KnownFunctions, known_functions}
pub use Rattle.source_values.specs.Runs.{first_state, initial_words}
pub use Rattle.source_runs.specs.Naming.{length_of}
pub use Rattle.source_maps.specs.Maps.{map_buffer, map_list, map_of, map_ring, map_words, shared_name, task_value_of, tasks_of, value_type_of, variable_of}
pub use Rattle.source_maps.specs.Maps.{variables_of}
pub use Rattle.source_maps.specs.Placing.{ArePlacesOf, IsOfKind}
pub use Rattle.fram_state.proofs.Interface.{edition_of_state, first_entry, row_length}
pub use Rattle.fram_state.specs.Migrated.{EditionValue, IsMigrated, IsPendingAt, IsStateOf, edition_with, row_of, rows_of, shared_word}
pub use Rattle.fram_state.specs.Named.{buffers, copies_words, is_in_ring, is_named, is_shared, list_words, place_words, runtime_words, variable_words}
pub use Rattle.fram_state.specs.Runtime.{runtime_of, word_in, words_from}
pub use Rattle.fram_state.specs.Sound.{are_at_most, are_entries, are_shared, are_versions, entries_of, is_base, is_entry, is_even, is_list, is_pending}
pub use Rattle.fram_state.specs.Sound.{is_ring_at, words_of}
pub use Rattle.fram_state.specs.Stretch.{fits_fram, holds, is_held, lies_in}
pub use Rattle.fram_state.specs.declared.entry.Entry.{Entry}
-- compiled sources
pub use Rattle.compiled_model.specs.Places.{program_places}
pub use Rattle.compiled_model.specs.View.{row_in, state_in, state_view}
pub use Rattle.layout_facts.proofs.Interface.{among_back, among_either, among_front, shared_words_are_of_variables}
pub use Rattle.image_laws.proofs.Interface.{half, images_are_fresh, laid_out, logs_so, worlds_stand}
pub use Rattle.image_laws.specs.Compiled.{IsCompiled, IsImageOf}
pub use Rattle.image_laws.specs.Laws.{IsFreshImage, fresh_world}
pub use Rattle.image_reports.proofs.Interface.{images_belong, images_resume, made}
pub use Rattle.image_reports.specs.Resumed.{BelongsTo, IsResumedRun, IsToldOnward, known_from}
-- this crate
pub use Rattle.compiled_states.specs.Laws.{FreshStatesBelong, ImagesSuitTheirSources, MigratedStatesBelong, StatesAreTold, StatesAreWorlds, StatesGoOn}
pub use Rattle.compiled_states.specs.Laws.{StatesStay, WorldsAreStates}
pub use Rattle.compiled_states.specs.Worlds.{BelongsAt, HasCodeWords, HasFramWords, KeepsRing, LeavesItsStates, MayHaveAccepted, board_of, state_with, world_of}
