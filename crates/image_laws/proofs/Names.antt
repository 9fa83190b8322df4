-- The names that the proofs here share, from the rooms below and from this one's specs.
-- std
pub use Rattle.std.proofs.Common.{All, Bool, List, ⊎_elim, ◌⊎◌, Some, [], ap, ap₂, arith, cond, eq-eqb, eqb-true, false, get_or, if◌then◌else◌, length}
pub use Rattle.std.proofs.Common.{leb-true, ltb-true, map, nat_le, nat_lt, ne_eqb, refl}
pub use Rattle.std.proofs.Common.{replicate, slice_index, slice_index_or, subst, suc, sym, true, zero, ℕ, ◌%◌, ◌&&◌, ◌*◌, ◌++◌, ◌+◌, ◌-◌, ◌/◌, ◌<◌, ◌==◌, ◌^◌}
pub use Rattle.std.proofs.Common.{◌∙◌, ◌∷◌, ◌≡◌, ◌≢◌, ◌≤◌}
pub use Rattle.std.proofs.lemmas.Bool.Decides.{nat_tests}
pub use Rattle.std.proofs.lemmas.List.{get_or_default, length-replicate, same_lists}
pub use Rattle.std.specs.Prelude.{slice_get}
-- the machine
pub use Rattle.address_space.specs.Limits.{event_vector, fram_first, fram_words, program_end, reset_vector}
pub use Rattle.event_places.specs.Places.{handler_place, head_place, is_ring}
pub use Rattle.event_handler.specs.Handler.{HasHandler, handler_length, handler_words}
pub use Rattle.memory_map.specs.MemoryMap.{MemoryMap, word_place}
pub use Rattle.memory_map.specs.Places.{AreInOrder, IsLaidOut, end_of, home_region, scalar_words}
pub use Rattle.memory_map.specs.declared.place.VariablePlace.{VariablePlace}
pub use Rattle.memory_map.specs.declared.words.RuntimeWord.TheVariants.{Base, CurrentTask, Gate, ListLength}
-- traces and images
pub use Rattle.image_text.specs.ImageValue.{ImageValue, place_of}
-- the board
pub use Rattle.fram_board.specs.Bus.{is_fram}
pub use Rattle.machine_effects.specs.Machine.{IsFram, IsPlace, fram_of}
pub use Rattle.machine_effects.specs.World.{World}
pub use Rattle.crash_rules.specs.Model.{Model}
pub use Rattle.stands_for.specs.Layout.{IsSharedWord}
pub use Rattle.stands_for.specs.StandsFor.{HoldsWords, RestsAt}
-- sources
pub use Rattle.task_ast.specs.declared.Extent.{Extent}
pub use Rattle.task_ast.specs.declared.SharedDeclaration.{SharedDeclaration}
pub use Rattle.cost_bound.specs.Allowance.{IsAllowed, is_written}
pub use Rattle.cost_bound.specs.declared.allowance.Allow.{Allow}
pub use Rattle.source_values.specs.Runs.{CheckedProgram, State, first_state, initial_rows, initial_words}
pub use Rattle.source_meaning.specs.Acceptance.{Checks, IsAcceptedText}
pub use Rattle.source_runs.specs.Transitions.{HasWordsOf, rows_in, words_at}
pub use Rattle.source_maps.proofs.Interface.{of_kind, one_word}
pub use Rattle.source_maps.specs.Maps.{map_of, value_type_of, variables_of}
-- word programs and their code
pub use Rattle.whole_programs.proofs.Interface.{privates_are_few, calls_are_theirs}
-- compiled sources
pub use Rattle.compiled_model.proofs.Interface.{either_logging, is_logged, is_redo}
pub use Rattle.compiled_model.specs.Parts.{compiled_model}
pub use Rattle.compiled_model.specs.Places.{program_places}
pub use Rattle.compiled_model.specs.View.{are_rows, are_words, is_within, shared_word, state_in, state_view, word_of_row}
pub use Rattle.layout_facts.proofs.Interface.{tasks_match, view_has_their_words, words_of_variables_are_shared, worlds_have_states}
pub use Rattle.layout_facts.specs.Facts.{HasLayout}
-- this crate
pub use Rattle.image_laws.specs.Compiled.{IsCompiledFor}
pub use Rattle.image_laws.specs.Laws.{ImagesAreFresh, ImagesAreOne, ImagesHaveStates, IsFreshImage, MapsFindStates, fresh_world}
pub use Rattle.image_laws.specs.Words.{AreImageWords, code_region, code_words, data_word, handler_region, image_word, with_handler}
