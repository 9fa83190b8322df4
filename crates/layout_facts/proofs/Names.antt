-- The names that the proofs here share, from the rooms below and from this one's specs.
-- std
pub use Rattle.std.proofs.Common.{Bool, List, None, Some, [], ap, ap₂, arith, eq-eqb, false, get_or, inl, inr, length, lt-ltb, ltb, map, not, refl}
pub use Rattle.std.proofs.Common.{slice_index_or, subst, suc, sym, true, zero, ℕ, ⊎_elim, ◌%◌, ◌&&◌, ◌*◌, ◌++◌, ◌+◌, ◌-◌, ◌/◌, ◌<◌, ◌==◌, ◌||◌, ◌∙◌, ◌∷◌, ◌≡◌}
pub use Rattle.std.proofs.Common.{◌≤◌, ◌⊎◌}
pub use Rattle.std.proofs.lemmas.Bool.{and_from, and_parts, and_right, cases_Bool, cases_eq, cases_lt, cases_order, eqb-true, le-leb, le-ltb, ne_eqb, not-true}
pub use Rattle.std.proofs.lemmas.Bool.{or_cases, or_left, or_right}
pub use Rattle.std.proofs.lemmas.List.{get_or-map, length-map, length-replicate}
pub use Rattle.std.proofs.lemmas.List.Elements.{All-head, All-tail, All-weaker}
pub use Rattle.std.proofs.lemmas.Option.{get_or_from_slice_get, slice_get-get_or, slice_get-map, slice_get_within}
pub use Rattle.std.specs.List.{flat_map}
pub use Rattle.std.specs.Option.{option_map}
pub use Rattle.std.specs.Prelude.{All, AllPairs, Contains, IsSomeAnd, Option, if◌then◌else◌, is_some, slice_get, slice_index}
-- the machine
pub use Rattle.memory_map.proofs.Interface.{IsIn, among_is, apart_of, before, copies_row, copy_is, element_is, even_of, home_between, in_order_within, mapped}
pub use Rattle.memory_map.proofs.Interface.{one_home, parts_in_fram, scalar_copy, scalar_home, spots_are_apart, version_between, version_is, within}
pub use Rattle.memory_map.specs.MemoryMap.{MemoryMap, TaskPlace}
pub use Rattle.memory_map.specs.Places.{AreInOrder, HasItsPlace, IsLaidOut, copy_regions, end_of, home_region, scalar_words}
pub use Rattle.memory_map.specs.Spots.{Element, IsCopied, IsScalarPlace, IsWordOf, address_of, copy_address, copy_among, copy_else, element_address, home_in}
pub use Rattle.memory_map.specs.Spots.{home_of, places_of, version_address}
pub use Rattle.memory_map.specs.declared.place.ArrayCopies.{ArrayCopies}
pub use Rattle.memory_map.specs.declared.place.PrivateScalar.{PrivateScalar}
pub use Rattle.memory_map.specs.declared.place.Region.{Region}
pub use Rattle.memory_map.specs.declared.place.ScalarWidth.{ScalarWidth}
pub use Rattle.memory_map.specs.declared.place.ScalarWidth.TheVariants.{OneWord, TwoWords}
pub use Rattle.memory_map.specs.declared.place.VariablePlace.{VariablePlace}
pub use Rattle.memory_map.specs.declared.place.VariablePlace.TheVariants.{Array, Scalar}
-- the board
pub use Rattle.runtime_effects.specs.Places.{CopyPair, run_pairs, scalar_pairs}
pub use Rattle.stands_for.specs.Layout.{ArePrivate, IsAmong, IsCopyWord, IsSharedWord}
-- sources
pub use Rattle.task_ast.specs.declared.Extent.{Extent}
pub use Rattle.task_ast.specs.declared.SharedDeclaration.{SharedDeclaration}
pub use Rattle.task_ast.specs.declared.names.Variable.TheVariants.{Shared}
pub use Rattle.cost_bound.specs.Allowance.{CheckedProgram, CheckedTask, greatest, is_written, list_of, list_part, shared_sum_from}
pub use Rattle.cost_bound.specs.Counts.{CheckedBlock, emits_of, stores_of}
pub use Rattle.cost_bound.specs.declared.allowance.Allow.{Allow}
pub use Rattle.war_analysis.proofs.Interface.{element}
pub use Rattle.war_analysis.specs.PlanValue.{TaskPlanValue}
pub use Rattle.war_analysis.specs.Plans.{IsArrayAt, IsPrivateIn, IsScalarAt, IsTaskPlan, is_scalar}
pub use Rattle.privatise.specs.Layouts.{IsPlaceOf}
pub use Rattle.privatise.specs.Sizes.{home_part}
pub use Rattle.source_values.specs.Runs.{State, body_of, initial_words, is_long_extent, task_body}
-- word programs and their code
pub use Rattle.lower.proofs.Interface.{SeenFrom, array, array_read, array_seen, is_private_of, private_is, privates_seen, read, scalar, scalar_seen}
pub use Rattle.lower.proofs.Interface.{AreCallable, seen_from, seen_laid_out, some_writes, writes_some}
pub use Rattle.lower.specs.Agreement.{IsArray, place_length}
pub use Rattle.lower.specs.Seen.{map_seen, places_seen, some_path_writes}
pub use Rattle.lower.specs.Spots.{AreDifferent, AreListed, listed_of}
-- compiled sources
pub use Rattle.compiled_model.specs.Places.{has_word_at, is_private_in, program_places, some_scalar_at, stays_in_place}
pub use Rattle.compiled_model.specs.View.{are_rows, are_words, is_within, row_in, shared_word, state_in, state_left, state_view, word_of_row}
-- this crate
pub use Rattle.layout_facts.specs.Facts.{HasLayout, IsTaskAt, task_places, task_room}
pub use Rattle.layout_facts.specs.Laws.{AddressIs, AddressesAre, EachIsOneWord, ElementsAreStores, ElementsStand, InPlaceByPaths, ListsHaveRoom, PlacesAreApart}
pub use Rattle.layout_facts.specs.Laws.{PlacesAreAsDeclared, PlacesAreDeclared, PlacesMatch, PrivatesAreTheirs, RowsFitPlaces, ScalarsStand}
pub use Rattle.layout_facts.specs.Laws.{SharedWordsAreOfVariables, TaskMatches, TaskPlacesAreApart, TaskPlacesAreEven, TasksHaveRoom, TasksMatch}
pub use Rattle.layout_facts.specs.Laws.{ViewHasTheirWords, WordsOfVariablesAreShared, WorldsHaveStates, WrittenArraysHaveCopies}
pub use Rattle.task_ast.specs.Paths.{CheckedFunction}
