-- What the proofs of other crates cite.

-- Elements of lists by their places.
pub use Rattle.layout_facts.proofs.Lists.{contains_at}
-- The words of the variables fill their region.
pub use Rattle.layout_facts.proofs.Homes.{words_of_variables_are_shared, shared_words_are_of_variables, each_is_one_word}
-- The state that a world has.
pub use Rattle.layout_facts.proofs.States.{worlds_have_states}
-- What the undo runtime's start lists of a task.
pub use Rattle.layout_facts.proofs.Logged.{homes_at, privates_are_logged}
-- States by addresses.
pub use Rattle.layout_facts.proofs.Views.{view_has_their_words, rows_fit_places}
-- The places of the crash theorem, and the room of its buffers.
pub use Rattle.layout_facts.proofs.Chains.{places_are_apart, tasks_have_room}
-- Pairs of words and their copies, and private scalars word by word.
pub use Rattle.layout_facts.proofs.Pairs.{among_either, among_front, among_back, word_pair, IsPairOf, IsOfScalars, among_scalars, scalars_among}
-- The private scalars of tasks.
pub use Rattle.layout_facts.proofs.Privates.{privates_are_theirs}
-- The words that a task works on stand apart, behind what it lists and emits.
pub use Rattle.layout_facts.proofs.Spots.{task_places_are_apart, task_places_are_even, elements_stand}
-- Places are of the kinds that the source declares.
pub use Rattle.layout_facts.proofs.Planned.{scalar_declared, places_are_declared}
-- What a task assigns, and where it has that.
pub use Rattle.layout_facts.proofs.Assigned.{tasks_match, addresses_are}
-- The commit list has room for all that a task may list.
pub use Rattle.layout_facts.proofs.Listed.{elements_are_stores, lists_have_room}
-- A task's places have what its source declares.
pub use Rattle.layout_facts.proofs.Declared.{places_are_as_declared, written_arrays_have_copies}
-- What a task sees of a memory map stands in the whole map.
pub use Rattle.layout_facts.proofs.Seen.{word_of_seen, scalar_of_seen}
-- The scalars that a task writes in place, by their addresses.
pub use Rattle.layout_facts.proofs.InPlace.{ScalarAt, scalar_found, found_word, scalar_is, calls_known, callable, in_place_written, in_place_not_private}
-- The numbers of a task's locals are words.
pub use Rattle.layout_facts.proofs.Locals.{locals_are_low}
