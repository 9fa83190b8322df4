-- What the proofs of other crates cite.

-- Regions one behind another.
pub use Rattle.memory_map.proofs.InOrder.{in_order_lower, in_order_higher, in_order_append, in_order_push, in_order_end, in_order_within, in_order_split}
-- The regions of a memory map, and the words of the runtime in front of them.
pub use Rattle.memory_map.proofs.Parts.{apart_of, even_of, parts_in_fram, words_stand, word_even}
-- What the order of regions says of variables.
pub use Rattle.memory_map.proofs.Apart.{mapped, among}
-- Words of regions that stand in order: each is one word of one variable.
pub use Rattle.memory_map.proofs.InRegions.{IsIn, within, before}
-- The words of the variables.
pub use Rattle.memory_map.proofs.Homes.{home_between, one_home}
-- The addresses of the words that a task works on.
pub use Rattle.memory_map.proofs.Addresses.{element_is, copy_is, version_is, scalar_copy, scalar_home, HasCopy, among_is, IsPlaceOfScalar, scalar_place}
-- The words of scalars: one or two.
pub use Rattle.memory_map.proofs.Addresses.{some_words, few_words, privates_few, words_scalar, first_word}
-- The words that a task works on stand apart.
pub use Rattle.memory_map.proofs.Spots.{copies_row, version_between, spots_are_apart}
-- The words of private scalars, and their copies.
pub use Rattle.memory_map.proofs.InOrder.{Within}
pub use Rattle.memory_map.proofs.Privates.{private_home_region, private_copy_region, private_home, private_copy}
-- The functions that a task reaches.
pub use Rattle.memory_map.proofs.Routines.{codes_in_order, same_element, same_copied, same_spot, same_address, same_spots}
