-- What the proofs of other crates cite.

-- The rules of a map let its variables, its tasks and their private scalars be added one behind another.
pub use Rattle.image_map.proofs.Taking.{variables_alone, middle, takes_next_variable, tasks_alone, takes_next_task, onto_of, task_with, takes_next_private}
-- A map is read off the lines up to its end, whatever stands behind.
pub use Rattle.image_map.proofs.Ahead.{ReadsAhead, leaving, map_ahead}
-- Lines of words with one space between, and numbers in them, read back.
pub use Rattle.image_map.proofs.ReadBack.{line_back, decimal_back}
