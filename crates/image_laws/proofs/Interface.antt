-- What the proofs of other crates cite.

-- Where the world rests at a state of the source, the map finds the state's words in it; and the state that each world has.
pub use Rattle.image_laws.proofs.States.{maps_find_states, worlds_stand}
-- The world of an image before anything was done, where its code ends, and the place of a word at twice its place in bytes.
pub use Rattle.image_laws.proofs.Fresh.{zero_at, version, code_end, half, images_are_fresh}
-- The text of an image, with its layout, which is one for its runtime.
pub use Rattle.image_laws.proofs.Laid.{laid_out, logs_so}
-- The words of an image by their addresses.
pub use Rattle.image_laws.proofs.Fram.{place_in_fram, fram_at, within, none_before}
