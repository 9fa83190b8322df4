-- What the proofs of other crates cite.

-- Bytes at places that are free, or taken.
pub use Rattle.image_text.proofs.Puts.{put_end, put_stop, put_more}
-- Bytes that are put right behind what is placed.
pub use Rattle.image_text.proofs.Places.{nones, put_none, put_seam}
-- Lines that are printed read back as what they say.
pub use Rattle.image_text.proofs.Back.{AreWords16}
-- Sections that are printed read back as what they place.
pub use Rattle.image_text.proofs.Sections.{length_nones, nones_append}
-- The sections of words place these words, so an image that is printed reads back.
pub use Rattle.image_text.proofs.Spread.{empty_is, words16}
-- The sections of words are rising, apart and as long as can be.
pub use Rattle.image_text.proofs.Apart.{sections_made}
-- What is placed where bytes are put, and where they can't be.
pub use Rattle.image_text.proofs.Placing.{or_none}
-- What reading gives is the meaning of the lines.
pub use Rattle.image_text.proofs.Meanings.{or_assoc, front_meaning}
-- An image is read off the lines up to its `q`, whatever stands behind.
pub use Rattle.image_text.proofs.Ahead.{FrontAhead, front_ahead}
