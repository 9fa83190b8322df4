-- What the proofs of other crates cite.

-- The map of the image of an accepted source, and the words of its variables.
pub use Rattle.image_reports.proofs.InFront.{words_are}
pub use Rattle.image_reports.proofs.Told.{made}
-- From an image's fresh world a run may go on.
pub use Rattle.image_reports.proofs.ImageLaw.{images_belong}
-- Each run of a state that belongs to an image keeps the laws.
pub use Rattle.image_reports.proofs.Resumed.{images_resume}
