-- What the proofs of other crates cite.

-- A text is read as a state exactly where it is the text of an image, or that and the receiver's line.
pub use Rattle.state_text.proofs.Texts.{number_state, state_is}
