-- What the proofs of other crates cite.

-- A text is read in one way, and not refused where it is read.
pub use Rattle.command_texts.proofs.OneReading.{same_value, no_trace, no_image, no_state, no_assembly}
-- No text is a source and refused as one.
pub use Rattle.command_texts.proofs.SourceLaws.{SourcesExclude, sources_exclude}
-- No text has a `next_event` and none.
pub use Rattle.source_meaning.proofs.Interface.{one_or_none}
