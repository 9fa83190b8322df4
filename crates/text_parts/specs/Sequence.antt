-- Passed on to those that read texts by their parts.
pub use Rattle.alp_text.specs.Sequence.{◌>>?◌, ◌>>=◌}
