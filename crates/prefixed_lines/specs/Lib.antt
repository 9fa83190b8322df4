pub mod Prefixes
pub use Rattle.alp_io.specs as alp_io
pub use Rattle.buffered_sink.specs as buffered_sink
