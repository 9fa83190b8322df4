pub mod Layout
pub mod StandsFor
pub mod Program
