pub mod Runs
pub mod Bears
pub mod Laws
pub mod Events
pub mod EventLaws
pub use Rattle.board_run.specs.alp_io as alp_io
pub use Rattle.crash_rules.specs.msp_isa as msp_isa
pub use Rattle.crash_rules.specs.msp_step as msp_step
pub use Rattle.crash_rules.specs.image_map as image_map
pub use Rattle.crash_rules.specs.fram_board as fram_board
pub use Rattle.crash_rules.specs.machine_effects as machine_effects
pub use Rattle.crash_rules.specs as crash_rules
pub use Rattle.run_charges.specs as run_charges
pub use Rattle.board_run.specs as board_run
