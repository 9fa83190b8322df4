mod MigrateLaws
mod NotRefused
mod OneEnding
mod ResumeLaws
mod SaveLaws
pub mod Interface
