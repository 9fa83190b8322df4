mod FailureLaws
mod MadeMore
mod NameLaws
mod PutLaws
mod Refused
mod ShelfLaws
mod StatusLaws
mod UnreadFiles
pub mod Interface
pub use Rattle.alp_io.proofs as alp_io
