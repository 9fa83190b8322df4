mod AuditLaws
mod GenLaws
mod GenLines
mod NotRefused
mod PutLaws
mod TrialLaws
pub mod Interface
