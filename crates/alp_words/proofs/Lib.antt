mod Signed
mod Carries
mod Decimal
pub mod Interface
