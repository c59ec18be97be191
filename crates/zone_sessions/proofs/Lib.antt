pub use Rattle.zone_versions.proofs.Conditions
pub mod Histories
pub mod KeptApex
pub mod Refused
pub mod Reopened
pub mod Unopened
