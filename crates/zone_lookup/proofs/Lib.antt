pub mod Adding
pub mod Choosing
pub mod Limits
mod Highest
mod Enclosers
mod FirstSets
mod Wildcards
mod Referrals
mod OwnedRecords
