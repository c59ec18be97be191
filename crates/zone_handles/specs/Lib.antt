pub mod Queries
pub mod ZoneEdits
pub mod Steps
