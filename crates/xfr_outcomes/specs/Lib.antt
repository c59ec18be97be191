pub mod ZoneUpdates
pub mod UpdateTexts
pub mod Modes
pub mod Refusals
