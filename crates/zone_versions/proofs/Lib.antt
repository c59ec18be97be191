pub mod Flat
pub mod Above
pub mod Kept
pub mod Existing
pub mod Grown
pub mod Shrunk
pub mod Counted
pub mod Row
pub mod Scan
pub mod Named
pub mod Upwards
pub mod Edited
pub mod Told
pub mod Few
pub mod Walked
pub mod Cleared
pub mod NoSet
pub mod Written
pub mod InPlace
pub mod ReopenedTrees
mod Cuts
pub mod Conditions
pub mod Putting
mod Removing
pub mod Closing
pub mod Stops
pub mod TypedStops
mod Distinct
mod Sound
pub mod NodeEdits
pub mod NextSerial
mod Adding
pub mod Outcomes
mod Standing
mod Dropping
pub mod Moving
mod Reopened
mod ApexLengths
mod Spelled
