pub mod Glue
pub mod NameSets
pub mod Parts
pub mod Session
pub mod SessionRows
pub mod Stops
