pub mod Times
pub mod DataReading
mod Pieces
mod CanonicalOrder
mod CanonicalTies
