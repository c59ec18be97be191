mod Behind
mod Texts
mod Stops
mod Placing
mod Reading
mod Skipping
pub mod Cutting
pub mod PageRooms
pub mod Pulling
