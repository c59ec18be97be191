pub mod Noting
pub mod Covering
pub mod SoundSets
mod Changing
mod Lacking
pub mod Drafting
mod Straying
mod Publishing
