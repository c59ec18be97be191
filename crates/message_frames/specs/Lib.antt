pub mod Frames
pub mod Passing
