pub mod Wire
pub mod Numbers
pub mod Parse
pub mod Reply
pub mod Written
pub mod MessageRows
pub mod Reads
pub mod Builds
