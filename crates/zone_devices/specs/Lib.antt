pub mod Calls
pub mod Edits
pub mod Links
pub mod Queues
pub mod Streams
