pub mod Messages
pub mod Read
pub mod Carried
pub mod Interpreter
pub mod Machine
pub mod Applying
pub mod ReplyRows
