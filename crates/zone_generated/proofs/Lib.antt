mod HostNames
mod Opened
mod AnyOrder
mod Moves
mod Digits
pub mod Content
pub mod ShortTexts
