pub mod CallFailing
pub mod Failing
pub mod Keys
pub mod Puts
pub mod Received
pub mod Room
pub mod Sends
pub mod ShortSignatures
