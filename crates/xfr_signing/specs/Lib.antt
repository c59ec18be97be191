pub mod Signing
pub mod SignedStreams
pub mod SignedServing
pub mod Failing
