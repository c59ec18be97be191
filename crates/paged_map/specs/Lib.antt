pub mod Octets
pub mod Pages
pub mod Lends
