pub mod KeyOrder
pub mod Keys
pub mod Nearest
pub mod Edited
