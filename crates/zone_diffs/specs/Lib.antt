pub mod Building
pub mod Kept
pub mod DiffRows
pub mod Sided
