pub mod Trees
pub mod Refusals
