pub mod HmacOnLiterals
pub mod KeyBlocks
pub mod KeyLookups
pub mod Comparing
