pub mod NameKeys
pub mod RfcNames
