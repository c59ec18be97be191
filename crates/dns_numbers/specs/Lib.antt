pub mod Codes
pub mod Serial
pub mod CodeTexts
