pub mod Generated
pub mod Ranks
pub mod ShortTexts
