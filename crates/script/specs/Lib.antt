pub mod FaultTexts
pub mod Kinds
pub mod Texts
