pub mod Digits
pub mod OpenedLines
