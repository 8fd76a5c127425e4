pub mod Answers
pub mod Finds
