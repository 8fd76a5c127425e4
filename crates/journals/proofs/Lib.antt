pub mod Answered
pub mod Steps
pub mod Journals
