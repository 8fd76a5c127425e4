pub mod Refusing
pub mod OneEntry
pub mod Entries
pub mod Fragments
pub mod Counted
