pub mod Tallied
pub mod Fragments
