pub mod Adds
pub mod Parts
pub mod Writes
