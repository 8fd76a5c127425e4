pub mod Kept
pub mod Placed
