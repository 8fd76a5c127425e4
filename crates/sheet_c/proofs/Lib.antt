pub mod Ending
pub mod Seeing
pub mod Putting
