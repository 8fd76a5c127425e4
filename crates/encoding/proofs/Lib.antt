pub mod Pushes
pub mod Widths
pub mod Composed
pub mod Back
