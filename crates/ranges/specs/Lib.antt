pub mod Ordered
pub mod Insertion
