pub mod Found
pub mod Placed
pub mod Indexed
