pub mod Lays
pub mod Steps
pub mod Plans
pub mod Rowed
pub mod Looked
