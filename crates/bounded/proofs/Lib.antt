pub mod Filters
pub mod Places
