pub mod Padded
pub mod Tails
