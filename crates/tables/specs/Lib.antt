pub mod Kinds
pub mod Misplacings
pub mod Places
pub mod Queues
pub mod Rows
pub mod Kept
