pub mod Uncommitted
pub mod Unsynced
