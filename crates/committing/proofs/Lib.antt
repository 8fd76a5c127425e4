pub mod CommitMade
pub mod Fields
pub mod LogMade
pub mod Parts
pub mod Planned
pub mod Trails
