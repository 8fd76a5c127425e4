pub mod CommitWrites
pub mod Heads
pub mod LogParts
pub mod Made
