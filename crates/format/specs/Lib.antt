pub mod Windows
pub mod Forms
pub mod Pairs
pub mod Heads
pub mod Targets
