pub mod ByKind
pub mod Held
pub mod Near
pub mod Planned
pub mod Spills
