pub mod Buffers
pub mod NewNodes
pub mod Reading
