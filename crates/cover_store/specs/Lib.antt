pub mod Covers
pub mod CoverRows
