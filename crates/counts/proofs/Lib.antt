pub mod Listed
pub mod Newest
pub mod Numbered
