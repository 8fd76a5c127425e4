pub mod DataWalks
pub mod Files
pub mod ListWalks
