pub mod Given
pub mod Rows
pub mod Pieces
