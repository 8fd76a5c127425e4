pub mod Walkings
pub mod ListPieces
pub mod Indexings
pub mod ListSteps
pub mod ListWalks
pub mod FirstSteps
pub mod Openings
