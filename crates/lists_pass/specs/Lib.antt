pub mod FragmentChecks
pub mod Parts
pub mod ListPieces
pub mod Listings
pub mod Opening
