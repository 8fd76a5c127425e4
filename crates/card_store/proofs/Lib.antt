pub mod CardRows
pub mod CardFacts
pub mod Parts
