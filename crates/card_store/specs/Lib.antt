pub mod Cards
pub mod CardLaws
