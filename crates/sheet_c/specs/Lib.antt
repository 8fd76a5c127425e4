pub mod Shapes
pub mod Extends
pub mod Shows
pub mod Opening
