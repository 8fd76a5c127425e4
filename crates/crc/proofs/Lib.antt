pub mod Linear
pub mod Rows
pub mod Reflected
pub mod Eight
pub mod Table
