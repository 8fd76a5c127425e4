pub mod Counting
pub mod Placing
pub mod Finding
pub mod Walking
pub mod Comparing
