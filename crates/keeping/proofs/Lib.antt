pub mod Loops
pub mod Transactions
pub mod Rows
pub mod Counted
pub mod Placed
pub mod Touched
pub mod Tables
pub mod Kept
