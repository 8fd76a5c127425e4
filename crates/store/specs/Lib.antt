pub mod Refusals
pub mod Rows
pub mod RowsLemmas
