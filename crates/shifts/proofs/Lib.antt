pub mod Rows
pub mod Stacked
