pub mod EvenRows
pub mod Meaning
