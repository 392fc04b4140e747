pub mod Moments
pub mod Dates
