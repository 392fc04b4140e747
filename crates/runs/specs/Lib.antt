pub mod Plain
pub mod Runs
pub mod Promises
pub mod Outcomes
