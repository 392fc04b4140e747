pub mod Keeping
pub mod GoodEdits
pub mod Fits
pub mod Simulation
pub mod PlainAgrees
pub mod Reopening
pub mod Outcomes
