pub mod Openings
pub mod States
pub mod Calls
pub mod Sound
pub mod Sheets
