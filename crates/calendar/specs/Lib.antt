pub mod Instants
pub mod Dates
pub mod Order
