pub mod Order
pub mod Builds
pub mod Scans
pub mod Ends
pub mod Texts
pub mod Stores
pub mod Contents
