pub mod Types
pub mod Tables
pub mod Fields
pub mod Reads
pub mod Values
pub mod Ranges
pub mod Builds
