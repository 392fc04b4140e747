pub mod Places
pub mod Outputs
pub mod Texts
pub mod Values
pub mod Files
