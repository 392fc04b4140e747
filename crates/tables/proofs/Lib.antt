pub mod Places
pub mod Moments
pub mod Orders
pub mod Flags
pub mod Laws
pub mod Earlier
