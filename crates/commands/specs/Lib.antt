pub mod Numerals
pub mod Words
pub mod Kinds
pub mod Arguments
pub mod Commands
pub mod Forms
pub mod Texts
