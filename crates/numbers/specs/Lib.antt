pub mod Shapes
pub mod Forms
pub mod Values
pub mod Parts
pub mod Texts
pub mod Back
