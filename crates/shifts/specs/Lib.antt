pub mod Shifts
pub mod Stacks
