pub mod Lines
pub mod Goods
pub mod Records
pub mod Contents
pub mod Files
pub mod Openings
pub mod Blocks
