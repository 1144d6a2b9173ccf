pub mod Halts
pub mod Parts
