pub mod Columns
pub mod Opening
