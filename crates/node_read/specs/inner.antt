pub mod Indexed
pub mod Opened
pub mod Cells
pub mod FieldData
