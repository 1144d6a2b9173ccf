pub mod ColumnCell
pub mod Gathered
pub mod PlacedColumns
