pub mod BadNames
pub mod CellsLeft
pub mod Columns
pub mod ListWalks
pub mod Making
