pub mod ColumnNumbers
pub mod LinksRead
pub mod RunsRead
pub mod TableRows
pub mod TablesRead
pub mod TablesStream
pub mod inner
