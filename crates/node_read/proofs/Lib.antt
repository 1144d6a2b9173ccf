pub mod RowLemmas
pub mod ColumnLemmas
pub mod KeyLemmas
pub mod ImageLemmas
pub mod ListLemmas
pub mod IndexedLemmas
