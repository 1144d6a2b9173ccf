pub mod RowColumns
pub mod UserStrings
pub mod Contents
pub mod WrittenRows
pub mod UserTokens
pub mod HeapSizes
pub mod ReadBack
pub mod inner
