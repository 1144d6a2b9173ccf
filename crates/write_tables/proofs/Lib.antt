pub mod GatherLemmas
pub mod ColumnLemmas
pub mod UserLemmas
pub mod TableLemmas
pub mod WorkedFacts
