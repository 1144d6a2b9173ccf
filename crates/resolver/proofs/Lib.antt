pub mod LeftLemmas
pub mod MachineLemmas
pub mod SplitLemmas
