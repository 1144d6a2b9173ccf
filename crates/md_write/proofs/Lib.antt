pub mod BelowLemmas
pub mod FitLemmas
pub mod ReadLemmas
pub mod RowLemmas
pub mod StandsLemmas
pub mod StreamLemmas
pub mod WriteLemmas
