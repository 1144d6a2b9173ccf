pub mod PoolLemmas
pub mod ReadLemmas
pub mod StandardFacts
pub mod TextLemmas
