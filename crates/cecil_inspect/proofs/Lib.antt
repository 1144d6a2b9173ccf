pub mod InspectLemmas
pub mod LimitLemmas
mod StandardFacts
