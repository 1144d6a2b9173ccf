mod Enumerated
mod Grown
pub mod PlainLemmas
mod StandardFacts
