pub mod CodedLemmas
pub mod LinkLemmas
pub mod ReferenceLemmas
pub mod RunLemmas
pub mod SchemaLemmas
pub mod SpellingLemmas
pub mod StandardFacts
