pub mod EndLemmas
pub mod ItemLemmas
pub mod ReadLemmas
pub mod ReadWritableLemmas
pub mod SectionSteps
