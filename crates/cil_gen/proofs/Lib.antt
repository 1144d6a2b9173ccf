pub mod SigLemmas
pub mod TextLemmas
pub mod ListLemmas
pub mod ImageFacts
pub mod OpenFacts
pub mod GraphLemmas
pub mod DoneLemmas
