pub mod Finding
pub mod SectionLemmas
pub mod StreamLemmas
pub mod Firsts
pub mod MetadataLemmas
pub mod LayoutLemmas
pub mod StandardFacts
