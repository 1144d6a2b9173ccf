pub mod HasPart
pub mod PartNumbers
pub mod PartLemmas
