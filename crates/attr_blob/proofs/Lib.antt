pub mod ArgLemmas
pub mod AttrLemmas
pub mod Depth
pub mod Leaves
pub mod NamedLemmas
pub mod NeedLemmas
pub mod SpellLemmas
mod StandardFacts
pub mod StepLemmas
pub mod TypeLemmas
