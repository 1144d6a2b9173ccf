pub mod EditLemmas
pub mod FailingLemmas
pub mod KeptLemmas
pub mod LawLemmas
pub mod MovedLemmas
pub mod ShiftLemmas
