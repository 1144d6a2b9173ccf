pub mod Shape
pub mod SlotMap
pub mod inner
