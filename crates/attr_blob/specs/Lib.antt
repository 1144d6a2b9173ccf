pub mod Args
pub mod Attrs
pub mod Decoded
pub mod Fronts
pub mod Needs
pub mod Spelled
pub mod Types
pub mod inner
