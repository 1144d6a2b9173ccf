pub mod Field
pub mod Sizes
