pub mod SmallImage
pub mod GenEdits
pub mod Done
