pub mod Metadata
pub mod Headers
pub mod Image
pub mod Reread
pub mod inner
