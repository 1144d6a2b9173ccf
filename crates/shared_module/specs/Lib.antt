pub mod Adds
pub mod Answers
pub mod inner
