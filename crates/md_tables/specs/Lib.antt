pub mod LinkIndex
pub mod Refusal
pub mod Written
pub mod inner
