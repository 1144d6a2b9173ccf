pub mod Words
pub mod Lines
pub mod Inspect
pub mod Statuses
pub mod Steps
