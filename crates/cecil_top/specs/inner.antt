pub mod Steps
pub mod Passes
pub mod Actors
pub mod Ends
pub mod Questions
pub mod Opens
pub mod ToolSteps
