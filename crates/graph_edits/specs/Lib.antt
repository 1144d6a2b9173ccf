pub mod Graphs
pub mod Applying
pub mod Stands
pub mod Needs
pub mod inner
