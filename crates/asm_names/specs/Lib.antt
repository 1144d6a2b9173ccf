pub mod Assembly
pub mod Guid
pub mod KeyToken
