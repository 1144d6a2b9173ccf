pub mod OwnTokens
pub mod Placed
