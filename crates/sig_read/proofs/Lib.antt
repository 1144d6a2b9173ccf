pub mod Fuel
pub mod Short
