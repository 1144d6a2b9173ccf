pub mod Failing
pub mod Shifted
