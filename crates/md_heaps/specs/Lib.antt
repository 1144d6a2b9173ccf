pub mod Entries
pub mod LaidHeaps
pub mod Pools
pub mod ReadBack
pub mod inner
