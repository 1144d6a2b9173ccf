pub mod LaidParts
pub mod Laws
