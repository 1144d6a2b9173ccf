pub mod KeyEquality
pub mod PlaceLaws
