pub mod Numbers
pub mod PlaceLaws
