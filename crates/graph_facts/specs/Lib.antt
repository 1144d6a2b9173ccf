pub mod OfTypes
pub mod RowHolds
pub mod HoldsValue
pub mod GraphHolds
