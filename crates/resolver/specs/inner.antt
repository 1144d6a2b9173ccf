-- Words of the code alone: no public contract cites them.
pub mod Splits
