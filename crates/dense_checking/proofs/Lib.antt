-- Laws of the checks on a call of the dense comparison.
pub mod Rows
