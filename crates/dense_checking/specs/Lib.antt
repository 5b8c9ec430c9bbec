-- What the checks on a call of the dense comparison find.
pub mod Checking
