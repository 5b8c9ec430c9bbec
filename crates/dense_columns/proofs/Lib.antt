-- Laws of columns. In order: places of a slice, passes over a column, places that differ in one bit.
pub mod Places
pub mod Passes
pub mod Pairs
