-- The path sum of a gate list. In order: sets of variables, parities, the phase polynomial, the sum that a list builds, and
-- the ways to change it: replacing a variable, and one step of the reduction.
pub mod Sets
pub mod Parity
pub mod Phase
pub mod Building
pub mod Stepping
pub mod Meaning
pub mod Room
