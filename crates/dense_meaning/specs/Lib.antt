-- The dense comparison: its limits, all columns of two lists for each of the eight powers of ω, and what it finds, as propositions.
pub mod Limits
pub mod Columns
pub mod Demands
