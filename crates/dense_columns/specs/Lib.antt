-- Columns of exact amplitudes in a lent slice.
pub mod Columns
