-- The columns of two lists compared in a lent buffer.
pub mod Judging
