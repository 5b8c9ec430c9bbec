-- Lemmas of this crate.
pub mod Passing
