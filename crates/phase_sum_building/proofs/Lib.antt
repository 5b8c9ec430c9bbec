-- Lemmas of this crate.
pub mod Building
