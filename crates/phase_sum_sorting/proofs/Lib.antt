-- Lemmas about the words of sets taken two at a time.
pub mod Chunks
