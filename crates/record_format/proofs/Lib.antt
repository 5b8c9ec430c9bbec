-- Worked cases that anchor the definitions, lemmas by topic, and the proofs of specs/Promises.antt in Theorems, Indices and Cuts.
pub mod Anchors
pub mod GateLaws
pub mod Rows
pub mod Pairs
pub mod Encoding
pub mod Reading
pub mod Storing
pub mod Writers
pub mod Theorems
pub mod Indices
pub mod Cuts
pub mod Parts
pub mod Chunks
pub mod Results
