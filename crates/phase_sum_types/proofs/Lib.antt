-- Laws behind the code of the phase-sum layer. In order: terms stored in places; merging in any order; sets of two words; loops over places;
-- passes over the terms; sorting; merging terms in order; wires; running gates; accepted records.
pub mod Storing
pub mod Merging
pub mod TwoWords
pub mod Chunks
pub mod Comparing
pub mod Places
pub mod Passes
pub mod Sorting
pub mod Compacting
pub mod WireLaws
pub mod Running
pub mod Members
pub mod Choosing
pub mod Windows
pub mod Changing
pub mod Acceptance
pub mod Anchors
