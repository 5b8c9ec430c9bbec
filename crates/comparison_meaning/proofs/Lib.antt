-- Theorems of the comparison. In order: document 01's pairs; what the search finds; what pinning and reducing do to the sum; what holds
-- after every step; how verdicts come about; the demands, and the demands for two accepted records.
pub mod Anchors
pub mod Weight
pub mod Pinning
pub mod Reducing
pub mod Reached
pub mod Course
pub mod Outcomes
pub mod Theorems
pub mod Bytes
