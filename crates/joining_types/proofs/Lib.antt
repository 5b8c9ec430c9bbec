-- Laws by topic, the promises and the contract's clauses, each proved, and worked cases by computation.
pub mod Shifting
pub mod Writing
pub mod ClauseLaws
pub mod Theorems
pub mod Anchors
