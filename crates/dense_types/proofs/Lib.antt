-- The promises and the contract's clauses, each proved; and worked cases by computation.
pub mod Theorems
pub mod ClauseLaws
pub mod Anchors
