-- The promises, each proved: of the path-sum comparison, then of the dense one; and a worked case.
pub mod Theorems
pub mod Dense
pub mod Anchors
