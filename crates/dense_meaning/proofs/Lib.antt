-- Why the dense comparison is right. In order: laws of its searches, what an unfit input means, the theorems, and worked cases by
-- computation.
pub mod Searching
pub mod Unfit
pub mod Theorems
pub mod Anchors
