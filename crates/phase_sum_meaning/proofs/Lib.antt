-- Laws of path sums. In order: worked cases; sets, variables, parities, the phase polynomial and its one canonical form; sums over path
-- variables, and the built sum's amplitude; replacing, taking out and the steps; what every sum on the way keeps.
pub mod Anchors
pub mod SetLaws
pub mod VariableLaws
pub mod ParityLaws
pub mod PhaseLaws
pub mod CanonicalLaws
pub mod Summing
pub mod Built
pub mod Replacing
pub mod TakingOut
pub mod StepLaws
pub mod Wellformed
pub mod Evenness
pub mod Roominess
