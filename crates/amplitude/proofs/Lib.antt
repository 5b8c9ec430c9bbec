-- The laws of amplitudes. In order: single amplitudes and identities that pin the gates, numbers, whole numbers, products and sums,
-- columns compared by computation, sizes, the exclusive or, bits, numbers cut in two, lists as linear maps, two lists one after the other
-- and side by side, joined lists carried part by part, inverses, sizes added up, two lists compared by one number, and Y.
pub mod Anchors
pub mod Identities
pub mod NumberLaws
pub mod WholeLaws
pub mod ProductLaws
pub mod Testing
pub mod Norm
pub mod XorLaws
pub mod BitLaws
pub mod BlockLaws
pub mod Linear
pub mod Outside
pub mod Composition
pub mod Tensor
pub mod Assembly
pub mod Inverse
pub mod Total
pub mod Bridge
pub mod YLaw
