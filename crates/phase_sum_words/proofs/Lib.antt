-- Laws of sets over words. In order: worked cases; one word; the operations on sets, word by word; their order as numbers; single and lowest
-- variables; lists of words as lists of sets; all of them together.
pub mod Anchors
pub mod Word
pub mod Wide
pub mod WideOrder
pub mod Variables
pub mod Views
pub mod Removing
pub mod Any
