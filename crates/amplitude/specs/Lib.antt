-- What a verdict means. In order: the numbers, bits of an input, the published matrices, lists of gates as linear maps, two lists
-- put together, and columns compared by computation.
pub mod Number
pub mod Bits
pub mod Matrix
pub mod Circuit
pub mod Composition
pub mod Testing
