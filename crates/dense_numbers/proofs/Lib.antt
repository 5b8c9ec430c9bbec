-- Laws of bounded numbers: the machine's whole numbers, then the sizes of amplitudes.
pub mod Whole
pub mod Sizes
pub mod Comparing
