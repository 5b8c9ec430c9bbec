-- Laws behind the code of this crate: zeros in words, and wires as parities.
pub mod Zeros
pub mod WireLists
