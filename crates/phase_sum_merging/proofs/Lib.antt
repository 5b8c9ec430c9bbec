-- Laws behind the code of this crate: merging terms whose sets stand in words.
pub mod Levels
