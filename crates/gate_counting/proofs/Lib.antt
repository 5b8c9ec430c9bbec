-- Laws behind counting gates.
pub mod Tallying
