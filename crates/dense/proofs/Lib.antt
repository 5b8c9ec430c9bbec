-- Laws behind `compare`.
pub mod Calling
