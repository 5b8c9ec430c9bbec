-- Laws behind the code of this crate: sets with one high word, and truth as a number.
pub mod Lows
pub mod Digits
