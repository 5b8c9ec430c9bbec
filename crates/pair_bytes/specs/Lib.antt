-- What a program does with its input. In order: the bytes of a pair, the table that refuses a pair, and how far a program reads. Inner
-- is of the functions that programs do not call.
pub mod Pair
pub mod Table
pub mod Limits
pub mod Inner
