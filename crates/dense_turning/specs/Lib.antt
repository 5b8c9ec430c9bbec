-- Turns of a column, and that each gate is local to the places of a key.
pub mod Turns
pub mod Local
