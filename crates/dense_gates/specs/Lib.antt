-- One-qubit gates on a column.
pub mod Gates
pub mod Local
