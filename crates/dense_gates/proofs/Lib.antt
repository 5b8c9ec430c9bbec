-- Laws of one-qubit gates on a column. In order: the table of matrices, the matrices by their zeros, the matrix on a pair.
pub mod Table
pub mod Matrices
pub mod Turns
