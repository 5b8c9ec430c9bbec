-- The bytes that a gate on two qubits is written as.
pub mod Bytes
