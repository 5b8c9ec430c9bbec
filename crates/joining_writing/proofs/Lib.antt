-- The bytes of a gate whose qubits are numbered further on.
pub mod Bytes
