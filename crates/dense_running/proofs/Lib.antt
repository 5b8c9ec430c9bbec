-- Laws of running lists. In order: gates read the places of their qubits alone, how numbers grow, a list gate by gate, and a
-- column from its input on.
pub mod Locality
pub mod Growth
pub mod Stepwise
pub mod Starting
