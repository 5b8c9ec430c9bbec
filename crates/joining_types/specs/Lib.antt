-- Joins as calls. In order: what a call answers and leaves, what its contract says of the record that it wrote, the promises beside it, and,
-- of the private functions alone, Inner.
pub mod Call
pub mod Clauses
pub mod Promises
pub mod Inner
