-- The dense comparison as a call. In order: what it answers and leaves, the table of its checks, and what its contract says of the answer.
pub mod Call
pub mod Promises
pub mod Clauses
