-- What the contracts of the comparison say. In order: what the public calls answer and leave, what that promises of a pair's refusals, the
-- demands as clauses, and what private functions do.
pub mod Call
pub mod Promises
pub mod Clauses
pub mod Inner
