-- The comparison of document 01. In order: the reduction as a function, its steps as a relation, the search and the verdict, the whole
-- course as a relation, the customer's demands as propositions, and document 01's pairs to try.
pub mod Reduction
pub mod Steps
pub mod Verdict
pub mod Course
pub mod Demands
pub mod Table
