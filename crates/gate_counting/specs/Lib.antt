-- What private functions do, for their contracts.
pub mod Inner
