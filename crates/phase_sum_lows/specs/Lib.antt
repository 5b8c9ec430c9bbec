-- What the keys of sorts know of their sets.
pub mod HighShared
