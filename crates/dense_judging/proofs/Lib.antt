-- Laws of judging: tests over ranges, then what the tests on two columns mean.
pub mod Ranges
pub mod Fitting
