-- Exact amplitudes in the machine's numbers.
pub mod Numbers
