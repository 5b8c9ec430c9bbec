-- What the code's kinds of step stand for.
pub mod Kind
