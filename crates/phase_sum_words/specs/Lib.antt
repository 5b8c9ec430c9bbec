-- Sets of variables over machine words.
pub mod Words
