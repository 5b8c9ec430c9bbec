-- The promises to users who compare by a join.
pub mod Promises
