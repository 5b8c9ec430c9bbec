-- Lists run on a column.
pub mod Running
