-- Laws behind the sorts without a pivot.
pub mod Heaps
