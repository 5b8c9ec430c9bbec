-- What the contracts of the sorts without a pivot say.
pub mod Heap
