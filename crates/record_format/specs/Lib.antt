-- What a reader of the record layer must believe. In order: the format's numbers, gates, the refusal table's rows, reading a
-- record, what the answers' cases mean in document 01's numbers, writing a record, the report, why a call on two records is refused, and
-- what all this promises.
-- Inner is of the private functions alone.
pub mod Format
pub mod Gate
pub mod Typed
pub mod Row
pub mod Reading
pub mod Chunks
pub mod Answer
pub mod Writing
pub mod Report
pub mod Pair
pub mod Promises
pub mod Inner
