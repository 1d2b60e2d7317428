-- What the proofs about cells in order use.
pub mod BinarySearch
