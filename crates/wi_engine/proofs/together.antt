-- What the proofs about the cells that are found together use.
pub mod Scans
pub mod Smallest
