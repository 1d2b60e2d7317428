-- What the proofs about what is known use.
pub mod FirstEqual
pub mod HandOver
