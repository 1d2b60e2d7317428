-- What the proofs about one evaluation use.
pub mod KnownValues
pub mod LackingCounts
