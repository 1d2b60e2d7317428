-- What the proofs about the cells that each evaluation asks for use.
pub mod SureCells
